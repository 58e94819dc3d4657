-- What only proofs and private contracts use. Texts whose lines with words each say one thing: what they say is a list, in which each thing may follow those above it.
use Rattle.std.specs.Prelude.{◌++◌, ◌&&◌, Bool, true, List, [], ◌∷◌}

-- each of the later may follow those before it
abbrev pub each_follows : {Line : Type 0} → (List Line → Line → Bool) → List Line → List Line → Bool
each_follows follows before [] = true
each_follows follows before (line ∷ lines) = follows before line && each_follows follows (before ++ line ∷ []) lines
