-- What calls over a catalogue ask of their tables, changes and sources: what only proofs and private contracts use.
use Rattle.std.specs.Prelude.{ℕ, ◌&&◌, not, Bool, true, List, [], ◌∷◌}
use Rattle.wh_dag.specs.Shape.{has}

-- a test of each of these being among the others
abbrev pub are_among : List ℕ → List ℕ → Bool
are_among [] others = true
are_among (u ∷ us) others = has others u && are_among us others

-- a test of none standing twice in the list
abbrev pub are_distinct : List ℕ → Bool
are_distinct [] = true
are_distinct (u ∷ us) = not (has us u) && are_distinct us
