-- Rows that stand side by side, as they are read: what only proofs and private contracts use.
use Rattle.std.specs.Prelude.{ℕ, ℤ, pos, List, [], ◌∷◌, cond}
use Rattle.std.specs.Ordering.{int_eq}
use Rattle.wh_versions.specs.Rows.{Pairs, read}

-- what version s counts of the rows before the first that it does not show
abbrev pub leading : ℕ → List Pairs → List ℤ
leading s [] = []
leading s (ps ∷ rows) = cond (int_eq (read s ps) (pos 0)) [] (read s ps ∷ leading s rows)
