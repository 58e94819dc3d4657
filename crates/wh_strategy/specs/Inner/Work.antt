-- The work of a strategy: what each expression reads and writes, summed over the list: what only proofs and private contracts use.
use Rattle.std.specs.Prelude.{ℕ, List, if◌then◌else◌}
use Rattle.std.specs.List.{sum_by}
use Rattle.wh_dag.specs.Shape.{has}
use Rattle.wh_strategy.specs.Sums.{parts}

-- what all terms of a Comp from ys read of one child: its change in each part that has it, else its state
abbrev pub read_of : ℕ → ℕ → ℕ → List ℕ → ℕ
read_of change size child ys = sum_by (λ part. if has part child then change else size) (parts ys)
