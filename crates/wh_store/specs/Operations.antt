-- What a writer does to a warehouse, one operation after another.
use Rattle.std.specs.Prelude.{ℕ}
use Rattle.wh_row.specs.Stored.{plain}
use Rattle.wh_row.specs.Weigh.{Counted}
use Rattle.wh_store.specs.declared.operation.Op.{Op}
use Rattle.wh_store.specs.declared.operation.Op.TheVariants.{Begin, Put, Commit, GiveUp}

-- a night begins, new counts of some rows of a view are written, and the night ends by a new version or is given up
pub data Operation : Type 0 where
  Opens : Operation
  Writes : (view : ℕ) → (rows : Counted) → Operation
  Commits : Operation
  Gives_up : Operation

-- the operation that a value of the code is
abbrev pub operation : Op → Operation
operation Begin = Opens
operation (Put view rows) = Writes view (plain rows.items)
operation Commit = Commits
operation GiveUp = Gives_up
