use Rattle.std.proofs.Common.{◌≡◌, ◌++◌, drop, map}
use Rattle.wh_store.specs.Inner.Kept.{opened_rows}
use Rattle.wh_store.proofs.tables.first_tables.Given as goal

abbrev pub invariant-loop-table : goal.invariant-loop-table
invariant-loop-table g l = l.first.items ++ map opened_rows (drop l.table-index l.tables) ≡ map opened_rows l.tables
