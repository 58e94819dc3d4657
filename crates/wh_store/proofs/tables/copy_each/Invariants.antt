use Rattle.std.proofs.Common.{◌≡◌, ◌++◌, drop}
use Rattle.wh_store.proofs.tables.copy_each.Given as goal

abbrev pub invariant-loop-table : goal.invariant-loop-table
invariant-loop-table g l = l.copy.items ++ drop l.table-index l.tables ≡ l.tables
