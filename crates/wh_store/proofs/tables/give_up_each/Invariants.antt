use Rattle.std.proofs.Common.{◌≡◌, take}
use Rattle.std.specs.List.{AllByRecursion}
use Rattle.wh_store.specs.Inner.Kept.{Begins, Returns, back_rows, begun_rows}
use Rattle.wh_store.proofs.RowLaws.{some_changed}
use Rattle.wh_store.proofs.tables.give_up_each.Given as goal

abbrev pub invariant-loop-table : goal.invariant-loop-table
invariant-loop-table g l =
    record {
      rows : l.tables ≡ some_changed back_rows l.table-index l.fn.tables;
      returns : AllByRecursion Returns (take l.table-index l.fn.tables);
    }
