use Rattle.std.proofs.Common.{◌≡◌, ◌++◌}
use Rattle.wh_text_tables.specs.Inner.TableWritten.{rows_text}
use Rattle.wh_text_tables.proofs.table.write.append_rows.Given as goal

abbrev pub invariant-loop-row : goal.invariant-loop-row
invariant-loop-row l =
    record {
      next : (goal.iterator-loop-row).can_next l.row-iterator × (goal.iterator-loop-row).is_finite l.row-iterator;
      so_far : l.out.items ++ rows_text l.columns l.dict l.row-iterator ≡ l.fn.out.items ++ rows_text l.columns l.dict l.fn.rows;
    }
