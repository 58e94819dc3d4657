use Rattle.std.proofs.Common.{◌≡◌, ◌++◌, length}
use Rattle.std.specs.Vec.Iter.{into_iter_items, into_iter_len}
use Rattle.wh_text_tables.specs.Inner.TableWritten.{whole_text, AreDone}
use Rattle.wh_text_tables.proofs.table.written.append_each.Given as goal

abbrev pub invariant-loop-text : goal.invariant-loop-text
invariant-loop-text l =
    record {
      so_far : l.out ++ whole_text (into_iter_items l.text-iterator) ≡ l.fn.out ++ whole_text l.fn.texts.items;
      done : AreDone (into_iter_items l.text-iterator) → AreDone l.fn.texts.items;
      left : into_iter_len l.text-iterator ≡ length (into_iter_items l.text-iterator);
    }
