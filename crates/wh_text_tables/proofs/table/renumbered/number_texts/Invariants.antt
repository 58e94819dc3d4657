use Rattle.std.proofs.Common.{◌≡◌}
use Rattle.std.specs.List.{AllZip}
use Rattle.wh_text.specs.Dict.{with_texts}
use Rattle.wh_text_tables.specs.Inner.Pieces.{IsNumbered, all_texts}
use Rattle.wh_text_tables.proofs.table.renumbered.number_texts.Given as goal

-- the texts of the pieces so far have their numbers
abbrev pub invariant-loop-piece : goal.invariant-loop-piece
invariant-loop-piece l = record {
  texts : l.dict ≡ with_texts l.fn.dict (all_texts l.yielded);
  numbers : AllZip (IsNumbered l.dict) l.yielded l.all.items;
}
