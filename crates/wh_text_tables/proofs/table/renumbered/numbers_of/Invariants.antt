use Rattle.std.proofs.Common.{◌≡◌, take, length}
use Rattle.wh_text.specs.Dict.{with_texts}
use Rattle.wh_text_tables.specs.Inner.Pieces.{AreNumbers}
use Rattle.wh_text_tables.proofs.table.renumbered.numbers_of.Given as goal

-- the texts so far have their numbers
abbrev pub invariant-loop-place : goal.invariant-loop-place
invariant-loop-place l =
    (l.dict ≡ with_texts l.fn.dict (take l.place l.texts))
    × (length l.numbers.items ≡ l.place)
    × AreNumbers l.dict (take l.place l.texts) l.numbers.items
