use Rattle.std.proofs.Common.{take}
use Rattle.wh_text.specs.Columns.{kinds_of}
use Rattle.wh_text_tables.specs.Inner.Pieces.{AreWholeNumbers}
use Rattle.wh_text_tables.proofs.table.renumbered.have_texts.Given as goal

abbrev pub invariant-loop-column : goal.invariant-loop-column
invariant-loop-column l = AreWholeNumbers (kinds_of (take l.column-index l.columns))
