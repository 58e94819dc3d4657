use Rattle.std.proofs.Common.{ℕ, List, take}
use Rattle.wh_text.specs.Columns.{kinds_of}
use Rattle.wh_text_tables.specs.Inner.Pieces.{AreNumbers, IsPartRenumbered}
use Rattle.wh_text_tables.proofs.table.renumbered.renumbered.Given as goal

-- the records so far are renumbered
abbrev pub invariant-loop-place : goal.invariant-loop-place
invariant-loop-place l = (dict texts : List (List ℕ)) → AreNumbers dict texts l.numbers → IsPartRenumbered (kinds_of l.columns) dict texts (take l.place l.records) l.all
