use Rattle.std.proofs.Common.{ℕ, List, take}
use Rattle.wh_text.specs.Columns.{kinds_of}
use Rattle.wh_text_tables.specs.Inner.Pieces.{AreNumbers, IsRenumbered}
use Rattle.wh_text_tables.proofs.table.renumbered.renumber.Given as goal

-- the cells so far are renumbered
abbrev pub invariant-loop-place : goal.invariant-loop-place
invariant-loop-place l = (texts dict : List (List ℕ)) → AreNumbers dict texts l.numbers → IsRenumbered (kinds_of (take l.place l.columns)) dict texts (take l.place l.row) l.out.items
