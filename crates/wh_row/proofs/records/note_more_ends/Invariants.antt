use Rattle.std.proofs.Common.{◌≡◌, ◌++◌}
use Rattle.wh_row.specs.Inner.Flat.{even_ends}
use Rattle.wh_row.proofs.records.note_more_ends.Given as goal

abbrev pub invariant-loop-row : goal.invariant-loop-row
invariant-loop-row l = l.ends.items ≡ l.initial.ends.items ++ even_ends l.start l.width l.row
