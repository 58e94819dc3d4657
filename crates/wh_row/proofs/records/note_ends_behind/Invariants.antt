use Rattle.std.proofs.Common.{◌≡◌, ◌++◌, take}
use Rattle.wh_row.specs.Inner.Flat.{ends_behind}
use Rattle.wh_row.proofs.records.note_ends_behind.Given as goal

abbrev pub invariant-loop-end : goal.invariant-loop-end
invariant-loop-end l = l.ends.items ≡ l.initial.ends.items ++ ends_behind l.cells (take l.end-index l.until)
