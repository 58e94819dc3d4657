use Rattle.std.proofs.Common.{◌≡◌, ◌+◌, take}
use Rattle.wh_row.specs.Inner.Parts.{weight}
use Rattle.wh_row.proofs.records.Records.room_left.Given as goal

abbrev pub invariant-loop-place : goal.invariant-loop-place
invariant-loop-place l = l.left + weight (take l.place l.self) ≡ l.room
