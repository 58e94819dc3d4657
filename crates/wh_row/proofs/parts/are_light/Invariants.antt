use Rattle.std.proofs.Common.{◌≡◌, ◌+◌, take}
use Rattle.wh_row.specs.Records.{joined}
use Rattle.wh_row.specs.Inner.Parts.{weight}
use Rattle.wh_row.proofs.parts.are_light.Given as goal

abbrev pub invariant-loop-records : goal.invariant-loop-records
invariant-loop-records l = l.room + weight (joined (take l.records-index l.parts)) ≡ 9223372036854775807
