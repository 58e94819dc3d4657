use Rattle.std.proofs.Common.{◌≡◌, ◌≤◌, ◌*◌, take}
use Rattle.wh_row.specs.Bag.{bag_of}
use Rattle.wh_row.specs.Records.{joined}
use Rattle.wh_row.specs.Inner.Parts.{weight}
use Rattle.wh_row.proofs.parts.parts_alone.Given as goal

abbrev pub invariant-loop-records : goal.invariant-loop-records
invariant-loop-records l =
    record {
      bag : l.all ≡ bag_of (joined (take l.records-index l.parts));
      light : weight (joined (take l.records-index l.parts)) ≤ l.room * l.records-index;
    }
