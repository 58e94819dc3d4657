use Rattle.std.proofs.Common.{take}
use Rattle.wh_pieces.specs.Place.{AreRisingRows}
use Rattle.wh_row.proofs.BulkLaws.{IsHighest}
use Rattle.wh_row.proofs.records.Records.rises.Given as goal

abbrev pub invariant-loop-place : goal.invariant-loop-place
invariant-loop-place l =
    record {
      rising : AreRisingRows (take l.place l.self);
      highest : IsHighest l.last (take l.place l.self);
    }
