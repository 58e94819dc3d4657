use Rattle.std.proofs.Common.{◌≡◌, take, length, IfSome}
use Rattle.wh_row.specs.Records.{joined}
use Rattle.wh_row.specs.Inner.Added.{AreAddedUp}
use Rattle.wh_row.proofs.added.added_up.Given as goal

abbrev pub invariant-loop-records : goal.invariant-loop-records
invariant-loop-records l = record {
  up : AreAddedUp (joined (take l.records-index l.parts)) l.bag;
  many : IfSome l.before (λ many. many ≡ length (joined (take l.records-index l.parts)));
}
