use Rattle.std.proofs.Common.{◌≡◌, [], take, drop}
use Rattle.wh_strategy.specs.Earlier.{Tells}
use Rattle.wh_strategy.specs.Tests.{place_from}
use Rattle.wh_strategy.proofs.prefix.first_place.Given as goal

abbrev pub invariant-loop-i : goal.invariant-loop-i
invariant-loop-i l = record {
  places : place_from l.rule l.children (take l.i l.list) (drop l.i l.list) ≡ place_from l.rule l.children [] l.list;
  tells : Tells l.tables (take l.i l.list);
}
