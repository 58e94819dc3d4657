use Rattle.std.proofs.Common.{subst, sym}
use Rattle.test_core.proofs.Given.{AreOfCatalog, are_given, one_more}
use Rattle.test_core.proofs.machine.given.nights.Goals as goal

pub loop-changes-preserved : goal.loop-changes-preserved
loop-changes-preserved g c =
    subst (AreOfCatalog c.args.catalog.now) (sym c.in_ok-push.ensures.items)
    (one_more c.args.catalog.now c.loop-changes.nights.items c.in_ok-night.field-0 c.loop-changes.invariant c.in_ok-night.ensures.given c.in_ok-night.ensures.judged)

pub returns-clause-given : goal.returns-clause-given
returns-clause-given g c = are_given c.args.catalog.now c.loop-changes.nights.items c.loop-changes.invariant
