use Rattle.std.proofs.Common.{ℕ}
use Rattle.test_core.proofs.Given.{AreOfCatalog}
use Rattle.test_core.proofs.machine.given.nights.Given as goal

abbrev pub invariant-loop-changes : goal.invariant-loop-changes
invariant-loop-changes g l = AreOfCatalog l.catalog l.nights.items
