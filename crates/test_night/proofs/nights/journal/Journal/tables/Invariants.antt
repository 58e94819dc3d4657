use Rattle.std.proofs.Common.{◌≡◌, take}
use Rattle.wh_store.specs.Ledgers.{versions_in}
use Rattle.test_night.proofs.nights.journal.Journal.tables.Given as goal

abbrev pub invariant-loop-view : goal.invariant-loop-view
invariant-loop-view l = l.tables.items ≡ take l.view (versions_in l.self.of l.self.list).newest
