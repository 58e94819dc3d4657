use Rattle.std.proofs.Common.{◌≡◌, ◌+◌, length}
use Rattle.wh_versions.proofs.table.VersionTable.new.Given as goal

abbrev pub invariant-loop : goal.invariant-loop
invariant-loop g l = length l.touched.items + 1 ≡ l.counter
