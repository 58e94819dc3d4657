use Rattle.std.proofs.Common.{◌≡◌, drop}
use Rattle.wh_versions.specs.Rows.{read}
use Rattle.wh_versions.specs.Inner.Rows.{pairs_of}
use Rattle.wh_versions.proofs.row.read_places.Given as goal

abbrev pub invariant-loop-place : goal.invariant-loop-place
invariant-loop-place l = read l.version (pairs_of (drop l.place l.numbers) (drop l.place l.counts)) ≡ read l.version (pairs_of l.numbers l.counts)
