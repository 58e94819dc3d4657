use Rattle.wh_versions.proofs.PlaceLaws.{none_stored}
use Rattle.wh_versions.proofs.row.VersionRow.none.Goals as goal

pub invariant_of-result : goal.invariant_of-result
invariant_of-result g c = (none_stored g.row.N).stored

pub returns : goal.returns
returns g c = (none_stored g.row.N).pairs
