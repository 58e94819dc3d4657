use Rattle.wh_versions.proofs.OpeningLaws.{size_small}
use Rattle.wh_versions.proofs.table.VersionTable.count.Goals as goal

pub count_of-requires : goal.count_of-requires
count_of-requires g c = size_small g.row.N c.self.invariant.few
