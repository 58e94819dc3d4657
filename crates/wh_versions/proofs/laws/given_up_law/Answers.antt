use Rattle.wh_versions.proofs.RowLaws.{each_reads_back}
use Rattle.wh_versions.proofs.laws.given_up_law.Goals as goal

pub returns : goal.returns
returns c = each_reads_back
