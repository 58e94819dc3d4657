use Rattle.wh_versions.proofs.RowLaws.{each_put_is_read}
use Rattle.wh_versions.proofs.laws.puts_law.Goals as goal

pub returns : goal.returns
returns c = each_put_is_read
