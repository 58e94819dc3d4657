use Rattle.wh_versions.proofs.ShownLaws.{tables_count}
use Rattle.wh_versions.proofs.laws.tables_count_law.Goals as goal

pub returns : goal.returns
returns c = tables_count
