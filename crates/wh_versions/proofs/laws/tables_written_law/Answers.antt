use Rattle.wh_versions.proofs.WrittenLaws.{tables_written}
use Rattle.wh_versions.proofs.laws.tables_written_law.Goals as goal

pub returns : goal.returns
returns c = tables_written
