use Rattle.wh_cert.proofs.Tables.{related_none}
use Rattle.wh_cert.proofs.relation.Relation.new.Goals as goal

pub returns : goal.returns
returns c u w = related_none u w
