use Rattle.wh_dag.proofs.FewCouples.{few_couples}
use Rattle.wh_dag.proofs.siblings.few_couples_law.Goals as goal

pub returns : goal.returns
returns c = few_couples
