use Rattle.wh_dag.proofs.Shown.{law}
use Rattle.wh_dag.proofs.fitting.fit_law.Goals as goal

pub returns : goal.returns
returns c = law
