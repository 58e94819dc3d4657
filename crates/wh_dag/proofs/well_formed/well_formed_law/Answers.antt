use Rattle.wh_dag.proofs.Faultless.{law}
use Rattle.wh_dag.proofs.FirstFaults.{by_places}
use Rattle.wh_dag.proofs.well_formed.well_formed_law.Goals as goal

pub returns-clause-faultless : goal.returns-clause-faultless
returns-clause-faultless c = law

pub returns-clause-first : goal.returns-clause-first
returns-clause-first c = by_places
