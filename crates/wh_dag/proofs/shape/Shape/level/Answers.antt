use Rattle.wh_dag.proofs.Levels.{level_rule}
use Rattle.wh_dag.proofs.shape.Shape.level.Goals as goal

pub returns-clause-rule : goal.returns-clause-rule
returns-clause-rule c = rw (← c.self.view_is) (level_rule c.self.inside.children c.self.invariant.shape c.args.view)
