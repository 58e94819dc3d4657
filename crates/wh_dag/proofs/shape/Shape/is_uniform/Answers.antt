use Rattle.wh_dag.proofs.shape.Shape.is_uniform.Goals as goal

pub returns : goal.returns
returns c = rw (← c.self.view_is) c.is_uniform.ensures
