use Rattle.wh_dag.proofs.shape.Shape.is_tree.Goals as goal

pub returns : goal.returns
returns c = rw (← c.self.view_is) c.is_tree.ensures
