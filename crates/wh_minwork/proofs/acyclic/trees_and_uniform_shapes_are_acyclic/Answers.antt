use Rattle.wh_minwork.proofs.Ranks.{kinds_have_no_cycle}
use Rattle.wh_minwork.proofs.acyclic.trees_and_uniform_shapes_are_acyclic.Goals as goal

pub returns : goal.returns
returns c = kinds_have_no_cycle
