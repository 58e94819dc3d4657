use Rattle.wh_text_lines.proofs.BegunTrees.{begun_trees}
use Rattle.wh_text_lines.proofs.WholeTrees.{whole_trees}
use Rattle.wh_text_lines.proofs.plan.tree_lines_law.Goals as goal

pub returns : goal.returns
returns c = record { begun = begun_trees; whole = whole_trees }
