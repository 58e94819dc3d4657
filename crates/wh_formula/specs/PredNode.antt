-- What the node of a test is seen as.
use Rattle.wh_formula.specs.Pred.{PredTree, parts_of}
use Rattle.wh_formula.specs.Pred as tree
use Rattle.wh_formula.specs.declared.pred.PredNode.{PredNode}
use Rattle.wh_formula.specs.declared.pred.PredNode.TheVariants.{True, Cmp, All, Any, Not}

-- the tree, each part being seen as its own tree
abbrev pub tree_of : PredNode → PredTree
tree_of True = tree.True
tree_of (Cmp op a b) = tree.Cmp op a b
tree_of (All ps) = tree.AllOf (parts_of ps.items)
tree_of (Any ps) = tree.AnyOf (parts_of ps.items)
tree_of (Not p) = tree.Not p.value
