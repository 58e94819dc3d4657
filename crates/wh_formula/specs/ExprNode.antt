-- What the node of an expression is seen as.
use Rattle.wh_formula.specs.Expr.{ExprTree}
use Rattle.wh_formula.specs.Expr as tree
use Rattle.wh_formula.specs.declared.expr.ExprNode.{ExprNode}
use Rattle.wh_formula.specs.declared.expr.ExprNode.TheVariants.{Column, Number, Add, Sub, Mul}

-- the tree, each part being seen as its own tree
abbrev pub tree_of : ExprNode → ExprTree
tree_of (Column place) = tree.Column place
tree_of (Number n) = tree.Number n
tree_of (Add a b) = tree.Add a.value b.value
tree_of (Sub a b) = tree.Sub a.value b.value
tree_of (Mul a b) = tree.Mul a.value b.value
