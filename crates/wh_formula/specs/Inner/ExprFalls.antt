-- Each part of an expression has fewer levels than the whole.
use Rattle.std.specs.Prelude.{◌≤◌, max}
use Rattle.std.proofs.Common.{arith}
use Rattle.wh_formula.specs.Expr.{depth}
use Rattle.wh_formula.specs.ExprNode.{tree_of}
use Rattle.wh_formula.specs.declared.expr.ExprNode.{ExprNode}
use Rattle.wh_formula.specs.declared.expr.ExprNode.TheVariants.{Column, Number, Add, Sub, Mul}
use Rattle.wh_formula.specs.declared.expr.Expr.TheDeep.{deep-ExprNode}

-- no part has as many levels as the whole
pub deep_le-depth : (n : ExprNode) → max (deep-ExprNode n) 0 ≤ depth (tree_of n)
deep_le-depth (Column place) = omega arith
deep_le-depth (Number n) = omega arith
deep_le-depth (Add a b) = omega arith
deep_le-depth (Sub a b) = omega arith
deep_le-depth (Mul a b) = omega arith
