-- Each part of a test has fewer levels than the whole.
use Rattle.std.specs.Prelude.{◌≤◌, ◌+◌, max, List, [], ◌∷◌}
use Rattle.std.proofs.Common.{arith}
use denote.Param.Weighed.{most}
use Rattle.wh_formula.specs.Pred.{PredTree, depth, most_levels, parts_of}
use Rattle.wh_formula.specs.PredNode.{tree_of}
use Rattle.wh_formula.specs.declared.pred.PredNode.{PredNode}
use Rattle.wh_formula.specs.declared.pred.PredNode.TheVariants.{True, Cmp, All, Any, Not}
use Rattle.wh_formula.specs.declared.pred.Pred.TheDeep.{deep-PredNode}

most_le-most_levels : (ps : List PredTree) → most (λ p. depth p + 1) ps ≤ most_levels (parts_of ps) + 1
most_le-most_levels [] = omega arith
most_le-most_levels (p ∷ ps) = omega (arith, most_le-most_levels ps)

-- no part has as many levels as the whole
pub deep_le-depth : (n : PredNode) → max (deep-PredNode n) 0 ≤ depth (tree_of n)
deep_le-depth True = omega arith
deep_le-depth (Cmp op a b) = omega arith
deep_le-depth (All ps) = omega (arith, most_le-most_levels ps.items)
deep_le-depth (Any ps) = omega (arith, most_le-most_levels ps.items)
deep_le-depth (Not p) = omega arith
