use Rattle.std.proofs.Common.{◌≡◌, List, take, drop}
use Rattle.std.specs.List.{All}
use Rattle.wh_strategy.specs.Prices.{prices_of}
use Rattle.wh_strategy.specs.Sizes.{sizes_of}
use Rattle.wh_cert.specs.Search.{IsGoodNode, nodes_of}
use Rattle.wh_cert.specs.Tree.{CaseTree, tree_of}
use Rattle.wh_cert.proofs.Descents.{ahead}
use Rattle.wh_cert.proofs.search.first_bad.Given as goal

abbrev pub invariant-loop-i : goal.invariant-loop-i
invariant-loop-i l = record {
  good : All (IsGoodNode l.shape.children (sizes_of l.sizes) (prices_of l.costs) l.work) (take l.i (nodes_of (tree_of l.tree)));
  trees : List CaseTree;
  rest : drop l.i (nodes_of (tree_of l.tree)) ≡ ahead l.above trees;
}
