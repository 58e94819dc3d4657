use Rattle.std.proofs.Common.{sym, subst}
use Rattle.std.specs.List.{All}
use Rattle.wh_strategy.specs.Prices.{prices_of}
use Rattle.wh_strategy.specs.Sizes.{sizes_of}
use Rattle.wh_cert.specs.Search.{IsAcceptedTree, nodes_of}
use Rattle.wh_cert.specs.Tree.{IsTreeOf, tree_of}
use Rattle.wh_prune.specs.Branching.{BranchesOnCycle}
use Rattle.wh_prune.proofs.Exploring.{accepted, branches_on_cycles, is_tree, least_found}
use Rattle.wh_prune.proofs.search.reason.Goals as goal

pub unreachable-requires : goal.unreachable-requires
unreachable-requires c =
    c.in-None.ensures (tree_of c.args.nodes.items)
    (is_tree c.args.shape.now.children (sizes_of c.args.sizes.now) (prices_of c.args.costs) c.args.work c.args.nodes.items c.requires.shape c.requires.explored)

pub returns-clause-certified : goal.returns-clause-certified
returns-clause-certified c = (
  subst (λ z. IsTreeOf z (tree_of z)) (sym c.in-Some.ensures)
      (is_tree c.args.shape.now.children (sizes_of c.args.sizes.now) (prices_of c.args.costs) c.args.work c.args.nodes.items c.requires.shape c.requires.explored),
  subst (λ z. IsAcceptedTree c.args.shape.now.children (sizes_of c.args.sizes.now) (prices_of c.args.costs) c.args.work (tree_of z)) (sym c.in-Some.ensures)
      (accepted c.args.shape.now.children (sizes_of c.args.sizes.now) (prices_of c.args.costs) c.args.work _ c.args.nodes.items c.requires.explored),
)

pub returns-clause-branches : goal.returns-clause-branches
returns-clause-branches c =
    subst (λ z. All (BranchesOnCycle c.args.shape.now.children (sizes_of c.args.sizes.now)) (nodes_of (tree_of z))) (sym c.in-Some.ensures)
    (branches_on_cycles c.args.shape.now.children (sizes_of c.args.sizes.now) (prices_of c.args.costs) c.args.work _ c.args.nodes.items c.requires.explored)

pub returns-clause-least_one_way : goal.returns-clause-least_one_way
returns-clause-least_one_way c list co ow =
    least_found c.args.shape.now.children (sizes_of c.args.sizes.now) (prices_of c.args.costs) c.args.work _ c.args.nodes.items c.requires.shape c.requires.explored list co ow
