use Rattle.std.proofs.Common.{◌≤◌, subst}
use Rattle.wh_strategy.specs.Prices.{prices_of}
use Rattle.wh_strategy.specs.Sizes.{sizes_of}
use Rattle.wh_strategy.specs.Work.{work_of}
use Rattle.wh_cert.specs.Tree.{tree_of}
use Rattle.wh_cert.proofs.Trees.{accepted_shows}
use Rattle.wh_cert.proofs.acceptance.judge_tree.Goals as goal

pub returns-in-None-clause-one_way : goal.returns-in-None-clause-one_way
returns-in-None-clause-one_way c e list co ow =
    let shape = c.args.shape.now.children in
    let sizes = sizes_of c.args.sizes.now in
    subst (λ n. n ≤ work_of shape sizes (prices_of c.args.costs) list) c.work-work.ensures
    (accepted_shows shape sizes (prices_of c.args.costs) c.work-work.result (tree_of c.args.tree.now) list c.child_lists-lists.ensures.shape c.in-None.ensures co ow)
