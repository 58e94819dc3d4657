use Rattle.std.proofs.Common.{subst}
use Rattle.wh_prune.specs.Plan.{IsPlanReason}
use Rattle.wh_strategy.specs.Prices.{prices_of}
use Rattle.wh_strategy.specs.Sizes.{sizes_of}
use Rattle.whview.proofs.plan.decide.Goals as goal

pub returns-in-Ok : goal.returns-in-Ok
returns-in-Ok c = (c.in-Ok.ensures.least, c.in-Ok.ensures.by_order, c.in-Ok.ensures.within)

pub returns-in-Err-Budget : goal.returns-in-Err-Budget
returns-in-Err-Budget c =
    subst (IsPlanReason c.args.measured.now.shape.children (sizes_of c.args.measured.now.sizes) (prices_of c.args.costs) c.args.budget.nodes) c.in-Err-Budget.field-0-is c.in-Err-Budget.ensures.err
