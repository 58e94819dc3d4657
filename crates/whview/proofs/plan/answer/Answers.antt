use Rattle.std.proofs.Common.{◌∙◌}
use Rattle.wh_load.specs.ReadingShown.{shown_measured}
use Rattle.whview.proofs.Decided.{plan_answered}
use Rattle.whview.proofs.plan.answer.Goals as goal

pub returns : goal.returns
returns c =
    plan_answered c.args.costs c.args.budget.nodes c.args.bytes.now (shown_measured c.in-Ok.measured) c.in_ok-outcome.outcome c.of.result c.status-status.result
    c.in-Ok.ensures.ok c.in_ok-outcome.ensures (c.of.ensures ∙ c.in_ok-text.ensures) c.status-status.ensures
