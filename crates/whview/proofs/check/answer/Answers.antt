use Rattle.std.proofs.Common.{◌∙◌}
use Rattle.wh_load.specs.ReadingShown.{shown_check}
use Rattle.whview.proofs.Decided.{check_answered}
use Rattle.whview.proofs.check.answer.Goals as goal

pub returns : goal.returns
returns c =
    check_answered c.args.costs c.args.bytes.now (shown_check c.in-Ok.input) c.in_ok-outcome.outcome c.of.result c.status-status.result
    c.in-Ok.ensures.ok c.in_ok-outcome.ensures (c.of.ensures ∙ c.in_ok-text.ensures) c.status-status.ensures
