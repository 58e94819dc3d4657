use Rattle.std.proofs.Common.{◌∙◌}
use Rattle.wh_load.specs.ReadingShown.{shown_claim}
use Rattle.whview.proofs.Decided.{certify_answered}
use Rattle.whview.proofs.certify.answer.Goals as goal

pub returns : goal.returns
returns c =
    certify_answered c.args.costs c.args.bytes.now (shown_claim c.in-Ok.claim) c.in_ok-outcome.outcome c.of.result c.status-status.result
    c.in-Ok.ensures.ok c.in_ok-outcome.ensures (c.of.ensures ∙ c.in_ok-text.ensures) c.status-status.ensures
