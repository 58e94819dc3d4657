use Rattle.std.proofs.Common.{◌∙◌, sym}
use Rattle.wh_load.specs.ReadingShown.{shown_claim}
use Rattle.whview.proofs.Certified.{verdict_decided}
use Rattle.whview.proofs.certify.decide.Goals as goal

pub returns : goal.returns
returns c =
    verdict_decided c.args.costs (shown_claim c.args.claim) c.in-Ok.correct.list c.certify-verdict.result
    c.in-Ok.ensures.ok.1 c.in-Ok.ensures.ok.2 (sym c.work.ensures ∙ c.if-work-claimed.false) c.certify-verdict.ensures.judged c.certify-verdict.ensures.least c.certify-verdict.ensures.one_way
