use Rattle.std.proofs.Common.{rules, ◌≡◌, sym, ◌∙◌, subst}
use Rattle.wh_strategy.specs.Prices.{prices_of}
use Rattle.wh_strategy.specs.Sizes.{sizes_of}
use Rattle.wh_cert.specs.Certificate.{IsJudged}
use Rattle.wh_cert.proofs.OneVerdict.{verdicts_same}
use Rattle.wh_prune.specs.Plan.{accepted_for}
use Rattle.wh_prune.proofs.least.certified.Goals as goal

pub unreachable-requires : goal.unreachable-requires
unreachable-requires c =
    let shape = c.args.shape.now.children in
    let sizes = sizes_of c.args.sizes.now in
    let costs = c.args.costs in
    let planned = c.args.planned in
    let same : c.certify-verdict.result ≡ accepted_for planned.scope =
    verdicts_same shape sizes (prices_of costs) planned.work planned.certificate c.certify-verdict.result (accepted_for planned.scope)
    (subst (λ w. IsJudged shape sizes (prices_of costs) w planned.certificate c.certify-verdict.result) (sym c.requires.work) c.certify-verdict.ensures.judged)
    c.requires.certified in
    let equal : c.certify-verdict.result ≡ c.accepted_for.result = same ∙ sym c.accepted_for.ensures in
    search (rules, equal)
