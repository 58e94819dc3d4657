-- What is decided of a plan that was judged, from its parts.
use Rattle.std.proofs.Common.{◌≡◌, ◌≤◌, ℕ, List, refl, subst}
use Rattle.wh_cert.specs.Certificate.{IsJudged}
use Rattle.wh_cert.specs.declared.certificate.Verdict.{Verdict}
use Rattle.wh_cert.specs.declared.certificate.Verdict.TheVariants.{All, OneWay, Rejected}
use Rattle.wh_load.specs.ReadingCertify.{Claim}
use Rattle.wh_strategy.specs.declared.expression.Expression.{Expression}
use Rattle.wh_strategy.specs.Prices.{prices_of}
use Rattle.wh_strategy.specs.Sizes.{sizes_of}
use Rattle.wh_strategy.specs.Work.{work_of}
use Rattle.wh_strategy.specs.declared.costs.Costs.{Costs}
use Rattle.wh_strategy.specs.Rules.{IsCorrect, IsOneWay}
use Rattle.whview.specs.CertifyOutput.{IsDecided, IsLeastBy}
use Rattle.whview.specs.declared.certify.Outcome.TheVariants.{Judged}

least_by : (costs : Costs) (claim : Claim) (verdict : Verdict) (work : ℕ) → work ≡ claim.plan.work
    → (verdict ≡ All → (other : List Expression) → IsCorrect claim.measured.shape.children other → work ≤ work_of claim.measured.shape.children (sizes_of claim.measured.sizes) (prices_of costs) other)
    → (verdict ≡ OneWay → (other : List Expression) → IsCorrect claim.measured.shape.children other → IsOneWay other → work ≤ work_of claim.measured.shape.children (sizes_of claim.measured.sizes) (prices_of costs) other)
    → IsLeastBy costs claim verdict
least_by costs claim All work e least one_way =
    λ other is. subst (λ w. w ≤ work_of claim.measured.shape.children (sizes_of claim.measured.sizes) (prices_of costs) other) e (least refl other is)
least_by costs claim OneWay work e least one_way =
    λ other is way. subst (λ w. w ≤ work_of claim.measured.shape.children (sizes_of claim.measured.sizes) (prices_of costs) other) e (one_way refl other is way)
least_by costs claim (Rejected place) work e least one_way = tt

pub verdict_decided : (costs : Costs) (claim : Claim) (list : List Expression) (verdict : Verdict) → list ≡ claim.plan.strategy → IsCorrect claim.measured.shape.children claim.plan.strategy
    → work_of claim.measured.shape.children (sizes_of claim.measured.sizes) (prices_of costs) list ≡ claim.plan.work
    → IsJudged claim.measured.shape.children (sizes_of claim.measured.sizes) (prices_of costs) (work_of claim.measured.shape.children (sizes_of claim.measured.sizes) (prices_of costs) list) claim.plan.certificate verdict
    → (verdict ≡ All → (other : List Expression) → IsCorrect claim.measured.shape.children other → work_of claim.measured.shape.children (sizes_of claim.measured.sizes) (prices_of costs) list ≤ work_of claim.measured.shape.children (sizes_of claim.measured.sizes) (prices_of costs) other)
    → (verdict ≡ OneWay → (other : List Expression) → IsCorrect claim.measured.shape.children other → IsOneWay other → work_of claim.measured.shape.children (sizes_of claim.measured.sizes) (prices_of costs) list ≤ work_of claim.measured.shape.children (sizes_of claim.measured.sizes) (prices_of costs) other)
    → IsDecided costs claim (Judged claim.plan.work verdict)
verdict_decided costs claim list verdict same is work of least one_way = (
  is,
  subst (λ l. work_of claim.measured.shape.children (sizes_of claim.measured.sizes) (prices_of costs) l ≡ claim.plan.work) same work,
  refl,
  subst (λ l. IsJudged claim.measured.shape.children (sizes_of claim.measured.sizes) (prices_of costs) (work_of claim.measured.shape.children (sizes_of claim.measured.sizes) (prices_of costs) l) claim.plan.certificate verdict) same of,
  least_by costs claim verdict _ work least one_way,
)
