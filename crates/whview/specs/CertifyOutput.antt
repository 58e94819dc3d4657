-- What `certify` prints for the bytes of a bundle, and the status that it ends with.
use Rattle.std.specs.Prelude.{◌≡◌, ◌≢◌, ◌≤◌, ◌++◌, ℕ, List, codes, decimal, MatchResult}
use Rattle.wh_cert.specs.Certificate.{IsJudged}
use Rattle.wh_cert.specs.declared.certificate.Verdict.{Verdict}
use Rattle.wh_cert.specs.declared.certificate.Verdict.TheVariants.{All, OneWay, Rejected}
use Rattle.wh_load.specs.ReadingCertify.{Claim, claim_of}
use Rattle.wh_strategy.specs.declared.costs.Costs.{Costs}
use Rattle.wh_strategy.specs.declared.expression.Expression.{Expression}
use Rattle.wh_strategy.specs.declared.rule.Rule.{Rule}
use Rattle.wh_strategy.specs.Prices.{prices_of}
use Rattle.wh_strategy.specs.Rules.{IsCorrect, IsFirstBroken, IsOneWay}
use Rattle.wh_strategy.specs.Sizes.{sizes_of}
use Rattle.wh_strategy.specs.Work.{work_of}
use Rattle.whview.specs.CheckOutput.{IsFaultShown, broken_text, line}
use Rattle.whview.specs.Status.{status_number}
use Rattle.whview.specs.declared.certify.Outcome.{Outcome}
use Rattle.whview.specs.declared.certify.Outcome.TheVariants.{Broken, Judged, OtherWork}
use Rattle.whview.specs.declared.status.Status.{Status}
use Rattle.whview.specs.declared.status.Status.TheVariants.{Done, Negative}

-- the work that the plan's list has at these costs
abbrev pub work_at : Costs → Claim → ℕ
work_at costs claim = work_of claim.measured.shape.children (sizes_of claim.measured.sizes) (prices_of costs) claim.plan.strategy

-- no correct strategy costs less than the plan's work
abbrev pub IsLeastOfAll : Costs → Claim → Type 0
IsLeastOfAll costs claim =
    (other : List Expression) → IsCorrect claim.measured.shape.children other
    → claim.plan.work ≤ work_of claim.measured.shape.children (sizes_of claim.measured.sizes) (prices_of costs) other

-- no correct one-way strategy costs less than the plan's work
abbrev pub IsLeastOneWay : Costs → Claim → Type 0
IsLeastOneWay costs claim =
    (other : List Expression) → IsCorrect claim.measured.shape.children other → IsOneWay other
    → claim.plan.work ≤ work_of claim.measured.shape.children (sizes_of claim.measured.sizes) (prices_of costs) other

-- what a verdict says of the work of a plan that it certifies
abbrev pub IsLeastBy : Costs → Claim → Verdict → Type 0
IsLeastBy costs claim All = IsLeastOfAll costs claim
IsLeastBy costs claim OneWay = IsLeastOneWay costs claim
IsLeastBy costs claim (Rejected place) = Unit {0}

-- what is printed of a plan of this work by this verdict: against which strategies it is certified, or where its certificate is
-- rejected
abbrev pub verdict_text : ℕ → Verdict → List ℕ
verdict_text work All = line (codes "certified all work " ++ decimal work)
verdict_text work OneWay = line (codes "certified one-way work " ++ decimal work)
verdict_text work (Rejected place) = line (codes "rejected at " ++ decimal place)

-- the status of this verdict
abbrev pub verdict_status : Verdict → Status
verdict_status All = Done
verdict_status OneWay = Done
verdict_status (Rejected place) = Negative

-- What is printed of a claim, and the status: the first rule that the list breaks; else that its work is another one; else the
-- verdict on its certificate. Where it is certified, no strategy of its scope costs less.
pub data IsJudgement (costs : Costs) (claim : Claim) (text : List ℕ) (status : ℕ) : Type 0 where
  broken : (rule : Rule) (place : ℕ) → IsFirstBroken claim.measured.shape.children claim.plan.strategy rule place → text ≡ broken_text rule place → status ≡ 1 → IsJudgement costs claim text status
  other_work : IsCorrect claim.measured.shape.children claim.plan.strategy → work_at costs claim ≢ claim.plan.work → text ≡ line (codes "rejected work") → status ≡ 1 → IsJudgement costs claim text status
  judged : (verdict : Verdict) → IsCorrect claim.measured.shape.children claim.plan.strategy → work_at costs claim ≡ claim.plan.work
      → IsJudged claim.measured.shape.children (sizes_of claim.measured.sizes) (prices_of costs) (work_at costs claim) claim.plan.certificate verdict
      → IsLeastBy costs claim verdict → text ≡ verdict_text claim.plan.work verdict → status ≡ status_number (verdict_status verdict) → IsJudgement costs claim text status

-- this is decided of a claim
abbrev pub IsDecided : Costs → Claim → Outcome → Type 0
IsDecided costs claim (Broken rule place) = IsFirstBroken claim.measured.shape.children claim.plan.strategy rule place
IsDecided costs claim OtherWork = IsCorrect claim.measured.shape.children claim.plan.strategy × (work_at costs claim ≢ claim.plan.work)
IsDecided costs claim (Judged work verdict) =
    IsCorrect claim.measured.shape.children claim.plan.strategy × (work_at costs claim ≡ claim.plan.work) × (work ≡ claim.plan.work)
    × IsJudged claim.measured.shape.children (sizes_of claim.measured.sizes) (prices_of costs) (work_at costs claim) claim.plan.certificate verdict
    × IsLeastBy costs claim verdict

-- what is printed of what was decided
abbrev pub text_of : Outcome → List ℕ
text_of (Broken rule place) = broken_text rule place
text_of OtherWork = line (codes "rejected work")
text_of (Judged work verdict) = verdict_text work verdict

-- the status of what was decided
abbrev pub status_of : Outcome → Status
status_of (Broken rule place) = Negative
status_of OtherWork = Negative
status_of (Judged work verdict) = verdict_status verdict

-- what `certify` prints for a bundle's bytes, and the status
abbrev pub IsCertifyOutput : Costs → List ℕ → List ℕ → ℕ → Type 0
IsCertifyOutput costs bytes text status =
    MatchResult (claim_of bytes) (λ claim. IsJudgement costs claim text status) (λ fault. IsFaultShown fault text status)
