-- What `plan` prints, read back and certified.
use Rattle.std.specs.Prelude.{◌≡◌, ◌++◌, ℕ, List, [], ◌∷◌, None, Ok, codes}
use Rattle.wh_cert.specs.declared.certificate.Certificate.{Certificate}
use Rattle.wh_cert.specs.declared.certificate.Scope.{Scope}
use Rattle.wh_text_bundle.specs.Bundle.{parts_of}
use Rattle.wh_text_bundle.specs.Find.{found}
use Rattle.wh_text_bundle.specs.declared.bundle.heading.Heading.TheVariants as heading
use Rattle.wh_text_lines.specs.PlanText.{plan_of, plan_text}
use Rattle.wh_text_lines.specs.declared.plan.Plan.{Plan}
use Rattle.wh_load.specs.ReadingCertify.{Claim, claim_of}
use Rattle.wh_load.specs.ReadingPlan.{Measured, measured_of}
use Rattle.wh_strategy.specs.declared.costs.Costs.{Costs}
use Rattle.wh_strategy.specs.declared.expression.Expression.{Expression}
use Rattle.wh_strategy.specs.Prices.{prices_of}
use Rattle.wh_prune.specs.Plan.{accepted_for}
use Rattle.whview.specs.CertifyOutput.{IsCertifyOutput, IsJudgement, verdict_text}
use Rattle.whview.specs.PlanOutput.{IsLeastFor, IsPlanOutput}

-- the plan of this scope, work, list and certificate
abbrev pub plan_with : Scope → ℕ → List Expression → Certificate → Plan
plan_with scope work list certificate = record { scope = scope; work = work; strategy = list; certificate = certificate }

-- this plan for these views and sizes
abbrev pub claim_with : Measured → Plan → Claim
claim_with measured plan = record { measured = measured; plan = plan }

-- what `certify` prints of a plan of this scope and work that it accepts
abbrev pub accepted_text : Scope → ℕ → List ℕ
accepted_text scope work = verdict_text work (accepted_for scope)

-- the text of a plan of least work for what the bytes of a bundle say is read back as that plan
abbrev pub PrintedPlanIsReadBack : Type 0
PrintedPlanIsReadBack =
    (costs : Costs) (bytes : List ℕ) (measured : Measured) (work : ℕ) (scope : Scope) (list : List Expression) (certificate : Certificate) →
    measured_of bytes ≡ Ok measured → IsLeastFor (prices_of costs) measured work scope list certificate →
    plan_of measured.shape.names (plan_text measured.shape.names scope work list certificate) ≡ Ok (plan_with scope work list certificate)

-- a plan of least work for these views and sizes, with its certificate, is certified at the same costs
abbrev pub LeastPlanIsCertified : Type 0
LeastPlanIsCertified =
    (costs : Costs) (measured : Measured) (work : ℕ) (scope : Scope) (list : List Expression) (certificate : Certificate) →
    IsLeastFor (prices_of costs) measured work scope list certificate →
    IsJudgement costs (claim_with measured (plan_with scope work list certificate)) (accepted_text scope work) 0

-- the line that opens a plan's part
abbrev pub plan_opening : List ℕ
plan_opening = codes "@plan" ++ 10 ∷ []

-- a bundle's bytes with this text under `@plan`, below all else
abbrev pub with_plan : List ℕ → List ℕ → List ℕ
with_plan bytes text = bytes ++ (plan_opening ++ text)

-- the bytes end with a line's end
abbrev pub EndsLine : List ℕ → Type 0
EndsLine bytes = (before : List ℕ) × (bytes ≡ before ++ 10 ∷ [])

-- no part of the bundle has the heading `@plan`
abbrev pub HasNoPlan : List ℕ → Type 0
HasNoPlan bytes = found heading.Plan 0 (parts_of bytes) ≡ None

-- This text is a plan for what the bytes of a bundle say. It is read in another bundle as it was, and certified there at the same costs for
-- its scope.
pub record IsReadBackIn (costs : Costs) (bytes text bundle : List ℕ) : Type 0 where
  pub measured : Measured
  pub work : ℕ
  pub scope : Scope
  pub list : List Expression
  pub certificate : Certificate
  pub asked : measured_of bytes ≡ Ok measured
  pub least : IsLeastFor (prices_of costs) measured work scope list certificate
  pub printed : text ≡ plan_text measured.shape.names scope work list certificate
  pub read : claim_of bundle ≡ Ok (claim_with measured (plan_with scope work list certificate))
  pub certified : IsCertifyOutput costs bundle (accepted_text scope work) 0

-- In each bundle that ends with a line's end and has no `@plan`, the text that `plan` prints for it is put under `@plan`. That bundle gives
-- that plan, and `certify` accepts it
abbrev pub PrintedPlanIsCertified : Type 0
PrintedPlanIsCertified =
    (costs : Costs) (budget : ℕ) (bytes text : List ℕ) → EndsLine bytes → HasNoPlan bytes → IsPlanOutput costs budget bytes text 0 →
    IsReadBackIn costs bytes text (with_plan bytes text)
