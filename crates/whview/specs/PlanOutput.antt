-- What `plan` prints for the bytes of a bundle, and the status that it ends with.
use Rattle.std.specs.Prelude.{◌≡◌, ◌++◌, ℕ, List, codes, decimal, MatchResult}
use Rattle.wh_cert.specs.declared.certificate.Certificate.{Certificate}
use Rattle.wh_cert.specs.declared.certificate.Scope.{Scope}
use Rattle.wh_text_lines.specs.PlanText.{plan_text}
use Rattle.wh_load.specs.ReadingPlan.{Measured, measured_of}
use Rattle.wh_prune.specs.Plan.{GoesByOrder, IsCyclicAsDesired, IsLeastPlan, IsWithinBudget}
use Rattle.wh_prune.specs.Spent.{IsSpent}
use Rattle.wh_strategy.specs.declared.costs.Costs.{Costs}
use Rattle.wh_strategy.specs.declared.expression.Expression.{Expression}
use Rattle.wh_strategy.specs.Prices.{Prices, prices_of}
use Rattle.wh_strategy.specs.Sizes.{sizes_of}
use Rattle.whview.specs.CheckOutput.{IsFaultShown, line}
use Rattle.whview.specs.declared.plan.Outcome.{Outcome}
use Rattle.whview.specs.declared.plan.Outcome.TheVariants.{Planned, Spent}
use Rattle.whview.specs.declared.status.Status.{Status}
use Rattle.whview.specs.declared.status.Status.TheVariants.{Done, Limit}

-- the plan is one of least work at these prices, for what was measured
abbrev pub IsLeastFor : Prices → Measured → ℕ → Scope → List Expression → Certificate → Type 0
IsLeastFor prices measured work scope list certificate =
    IsLeastPlan measured.shape.children (sizes_of measured.sizes) prices work scope list certificate

-- the scope and the list go by the ordered graph of what was measured
abbrev pub GoesByOrderFor : Measured → Scope → List Expression → Type 0
GoesByOrderFor measured scope list = GoesByOrder measured.shape.children (sizes_of measured.sizes) scope list

-- a search whose budget is spent: how many nodes were opened, and the least work that was found
abbrev pub spent_text : ℕ → ℕ → List ℕ
spent_text opened best = line (codes "budget opened " ++ decimal opened ++ codes " best " ++ decimal best)

-- What is printed for this, and the status. It is a plan of least work, whose tree, if it has one, has no more nodes than the budget. Or it
-- is that the search for one has spent its budget, which takes an ordered graph with a cycle.
pub data IsPlanned (prices : Prices) (budget : ℕ) (measured : Measured) (text : List ℕ) (status : ℕ) : Type 0 where
  planned : (work : ℕ) (scope : Scope) (list : List Expression) (certificate : Certificate) → IsLeastFor prices measured work scope list certificate
      → GoesByOrderFor measured scope list → IsWithinBudget budget certificate → text ≡ plan_text measured.shape.names scope work list certificate → status ≡ 0 → IsPlanned prices budget measured text status
  spent : (opened best : ℕ) → IsCyclicAsDesired measured.shape.children (sizes_of measured.sizes)
      → IsSpent measured.shape.children (sizes_of measured.sizes) prices budget opened best
      → text ≡ spent_text opened best → status ≡ 4 → IsPlanned prices budget measured text status

-- This is decided: on a plan of least work, whose tree, if it has one, has no more nodes than the budget. Or it is that the search for one
-- has spent its budget
abbrev pub IsDecided : Prices → ℕ → Measured → Outcome → Type 0
IsDecided prices budget measured (Planned plan) =
    IsLeastFor prices measured plan.work plan.scope plan.correct.list plan.certificate
    × GoesByOrderFor measured plan.scope plan.correct.list × IsWithinBudget budget plan.certificate
IsDecided prices budget measured (Spent opened best) =
    IsCyclicAsDesired measured.shape.children (sizes_of measured.sizes)
    × IsSpent measured.shape.children (sizes_of measured.sizes) prices budget opened best

-- what is printed of what was decided, where the views have these names
abbrev pub text_of : List (List ℕ) → Outcome → List ℕ
text_of names (Planned plan) = plan_text names plan.scope plan.work plan.correct.list plan.certificate
text_of names (Spent opened best) = spent_text opened best

-- the status of what was decided
abbrev pub status_of : Outcome → Status
status_of (Planned plan) = Done
status_of (Spent opened best) = Limit

-- what `plan` prints for a bundle's bytes, and the status
abbrev pub IsPlanOutput : Costs → ℕ → List ℕ → List ℕ → ℕ → Type 0
IsPlanOutput costs budget bytes text status =
    MatchResult (measured_of bytes) (λ measured. IsPlanned (prices_of costs) budget measured text status) (λ fault. IsFaultShown fault text status)
