-- What `check` prints for the bytes of a bundle, and the status that it ends with.
use Rattle.std.specs.Prelude.{◌≡◌, ◌++◌, ℕ, List, [], ◌∷◌, codes, decimal, MatchResult}
use Rattle.wh_text.specs.FaultText.{fault_text}
use Rattle.wh_text.specs.declared.fault.LoadFault.{LoadFault}
use Rattle.wh_load.specs.ReadingCheck.{Inputs, inputs_of}
use Rattle.wh_strategy.specs.declared.rule.Rule.{Rule}
use Rattle.wh_strategy.specs.declared.costs.Costs.{Costs}
use Rattle.wh_strategy.specs.Prices.{prices_of}
use Rattle.wh_strategy.specs.Rules.{IsCorrect, IsFirstBroken, number_of}
use Rattle.wh_strategy.specs.Sizes.{sizes_of}
use Rattle.wh_strategy.specs.Work.{work_of}
use Rattle.whview.specs.declared.check.Outcome.{Outcome}
use Rattle.whview.specs.declared.check.Outcome.TheVariants.{Broken, Correct}
use Rattle.whview.specs.declared.status.Status.{Status}
use Rattle.whview.specs.declared.status.Status.TheVariants.{Done, Negative}

-- a text and the LF that ends its line
abbrev pub line : List ℕ → List ℕ
line text = text ++ 10 ∷ []

-- what is printed of a correct strategy of this work
abbrev pub correct_text : ℕ → List ℕ
correct_text work = line (codes "correct") ++ line (codes "work " ++ decimal work)

-- what is printed of a strategy that breaks this rule at this place
abbrev pub broken_text : Rule → ℕ → List ℕ
broken_text rule place = line (codes "broken S" ++ decimal (number_of rule) ++ codes " at " ++ decimal place)

-- what is printed of these inputs, and the status
pub data IsVerdict (costs : Costs) (inputs : Inputs) (text : List ℕ) (status : ℕ) : Type 0 where
  correct : IsCorrect inputs.measured.shape.children inputs.list → text ≡ correct_text (work_of inputs.measured.shape.children (sizes_of inputs.measured.sizes) (prices_of costs) inputs.list) → status ≡ 0 → IsVerdict costs inputs text status
  broken : (rule : Rule) (place : ℕ) → IsFirstBroken inputs.measured.shape.children inputs.list rule place → text ≡ broken_text rule place → status ≡ 1 → IsVerdict costs inputs text status

-- this is decided of these inputs: that the list is correct, and its work; or which rule it breaks first, and where
abbrev pub IsDecided : Costs → Inputs → Outcome → Type 0
IsDecided costs inputs (Correct work) =
    IsCorrect inputs.measured.shape.children inputs.list × (work ≡ work_of inputs.measured.shape.children (sizes_of inputs.measured.sizes) (prices_of costs) inputs.list)
IsDecided costs inputs (Broken rule place) = IsFirstBroken inputs.measured.shape.children inputs.list rule place

-- what is printed of what was decided
abbrev pub text_of : Outcome → List ℕ
text_of (Correct work) = correct_text work
text_of (Broken rule place) = broken_text rule place

-- the status of what was decided
abbrev pub status_of : Outcome → Status
status_of (Correct work) = Done
status_of (Broken rule place) = Negative

-- what is printed of a fault of the input, and the status
pub record IsFaultShown (fault : LoadFault) (text : List ℕ) (status : ℕ) : Type 0 where
  pub printed : text ≡ line (fault_text fault)
  pub ended : status ≡ 3

-- what a check of a bundle's bytes prints, and the status
abbrev pub IsCheckOutput : Costs → List ℕ → List ℕ → ℕ → Type 0
IsCheckOutput costs bytes text status =
    MatchResult (inputs_of bytes) (λ inputs. IsVerdict costs inputs text status) (λ fault. IsFaultShown fault text status)
