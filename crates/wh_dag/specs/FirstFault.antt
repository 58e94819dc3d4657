-- Which fault of a written shape is the first, said by places: views by number, and of one view its steps.
use Rattle.std.specs.Prelude.{◌≡◌, ◌↔◌, ℕ, ◌+◌, ◌<◌, ◌≤◌, List, [], length, slice_get, Option, Some, None}
use Rattle.wh_dag.specs.Fault.{first_fault}
use Rattle.wh_dag.specs.Written.{name_of, number_of}
use Rattle.wh_dag.specs.declared.fault.ShapeFault.{ShapeFault}
use Rattle.wh_dag.specs.declared.fault.ShapeFault.TheVariants.{Duplicate, Unknown, Forward, Repeated, TooMany, EmptyOver}

-- the child stands at this place of the view's list
pub record IsListed (over : List (Option (List (List ℕ)))) (view place : ℕ) (child : List ℕ) : Type 0 where
  pub children : List (List ℕ)
  pub own : slice_get over view ≡ Some (Some children)
  pub there : slice_get children place ≡ Some child

-- This is wrong with the view at this step, whatever else is wrong with it. Step 0 asks whether there are too many views. Step 1 asks
-- whether its name is new, and step 2 whether its list has 1 to 6 members. Step 3 + place asks whether the child at that place is a view of
-- a lower number that does not stand earlier in the list.
pub data IsWrong (names : List (List ℕ)) (over : List (Option (List (List ℕ)))) (view step : ℕ) (fault : ShapeFault) : Type 0 where
  view_too_many : step ≡ 0 → view < length over → 64 ≤ view → fault ≡ TooMany view (name_of names view) → IsWrong names over view step fault
  duplicate : (earlier : ℕ) → step ≡ 1 → view < length over → earlier < view → name_of names earlier ≡ name_of names view → fault ≡ Duplicate view (name_of names view) → IsWrong names over view step fault
  no_child : step ≡ 2 → slice_get over view ≡ Some (Some []) → fault ≡ EmptyOver view (name_of names view) → IsWrong names over view step fault
  child_too_many : (children : List (List ℕ)) → step ≡ 2 → slice_get over view ≡ Some (Some children) → 6 < length children → fault ≡ TooMany view (name_of names view) → IsWrong names over view step fault
  unknown : (place : ℕ) (child : List ℕ) → step ≡ 3 + place → IsListed over view place child → number_of names child ≡ None → fault ≡ Unknown view child → IsWrong names over view step fault
  forward : (place number : ℕ) (child : List ℕ) → step ≡ 3 + place → IsListed over view place child → number_of names child ≡ Some number → view ≤ number → fault ≡ Forward view child → IsWrong names over view step fault
  repeated : (place number earlier : ℕ) (child : List ℕ) → step ≡ 3 + place → IsListed over view place child → number_of names child ≡ Some number → number < view → earlier < place → IsListed over view earlier child → fault ≡ Repeated view child → IsWrong names over view step fault

-- this is wrong with a view, nothing with a view of a lower number, and nothing with this one at an earlier step
pub record IsFirstFault (names : List (List ℕ)) (over : List (Option (List (List ℕ)))) (fault : ShapeFault) : Type 0 where
  pub view : ℕ
  pub step : ℕ
  pub wrong : IsWrong names over view step fault
  pub views_before : (v s : ℕ) (other : ShapeFault) → v < view → IsWrong names over v s other → ⊥
  pub steps_before : (s : ℕ) (other : ShapeFault) → s < step → IsWrong names over view s other → ⊥

-- the first fault of a written shape is the first one by places
abbrev pub FirstFaultByPlaces : Type 0
FirstFaultByPlaces =
    (names : List (List ℕ)) (over : List (Option (List (List ℕ)))) → length names ≡ length over →
    (fault : ShapeFault) → (first_fault names over ≡ Some fault) ↔ IsFirstFault names over fault
