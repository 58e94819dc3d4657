-- What a written shape without a fault is.
use Rattle.std.specs.Prelude.{◌≡◌, ◌≢◌, ℕ, ◌<◌, ◌≤◌, List, length, slice_get, Option, Some, None, ◌↔◌, AllPairs, Contains}
use Rattle.wh_dag.specs.Fault.{first_fault}
use Rattle.wh_dag.specs.Written.{number_of}

-- There are at most 64 views of distinct names. Each written list has 1 to 6 members, none of them twice, each the name of a view. The
-- first view of that name has a lower number than the view whose list it is.
pub record IsWellFormed (names : List (List ℕ)) (over : List (Option (List (List ℕ)))) : Type 0 where
  pub few_views : length over ≤ 64
  pub names_distinct : AllPairs (λ first second. first ≢ second) names
  pub some_children : (view : ℕ) (children : List (List ℕ)) →
      slice_get over view ≡ Some (Some children) → 1 ≤ length children
  pub few_children : (view : ℕ) (children : List (List ℕ)) →
      slice_get over view ≡ Some (Some children) → length children ≤ 6
  pub children_lower : (view : ℕ) (children : List (List ℕ)) (child : List ℕ) →
      slice_get over view ≡ Some (Some children) → Contains children child →
      (number : ℕ) × (number_of names child ≡ Some number) × (number < view)
  pub children_distinct : (view : ℕ) (children : List (List ℕ)) →
      slice_get over view ≡ Some (Some children) → AllPairs (λ first second. first ≢ second) children

-- a written shape has no fault exactly where it is well formed
abbrev pub FaultlessIsWellFormed : Type 0
FaultlessIsWellFormed =
    (names : List (List ℕ)) (over : List (Option (List (List ℕ)))) → length names ≡ length over →
    (first_fault names over ≡ None) ↔ IsWellFormed names over
