-- Which fault of a text is told where it has several: the one at the first place.
use Rattle.std.specs.Prelude.{◌≡◌, ◌⊎◌, ◌<◌, ℕ, Bool, List, [], ◌∷◌, slice_get, Option, Some, None, Result, Ok, Err, if◌then◌else◌}
use Rattle.wh_text.specs.declared.fault.LoadFault.{LoadFault}

-- a place in a text, by numbers: of its part, of what stands there within the part, and so on
abbrev pub Place : Type 0
Place = List ℕ

-- a place comes before another: it has the lower number where they first differ
abbrev pub IsBefore : Place → Place → Type 0
IsBefore [] other = ⊥
IsBefore (n ∷ place) [] = ⊥
IsBefore (n ∷ place) (k ∷ other) = (n < k) ⊎ ((n ≡ k) × IsBefore place other)

-- the fault is one of these, which stand each at its place, and none of them stands before it
pub record IsFirstFault (Wrong : Place → LoadFault → Type 0) (fault : LoadFault) : Type 0 where
  pub place : Place
  pub wrong : Wrong place fault
  pub first : (before : Place) (other : LoadFault) → IsBefore before place → Wrong before other → ⊥

-- there is none of these
abbrev pub IsFaultless : (Place → LoadFault → Type 0) → Type 0
IsFaultless Wrong = (place : Place) (fault : LoadFault) → Wrong place fault → ⊥

-- a reading ends by the first of these faults, and gives a value only where there is none
pub record EndsByFirst {A : Type 0} (Wrong : Place → LoadFault → Type 0) (read : Result A LoadFault) : Type 0 where
  pub fault : (first : LoadFault) → read ≡ Err first → IsFirstFault Wrong first
  pub value : (value : A) → read ≡ Ok value → IsFaultless Wrong

-- What is judged by itself, one thing after another: each judgement has a fault or none.

-- the fault where something is so
abbrev pub fault_if : Bool → LoadFault → Option LoadFault
fault_if wrong fault = if wrong then Some fault else None

-- the judgement of this number, counted from 0, has this fault
abbrev pub Finds : List (Option LoadFault) → ℕ → LoadFault → Type 0
Finds judgements number fault = slice_get judgements number ≡ Some (Some fault)
