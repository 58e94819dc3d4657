-- Why a view's change, or a Comp, is refused, at a state.
use Rattle.std.specs.Prelude.{◌≡◌, ℕ, ◌<◌, true, false, List, ◌⊎◌}
use Rattle.wh_dag.specs.Shape.{has}
use Rattle.wh_dag.specs.Catalog.{CatalogOf, is_base}
use Rattle.wh_row.specs.Bag.{Bag}
use Rattle.wh_maint.specs.declared.fault.MaintFault.{MaintFault}
use Rattle.wh_maint.specs.declared.fault.MaintFault.TheVariants.{Large, Range, Memory, Absent}
use Rattle.wh_maint.specs.View.{View, column}
use Rattle.wh_maint.specs.Comp.{comp, TermsHaveValues}
use Rattle.wh_maint.specs.Size.{IsTooLarge}
use Rattle.wh_maint.specs.Finishing.{kind_in}
use Rattle.wh_maint.specs.Refused.{IsFinishFault}
use Rattle.wh_carry.specs.Carry.{State}
use Rattle.wh_carry.specs.Refused.{AddedFit, CanBeComputed, CanHaveChange}

-- a derived view can be finished; a base view has its change already
abbrev pub CanBeFinished : CatalogOf → State → ℕ → Type 0
CanBeFinished catalog s v = is_base catalog v ≡ false → CanHaveChange (kind_in catalog v) (s.tables v) (s.pending v)

abbrev pub CanAllBeFinished : CatalogOf → State → List ℕ → Type 0
CanAllBeFinished catalog s ys = (u : ℕ) → has ys u ≡ true → CanBeFinished catalog s u

-- of a Comp that is computed and added to what is pending: there are too many combined rows; else a combined row has an expression without a value; else a number leaves its range
abbrev pub IsAddFault : ℕ → View → List ℕ → List ℕ → (ℕ → Bag) → (ℕ → Bag) → (ℕ → Bag) → MaintFault → Type 0
IsAddFault v view children ys tables changes pending (Large w) =
    (w ≡ v) × (IsTooLarge children ys tables changes ⊎ (CanBeComputed view children ys tables changes × ¬ (AddedFit pending (λ j. comp (column view j) children ys tables changes))))
IsAddFault v view children ys tables changes pending (Range w) = (w ≡ v) × (¬ (IsTooLarge children ys tables changes)) × (¬ (TermsHaveValues view children ys tables changes))
IsAddFault v view children ys tables changes pending Memory = Unit {0}
IsAddFault v view children ys tables changes pending (Absent w row) = ⊥

-- a derived view's change is refused
abbrev pub IsUnfinished : CatalogOf → State → ℕ → MaintFault → Type 0
IsUnfinished catalog s v fault = (is_base catalog v ≡ false) × IsFinishFault v (kind_in catalog v) (s.tables v) (s.pending v) fault

-- of these views one's change is refused, and those of the ones with lower numbers are not
pub record IsFirstUnfinished (catalog : CatalogOf) (s : State) (ys : List ℕ) (fault : MaintFault) : Type 0 where
  pub view : ℕ
  pub among : has ys view ≡ true
  pub lower : (u : ℕ) → u < view → has ys u ≡ true → CanBeFinished catalog s u
  pub refused : IsUnfinished catalog s view fault
