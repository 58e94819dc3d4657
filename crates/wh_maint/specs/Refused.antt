-- Why changes are refused.
use Rattle.std.specs.Prelude.{◌≡◌, ℕ, suc, ◌+ℤ◌, List, FitsSigned}
use Rattle.std.specs.Int.{w128}
use Rattle.wh_row.specs.Row.{Row}
use Rattle.wh_row.specs.Bag.{Bag, SumFits, HasRowsOf, count}
use Rattle.wh_maint.specs.declared.fault.MaintFault.{MaintFault}
use Rattle.wh_maint.specs.declared.fault.MaintFault.TheVariants.{Large, Range, Memory, Absent}
use Rattle.wh_maint.specs.View.{View, Kind, sums_of}
use Rattle.wh_maint.specs.Comp.{bag_at}
use Rattle.wh_maint.specs.Size.{HaveNoRows}
use Rattle.wh_maint.specs.Value.{NewCountsFit, ChangeHasValue}
use Rattle.wh_maint.specs.Fit.{IsAbsent, IsFirstAbsent}

-- the change takes of no row more than the table has
abbrev pub NoneAbsent : Bag → Bag → Type 0
NoneAbsent table change = (row : Row) → ¬ (IsAbsent table change row)

-- the fault of a base change: the first row that it takes below zero comes first, then that some count leaves i64; memory is wanted for
-- that row alone
abbrev pub IsChangeFault : ℕ → Bag → Bag → MaintFault → Type 0
IsChangeFault view table change (Large v) = (v ≡ view) × NoneAbsent table change × ¬ (SumFits table change)
IsChangeFault view table change (Range v) = ⊥
IsChangeFault view table change Memory = ¬ (NoneAbsent table change)
IsChangeFault view table change (Absent v row) = (v ≡ view) × IsFirstAbsent table change row

-- the fault of a table that is to have its change: some count leaves i64, else memory is refused
abbrev pub IsInstallFault : ℕ → Bag → Bag → MaintFault → Type 0
IsInstallFault view table change (Large v) = (v ≡ view) × ¬ (SumFits table change)
IsInstallFault view table change (Range v) = ⊥
IsInstallFault view table change Memory = SumFits table change
IsInstallFault view table change (Absent v row) = ⊥

-- The fault of a view that is to be finished: a touched group's new count leaves i64, else a new sum of one does. Memory is wanted once the
-- counts fit
abbrev pub IsFinishFault : ℕ → Kind → Bag → (ℕ → Bag) → MaintFault → Type 0
IsFinishFault view kind table pending (Large v) = (v ≡ view) × ¬ (NewCountsFit kind table pending)
IsFinishFault view kind table pending (Range v) = (v ≡ view) × NewCountsFit kind table pending × ¬ (ChangeHasValue kind table pending)
IsFinishFault view kind table pending Memory = NewCountsFit kind table pending
IsFinishFault view kind table pending (Absent v row) = ⊥

-- a Comp adds nothing: no source has a change, and the view has no sums
pub record AddsNothing (v : View) (sources : List ℕ) (change : ℕ → Bag) : Type 0 where
  pub unchanged : HaveNoRows sources change
  pub joined : sums_of v.kind ≡ 0

-- each row's sums in both bags together are an i128
abbrev pub SumsTogetherFit : Bag → Bag → Type 0
SumsTogetherFit sums others = (row : Row) → FitsSigned w128 (count sums row +ℤ count others row)

-- the counts of two Comps of one view together are i64s, and their sums i128s
pub record MergedFit (columns others : List Bag) : Type 0 where
  pub counts : SumFits (bag_at columns 0) (bag_at others 0)
  pub sums : (j : ℕ) → SumsTogetherFit (bag_at columns (suc j)) (bag_at others (suc j))

-- another Comp brings, in no column, a row or group that is not there
abbrev pub BringsNothing : List Bag → List Bag → Type 0
BringsNothing columns others = (j : ℕ) → HasRowsOf (bag_at columns j) (bag_at others j)

-- the fault where what another Comp adds is taken in: a count or a sum leaves its range; memory may be refused before that is known
abbrev pub IsMergeFault : ℕ → List Bag → List Bag → MaintFault → Type 0
IsMergeFault view columns others (Large v) = (v ≡ view) × ¬ (MergedFit columns others)
IsMergeFault view columns others (Range v) = ⊥
IsMergeFault view columns others Memory = Unit {0}
IsMergeFault view columns others (Absent v row) = ⊥
