-- Why a night is refused: the reasons, each a condition at a state by itself, and then their order on one thread.
use Rattle.std.specs.Prelude.{◌≡◌, ◌⊎◌, ℕ, suc, ◌<◌, cond, true, false, List, length}
use Rattle.wh_dag.specs.Shape.{has, children_of}
use Rattle.wh_dag.specs.Catalog.{CatalogOf, is_base, definition_of}
use Rattle.wh_strategy.specs.declared.expression.Expression.{Expression}
use Rattle.wh_strategy.specs.declared.expression.Expression.TheVariants.{Comp, Inst}
use Rattle.wh_strategy.specs.Expression.{At}
use Rattle.wh_row.specs.Bag.{Bag, SumFits}
use Rattle.wh_maint.specs.declared.fault.MaintFault.{MaintFault}
use Rattle.wh_maint.specs.declared.fault.MaintFault.TheVariants.{Large, Range, Memory, Absent}
use Rattle.wh_maint.specs.View.{View, Kind, column}
use Rattle.wh_maint.specs.Value.{NewCountsFit, ChangeHasValue, HaveValues}
use Rattle.wh_maint.specs.Definition.{graph_of, view_of}
use Rattle.wh_maint.specs.Comp.{comp, bag_at, changed_rows, TermsHaveValues}
use Rattle.wh_maint.specs.Fit.{IsFirstAbsent}
use Rattle.wh_maint.specs.Size.{IsTooLarge}
use Rattle.wh_maint.specs.Finishing.{kind_in}
use Rattle.wh_maint.specs.Refused.{AddsNothing, IsFinishFault, NoneAbsent, SumsTogetherFit}
use Rattle.wh_carry.specs.declared.report.CarryFault.{CarryFault}
use Rattle.wh_carry.specs.Carry.{State, at_first, change_in, before}
use Rattle.wh_carry.specs.Kept.{Kept}

-- what a Comp adds leaves the counts in i64 and the sums in i128
pub record AddedFit (pending added : ℕ → Bag) : Type 0 where
  pub counts : SumFits (pending 0) (added 0)
  pub sums : (j : ℕ) → SumsTogetherFit (pending (suc j)) (added (suc j))

-- ---- reasons

-- Why a part of a night cannot be done, memory aside. Of a base view's change it is that it takes more of some row than there is, or that a
-- count with it leaves i64. Of a derived view's change it is that a touched group's new count leaves i64, or that a new sum of one does. Of
-- the Comp of a view from some sources it is that there are too many combined rows, or that one which it meets has an expression without a
-- value. It is also that what is pending leaves its range with what the Comp adds. Of a view's table it is that a count with the change
-- leaves i64
pub data Reason : Type 0 where
  RowIsLacking : ℕ → Reason
  BaseIsLarge : ℕ → Reason
  ChangeIsLarge : ℕ → Reason
  ChangeHasNoValue : ℕ → Reason
  CompIsLarge : ℕ → List ℕ → Reason
  CompMeetsNoValue : ℕ → List ℕ → Reason
  PendingIsLarge : ℕ → List ℕ → Reason
  TableIsLarge : ℕ → Reason

-- at this state the reason is ruled out. The change of a base view is given; what another's is made of stays until its Inst
abbrev pub IsRuledOut : CatalogOf → (ℕ → Bag) → State → Reason → Type 0
IsRuledOut catalog changes s (RowIsLacking b) = NoneAbsent (s.tables b) (changes b)
IsRuledOut catalog changes s (BaseIsLarge b) = SumFits (s.tables b) (changes b)
IsRuledOut catalog changes s (ChangeIsLarge v) = is_base catalog v ≡ false → NewCountsFit (kind_in catalog v) (s.tables v) (s.pending v)
IsRuledOut catalog changes s (ChangeHasNoValue v) = is_base catalog v ≡ false → ChangeHasValue (kind_in catalog v) (s.tables v) (s.pending v)
IsRuledOut catalog changes s (CompIsLarge v ys) = ¬ (IsTooLarge (children_of catalog.views.children v) ys s.tables (change_in (graph_of catalog) changes s))
IsRuledOut catalog changes s (CompMeetsNoValue v ys) = TermsHaveValues (view_of (definition_of catalog v)) (children_of catalog.views.children v) ys s.tables (change_in (graph_of catalog) changes s)
IsRuledOut catalog changes s (PendingIsLarge v ys) =
    AddedFit (s.pending v) (λ j. comp (column (view_of (definition_of catalog v)) j) (children_of catalog.views.children v) ys s.tables (change_in (graph_of catalog) changes s))
IsRuledOut catalog changes s (TableIsLarge v) = SumFits (s.tables v) (change_in (graph_of catalog) changes s v)

-- what is answered for a reason: of a base change that lacks rows the first of them, or Memory where there is none for that row
abbrev pub IsAnswer : (ℕ → Bag) → (ℕ → Bag) → Reason → MaintFault → Type 0
IsAnswer tables changes (RowIsLacking b) (Absent v row) = (v ≡ b) × IsFirstAbsent (tables b) (changes b) row
IsAnswer tables changes (RowIsLacking b) fault = fault ≡ Memory
IsAnswer tables changes (BaseIsLarge b) fault = fault ≡ Large b
IsAnswer tables changes (ChangeIsLarge v) fault = fault ≡ Large v
IsAnswer tables changes (ChangeHasNoValue v) fault = fault ≡ Range v
IsAnswer tables changes (CompIsLarge v ys) fault = fault ≡ Large v
IsAnswer tables changes (CompMeetsNoValue v ys) fault = fault ≡ Range v
IsAnswer tables changes (PendingIsLarge v ys) fault = fault ≡ Large v
IsAnswer tables changes (TableIsLarge v) fault = fault ≡ Large v

-- the first of some reasons, in the order of reasons, that is not ruled out at the state
pub record IsFirstReason (catalog : CatalogOf) (changes : ℕ → Bag) (s : State) (Asked : Reason → Type 0) (Before : Reason → Reason → Type 0) (reason : Reason) : Type 0 where
  pub asked : Asked reason
  pub stands : ¬ (IsRuledOut catalog changes s reason)
  pub earlier : (other : Reason) → Asked other → Before other reason → IsRuledOut catalog changes s other

-- ---- an expression that has a value

-- Carrying out has a value at this expression: each change that it needs has one, and each combined row that a Comp adds has its values.
-- It asks for no more: a Comp that has a value can meet rows without one that cancel, or count too high, and is then refused
abbrev pub HasValueAt : CatalogOf → (ℕ → Bag) → State → Expression → Type 0
HasValueAt catalog changes s (Comp v ys) =
    ((u : ℕ) → has ys u ≡ true → IsRuledOut catalog changes s (ChangeHasNoValue u))
    × HaveValues (view_of (definition_of catalog v)) (changed_rows (view_of (definition_of catalog v)).passes (children_of catalog.views.children v) ys s.tables (change_in (graph_of catalog) changes s))
HasValueAt catalog changes s (Inst v) = IsRuledOut catalog changes s (ChangeHasNoValue v)

-- carrying out has a value at each place of the list below this one
abbrev pub HaveValuesBelow : CatalogOf → List Expression → (ℕ → Bag) → (ℕ → Bag) → ℕ → Type 0
HaveValuesBelow catalog list tables changes n = (place : ℕ) (e : Expression) → place < n → At list place e → HasValueAt catalog changes (before (graph_of catalog) changes list tables place) e

-- ---- the order on one thread

-- for which reasons the changes of the base views below this number can be refused
abbrev pub IsOfBaseBelow : CatalogOf → ℕ → Reason → Type 0
IsOfBaseBelow catalog n (RowIsLacking b) = (b < n) × (is_base catalog b ≡ true)
IsOfBaseBelow catalog n (BaseIsLarge b) = (b < n) × (is_base catalog b ≡ true)
IsOfBaseBelow catalog n reason = ⊥

-- for which reasons an expression can be refused: those of the changes that it needs, and its own
abbrev pub IsOf : Expression → Reason → Type 0
IsOf (Comp v ys) (ChangeIsLarge u) = has ys u ≡ true
IsOf (Comp v ys) (ChangeHasNoValue u) = has ys u ≡ true
IsOf (Comp v ys) (CompIsLarge w zs) = (w ≡ v) × (zs ≡ ys)
IsOf (Comp v ys) (CompMeetsNoValue w zs) = (w ≡ v) × (zs ≡ ys)
IsOf (Comp v ys) (PendingIsLarge w zs) = (w ≡ v) × (zs ≡ ys)
IsOf (Comp v ys) reason = ⊥
IsOf (Inst v) (ChangeIsLarge u) = u ≡ v
IsOf (Inst v) (ChangeHasNoValue u) = u ≡ v
IsOf (Inst v) (TableIsLarge u) = u ≡ v
IsOf (Inst v) reason = ⊥

-- The turn of a reason, as three numbers. The first is what it is of: base changes first, then the changes of derived views, then Comps,
-- then tables. The second is the view, the lower number first. The third is which of the view's own it is: a lacking row before a large
-- change, and counts before sums. Of a Comp it is too many rows before a missing value, and that before what is pending
abbrev pub rank : Reason → ℕ × ℕ × ℕ
rank (RowIsLacking b) = (0, b, 0)
rank (BaseIsLarge b) = (0, b, 1)
rank (ChangeIsLarge v) = (1, v, 0)
rank (ChangeHasNoValue v) = (1, v, 1)
rank (CompIsLarge v ys) = (2, v, 0)
rank (CompMeetsNoValue v ys) = (2, v, 1)
rank (PendingIsLarge v ys) = (2, v, 2)
rank (TableIsLarge v) = (3, v, 0)

-- one triple of numbers is below another: the first numbers that differ decide
abbrev pub IsEarlier : ℕ × ℕ × ℕ → ℕ × ℕ × ℕ → Type 0
IsEarlier a b = (a.0 < b.0) ⊎ ((a.0 ≡ b.0) × ((a.1 < b.1) ⊎ ((a.1 ≡ b.1) × (a.2 < b.2))))

-- at one state this reason comes before the other
abbrev pub ComesBefore : Reason → Reason → Type 0
ComesBefore reason other = IsEarlier (rank reason) (rank other)

-- no base view below this number has a change that is refused
abbrev pub AreAllowedBelow : CatalogOf → (ℕ → Bag) → (ℕ → Bag) → ℕ → Type 0
AreAllowedBelow catalog tables changes n = (reason : Reason) → IsOfBaseBelow catalog n reason → IsRuledOut catalog changes (at_first tables) reason

-- at this expression nothing but memory can be refused
abbrev pub IsPassed : CatalogOf → (ℕ → Bag) → State → Expression → Type 0
IsPassed catalog changes s e = (reason : Reason) → IsOf e reason → IsRuledOut catalog changes s reason

-- at each place of the list below this one nothing but memory can be refused
abbrev pub ArePassedBelow : CatalogOf → List Expression → (ℕ → Bag) → (ℕ → Bag) → ℕ → Type 0
ArePassedBelow catalog list tables changes n = (place : ℕ) (e : Expression) → place < n → At list place e → IsPassed catalog changes (before (graph_of catalog) changes list tables place) e

-- the change of a base view is refused, for the first reason of them all
pub record IsBaseFault (catalog : CatalogOf) (tables changes : ℕ → Bag) (fault : MaintFault) : Type 0 where
  pub reason : Reason
  pub first : IsFirstReason catalog changes (at_first tables) (IsOfBaseBelow catalog (length catalog.views.children)) ComesBefore reason
  pub answer : IsAnswer tables changes reason fault

-- an expression is refused, for the first of its reasons
pub record IsStepFault (catalog : CatalogOf) (changes : ℕ → Bag) (s : State) (e : Expression) (fault : MaintFault) : Type 0 where
  pub reason : Reason
  pub first : IsFirstReason catalog changes s (IsOf e) ComesBefore reason
  pub answer : IsAnswer s.tables changes reason fault

-- the first place of the list where an expression is refused, and why
pub record IsListFault (catalog : CatalogOf) (list : List Expression) (tables changes : ℕ → Bag) (fault : MaintFault) : Type 0 where
  pub place : ℕ
  pub expression : Expression
  pub there : At list place expression
  pub earlier : ArePassedBelow catalog list tables changes place
  pub refused : IsStepFault catalog changes (before (graph_of catalog) changes list tables place) expression fault

-- Why a night is refused, before it has started or in it. Base changes come before the list, and the list goes place by place. Memory may
-- be answered for the row that a base change lacks, and at any time once all base changes are allowed
abbrev pub IsNightFault : CatalogOf → List Expression → (ℕ → Bag) → (ℕ → Bag) → CarryFault → Type 0
IsNightFault catalog list tables changes refused =
    cond refused.started
    (AreAllowedBelow catalog tables changes (length catalog.views.children) × ((refused.fault ≡ Memory) ⊎ IsListFault catalog list tables changes refused.fault))
    (((refused.fault ≡ Memory) × AreAllowedBelow catalog tables changes (length catalog.views.children)) ⊎ IsBaseFault catalog tables changes refused.fault)

-- ---- over what the code keeps

-- a Comp can be computed: there are not too many combined rows, and each that it meets has its values
pub record CanBeComputed (view : View) (children ys : List ℕ) (tables changes : ℕ → Bag) : Type 0 where
  pub few : ¬ (IsTooLarge children ys tables changes)
  pub values : TermsHaveValues view children ys tables changes

-- a view can have its change: each touched group's new count is an i64, and so is each of its new sums
pub record CanHaveChange (kind : Kind) (table : Bag) (pending : ℕ → Bag) : Type 0 where
  pub counts : NewCountsFit kind table pending
  pub sums : ChangeHasValue kind table pending

abbrev pub CanBeFinishedIn : CatalogOf → Kept → ℕ → Type 0
CanBeFinishedIn catalog k v = k.known v ≡ false → CanHaveChange (kind_in catalog v) (k.tables v) (bag_at (k.pending v))

abbrev pub CanAllBeFinishedIn : CatalogOf → Kept → List ℕ → Type 0
CanAllBeFinishedIn catalog k ys = (u : ℕ) → has ys u ≡ true → CanBeFinishedIn catalog k u

abbrev pub IsUnfinishedIn : CatalogOf → Kept → ℕ → MaintFault → Type 0
IsUnfinishedIn catalog k v fault = (k.known v ≡ false) × IsFinishFault v (kind_in catalog v) (k.tables v) (bag_at (k.pending v)) fault

pub record IsFirstUnfinishedIn (catalog : CatalogOf) (k : Kept) (ys : List ℕ) (fault : MaintFault) : Type 0 where
  pub view : ℕ
  pub among : has ys view ≡ true
  pub lower : (u : ℕ) → u < view → has ys u ≡ true → CanBeFinishedIn catalog k u
  pub refused : IsUnfinishedIn catalog k view fault

-- A Comp is not computed: there are too many combined rows, or one that it meets has an expression without a value. Memory is wanted where
-- some source has a change, or the view has sums
abbrev pub IsCompFaultIn : CatalogOf → Kept → ℕ → List ℕ → MaintFault → Type 0
IsCompFaultIn catalog k v ys (Large w) = (w ≡ v) × IsTooLarge (children_of catalog.views.children v) ys k.tables k.changes
IsCompFaultIn catalog k v ys (Range w) = (w ≡ v) × (¬ (IsTooLarge (children_of catalog.views.children v) ys k.tables k.changes))
    × (¬ (TermsHaveValues (view_of (definition_of catalog v)) (children_of catalog.views.children v) ys k.tables k.changes))
IsCompFaultIn catalog k v ys Memory = ¬ (AddsNothing (view_of (definition_of catalog v)) ys k.changes)
IsCompFaultIn catalog k v ys (Absent w row) = ⊥
