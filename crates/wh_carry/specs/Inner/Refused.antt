-- What only proofs and private contracts use. Why a night is refused: the reasons, each a condition at a state by itself, and then their order on one thread.
use Rattle.std.specs.Prelude.{◌≡◌, ◌⊎◌, ℕ, ◌==◌, List}
use Rattle.wh_dag.specs.Shape.{has, children_of}
use Rattle.wh_dag.specs.Catalog.{CatalogOf, definition_of}
use Rattle.wh_strategy.specs.declared.expression.Expression.{Expression}
use Rattle.wh_strategy.specs.declared.expression.Expression.TheVariants.{Comp, Inst}
use Rattle.wh_row.specs.Bag.{SumFits}
use Rattle.wh_maint.specs.declared.fault.MaintFault.{MaintFault}
use Rattle.wh_maint.specs.declared.fault.MaintFault.TheVariants.{Large, Range, Memory, Absent}
use Rattle.wh_maint.specs.Definition.{view_of}
use Rattle.wh_maint.specs.Comp.{comp_columns, TermsHaveValues}
use Rattle.wh_maint.specs.Size.{IsTooLarge}
use Rattle.wh_maint.specs.Refused.{IsInstallFault, MergedFit}
use Rattle.wh_carry.specs.Kept.{Kept, finished}
use Rattle.wh_carry.specs.Refused.{CanBeComputed, CanBeFinishedIn, CanAllBeFinishedIn, IsUnfinishedIn, IsFirstUnfinishedIn}

abbrev pub IsPassedIn : CatalogOf → Kept → Expression → Type 0
IsPassedIn catalog k (Comp v ys) =
    CanAllBeFinishedIn catalog k ys
    × CanBeComputed (view_of (definition_of catalog v)) (children_of catalog.views.children v) ys k.tables (finished catalog (has ys) k).changes
    × MergedFit (k.pending v) (comp_columns (view_of (definition_of catalog v)) (children_of catalog.views.children v) ys k.tables (finished catalog (has ys) k).changes)
IsPassedIn catalog k (Inst v) = CanBeFinishedIn catalog k v × SumFits (k.tables v) ((finished catalog (λ u. v == u) k).changes v)

abbrev pub IsAddFaultIn : CatalogOf → Kept → ℕ → List ℕ → MaintFault → Type 0
IsAddFaultIn catalog k v ys (Large w) = (w ≡ v) × (IsTooLarge (children_of catalog.views.children v) ys k.tables k.changes
    ⊎ (CanBeComputed (view_of (definition_of catalog v)) (children_of catalog.views.children v) ys k.tables k.changes
    × ¬ (MergedFit (k.pending v) (comp_columns (view_of (definition_of catalog v)) (children_of catalog.views.children v) ys k.tables k.changes))))
IsAddFaultIn catalog k v ys (Range w) = (w ≡ v) × (¬ (IsTooLarge (children_of catalog.views.children v) ys k.tables k.changes))
    × (¬ (TermsHaveValues (view_of (definition_of catalog v)) (children_of catalog.views.children v) ys k.tables k.changes))
IsAddFaultIn catalog k v ys Memory = Unit {0}
IsAddFaultIn catalog k v ys (Absent w row) = ⊥

abbrev pub IsStepFaultIn : CatalogOf → Kept → Expression → MaintFault → Type 0
IsStepFaultIn catalog k (Comp v ys) fault = IsFirstUnfinishedIn catalog k ys fault ⊎ (CanAllBeFinishedIn catalog k ys × IsAddFaultIn catalog (finished catalog (has ys) k) v ys fault)
IsStepFaultIn catalog k (Inst v) fault = IsUnfinishedIn catalog k v fault ⊎ (CanBeFinishedIn catalog k v × IsInstallFault v (k.tables v) ((finished catalog (λ u. v == u) k).changes v) fault)
