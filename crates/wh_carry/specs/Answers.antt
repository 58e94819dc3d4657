-- What a Comp is answered with over what is kept of a night, by one thread or by several.
use Rattle.std.specs.Prelude.{◌≡◌, ℕ, List, Result, IfOk, OnOk, IfErr}
use Rattle.wh_dag.specs.Shape.{children_of}
use Rattle.wh_dag.specs.Catalog.{CatalogOf, definition_of}
use Rattle.wh_maint.specs.Definition.{view_of}
use Rattle.wh_maint.specs.Comp.{PendingOf, comp_columns}
use Rattle.wh_maint.specs.declared.fault.MaintFault.{MaintFault}
use Rattle.wh_carry.specs.Kept.{Kept, IsPendingIn}
use Rattle.wh_carry.specs.Refused.{CanBeComputed, IsCompFaultIn}

-- the answer of the Comp of a view from these sources
pub record IsComputeAnswer (catalog : CatalogOf) (k : Kept) (view : ℕ) (sources : List ℕ) (result : Result PendingOf MaintFault) : Type 0 where
  -- what it adds can be kept pending of the view
  pub pending : IfOk result (IsPendingIn catalog view)
  -- it is the value of the Comp, over all its terms
  pub value : IfOk result (λ added. added.columns ≡ comp_columns (view_of (definition_of catalog view)) (children_of catalog.views.children view) sources k.tables k.changes)
  -- where there is an answer, there are not too many combined rows, and each that passes has its values
  pub passed : OnOk result (CanBeComputed (view_of (definition_of catalog view)) (children_of catalog.views.children view) sources k.tables k.changes)
  -- Large comes before Range; Memory only where some source has a change, or the view has sums; and no other fault
  pub refused : IfErr result (IsCompFaultIn catalog k view sources)
