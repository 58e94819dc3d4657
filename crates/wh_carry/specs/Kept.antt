-- What the code keeps of a night's state: as in the definition, and beside it the changes that are known.
use Rattle.std.specs.Prelude.{◌≡◌, ℕ, ◌<◌, ◌&&◌, ◌||◌, not, Bool, true, false, cond, List, [], length, map, suc, Some, slice_index_or}
use Rattle.std.specs.List.{range_with_len}
use Rattle.wh_dag.specs.Shape.{has, children_of}
use Rattle.wh_dag.specs.Catalog.{CatalogOf, IsCatalog, DefinitionOf, definition_of, is_base}
use Rattle.wh_strategy.specs.declared.expression.Expression.{Expression}
use Rattle.wh_strategy.specs.declared.expression.Expression.TheVariants.{Comp, Inst}
use Rattle.wh_row.specs.Bag.{Bag, HasWidth, sum_of, empty}
use Rattle.wh_maint.specs.View.{sums_of}
use Rattle.wh_maint.specs.Comp.{PendingOf, bag_at, merged}
use Rattle.wh_maint.specs.Summary.{change_of}
use Rattle.wh_maint.specs.Fit.{IsFitTable}
use Rattle.wh_maint.specs.Finishing.{kind_in, IsPendingFor}
use Rattle.wh_maint.specs.Width.{key_width}
use Rattle.wh_maint.specs.Asked.{AreBags, AreSources}
use Rattle.wh_carry.specs.Carry.{with_at}

-- the tables, the columns that are pending, the changes, and of which views they are known
pub record Kept : Type 0 where
  pub tables : ℕ → Bag
  pub pending : ℕ → List Bag
  pub changes : ℕ → Bag
  pub known : ℕ → Bool

abbrev pub pending_at : List PendingOf → ℕ → PendingOf
pending_at pending v = slice_index_or pending v (record { view = 0; columns = [] })

abbrev pub is_known : List Bool → ℕ → Bool
is_known known v = slice_index_or known v false

-- what a night keeps, in lists by the views' numbers
pub record KeptLists : Type 0 where
  pub tables : List Bag
  pub pendings : List PendingOf
  pub changes : List Bag
  pub known : List Bool

abbrev pub kept : KeptLists → Kept
kept s = record {
  tables = bag_at s.tables;
  pending = λ v. (pending_at s.pendings v).columns;
  changes = bag_at s.changes;
  known = is_known s.known;
}

-- there is a part for each view, of its width, and the changes of base views are known
pub record HaveParts (catalog : CatalogOf) (s : KeptLists) : Type 0 where
  pub catalogue : IsCatalog catalog
  pub tables : AreBags catalog s.tables
  pub changes : AreBags catalog s.changes
  pub each_pending : length s.pendings ≡ length catalog.views.children
  pub pending : (v : ℕ) → v < length catalog.views.children → IsPendingFor catalog v (pending_at s.pendings v)
  pub wide : (v : ℕ) (d : DefinitionOf) → definition_of catalog v ≡ Some d → (j : ℕ) → HasWidth (bag_at (pending_at s.pendings v).columns j) (key_width d.output)
  pub each_known : length s.known ≡ length catalog.views.children
  pub bases : (v : ℕ) → v < length catalog.views.children → is_base catalog v ≡ true → is_known s.known v ≡ true

-- a view whose change is not known has a fit table
abbrev pub CanFinish : CatalogOf → Kept → Type 0
CanFinish catalog k = (v : ℕ) → v < length catalog.views.children → k.known v ≡ false → IsFitTable (kind_in catalog v) (k.tables v)

-- the views of this test that have no changes yet get theirs
abbrev pub finished : CatalogOf → (ℕ → Bool) → Kept → Kept
finished catalog test k = record {
  tables = k.tables;
  pending = k.pending;
  changes = λ u. cond (test u && not (k.known u)) (change_of (kind_in catalog u) (k.tables u) (bag_at (k.pending u))) (k.changes u);
  known = λ u. test u || k.known u;
}

-- a view's change is added to its table
abbrev pub installed : ℕ → Kept → Kept
installed v k = record {
  tables = with_at v (sum_of (k.tables v) (k.changes v)) k.tables;
  pending = k.pending;
  changes = k.changes;
  known = k.known;
}

-- before the first expression: the old tables, nothing pending, and the changes of base views, which alone are known
pub record IsFirst (catalog : CatalogOf) (old given : ℕ → Bag) (k : Kept) : Type 0 where
  pub tables : (u : ℕ) → k.tables u ≡ old u
  pub pending : (v : ℕ) → v < length catalog.views.children → k.pending v ≡ map (λ _. empty) (range_with_len 0 (suc (sums_of (kind_in catalog v))))
  pub changes : (v : ℕ) → v < length catalog.views.children → is_base catalog v ≡ true → k.changes v ≡ given v
  pub known : (v : ℕ) → v < length catalog.views.children → k.known v ≡ is_base catalog v

-- an expression of the catalogue's views: a Comp is of a derived view, from some of its children
abbrev pub IsExpressionOf : CatalogOf → Expression → Type 0
IsExpressionOf catalog (Comp v ys) = (v < length catalog.views.children) × (is_base catalog v ≡ false) × AreSources (children_of catalog.views.children v) ys
IsExpressionOf catalog (Inst v) = v < length catalog.views.children

-- what is pending of a view: a column for its counts and one for each sum, with rows as wide as the view's rows or groups
pub record IsPendingIn (catalog : CatalogOf) (view : ℕ) (pending : PendingOf) : Type 0 where
  pub for_view : IsPendingFor catalog view pending
  pub wide : (d : DefinitionOf) → definition_of catalog view ≡ Some d → (j : ℕ) → HasWidth (bag_at pending.columns j) (key_width d.output)

-- what a Comp adds can be added to what is kept pending of its view
pub record CanBeAdded (s : KeptLists) (added : PendingOf) : Type 0 where
  pub there : added.view < length s.pendings
  pub of_view : (pending_at s.pendings added.view).view ≡ added.view
  pub columns : length added.columns ≡ length (pending_at s.pendings added.view).columns

-- the changes of these views are known
abbrev pub AreKnown : Kept → List ℕ → Type 0
AreKnown k views = (u : ℕ) → has views u ≡ true → k.known u ≡ true

-- what is pending of a view with what a Comp of it adds
abbrev pub with_added : Kept → PendingOf → PendingOf
with_added k added = record { view = added.view; columns = merged (k.pending added.view) added.columns }

-- what is kept, with this as what is pending of its view
abbrev pub with_pending : PendingOf → Kept → Kept
with_pending pending k = record {
  tables = k.tables;
  pending = with_at pending.view pending.columns k.pending;
  changes = k.changes;
  known = k.known;
}

-- what is kept, with this as the change of the view, which is known
abbrev pub with_change : ℕ → Bag → Kept → Kept
with_change v change k = record {
  tables = k.tables;
  pending = k.pending;
  changes = with_at v change k.changes;
  known = with_at v true k.known;
}

-- what is kept, with this as the table of the view
abbrev pub with_table : ℕ → Bag → Kept → Kept
with_table v table k = record {
  tables = with_at v table k.tables;
  pending = k.pending;
  changes = k.changes;
  known = k.known;
}

-- some of these views have got their changes, and nothing else is new
pub record AreSomeFinished (catalog : CatalogOf) (views : List ℕ) (old new : Kept) : Type 0 where
  pub test : ℕ → Bool
  pub among : (u : ℕ) → test u ≡ true → has views u ≡ true
  pub done : new ≡ finished catalog test old
