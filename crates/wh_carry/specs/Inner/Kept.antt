-- What only proofs and private contracts use. What the code keeps of a night's state: as in the definition, and beside it the changes that are known.
use Rattle.std.specs.Prelude.{◌≡◌, refl, ℕ, ◌<◌, ◌==◌, Bool, List, length, map, suc}
use Rattle.std.specs.List.{range_with_len}
use Rattle.std.specs.Coded.{Coded, code_by, coded×, coded_bool, coded_list}
use Rattle.wh_dag.specs.Shape.{has, children_of}
use Rattle.wh_dag.specs.Catalog.{CatalogOf, definition_of, is_base, width_of}
use Rattle.wh_strategy.specs.declared.expression.Expression.{Expression}
use Rattle.wh_strategy.specs.declared.expression.Expression.TheVariants.{Comp, Inst}
use Rattle.wh_row.specs.Bag.{Bag, HasWidth, empty, size}
use Rattle.wh_row.specs.Inner.Bag.{coded_bag}
use Rattle.wh_maint.specs.View.{sums_of}
use Rattle.wh_maint.specs.Definition.{view_of}
use Rattle.wh_maint.specs.Comp.{PendingOf, bag_at, comp_columns, merged}
use Rattle.wh_maint.specs.Inner.Comp.{pending_code}
use Rattle.wh_maint.specs.Size.{operand_rows_of}
use Rattle.wh_maint.specs.Finishing.{kind_in}
use Rattle.wh_carry.specs.Carry.{with_at}
use Rattle.wh_carry.specs.Kept.{Kept, pending_at, is_known, KeptLists, finished, installed}

-- it is stored as the tuple of its fields
abbrev pub lists_code : Coded KeptLists
lists_code =
    code_by (List Bag × (List PendingOf × (List Bag × List Bool))) (coded× (coded_list coded_bag) (coded× (coded_list pending_code) (coded× (coded_list coded_bag) (coded_list coded_bool))))
    (λ s. (s.tables, (s.pendings, (s.changes, s.known))))
    (λ p. record { tables = p.0; pendings = p.1.0; changes = p.1.1.0; known = p.1.1.1 })
    (λ _. refl)

-- what a Comp adds is added to what is pending of its view
abbrev pub computed : CatalogOf → ℕ → List ℕ → Kept → Kept
computed catalog v ys k = record {
  tables = k.tables;
  pending = with_at v (merged (k.pending v) (comp_columns (view_of (definition_of catalog v)) (children_of catalog.views.children v) ys k.tables k.changes)) k.pending;
  changes = k.changes;
  known = k.known;
}

-- an expression finishes the views whose changes it needs, and then does its own part
abbrev pub stepped : CatalogOf → Expression → Kept → Kept
stepped catalog (Comp v ys) k = computed catalog v ys (finished catalog (has ys) k)
stepped catalog (Inst v) k = installed v (finished catalog (λ u. v == u) k)

-- these are the parts of the first views
pub record AreFirstParts (catalog : CatalogOf) (n : ℕ) (s : KeptLists) : Type 0 where
  pub each_table : length s.tables ≡ n
  pub each_change : length s.changes ≡ n
  pub each_pending : length s.pendings ≡ n
  pub each_known : length s.known ≡ n
  pub table_widths : (v : ℕ) → v < n → HasWidth (bag_at s.tables v) (width_of catalog v)
  pub change_widths : (v : ℕ) → v < n → HasWidth (bag_at s.changes v) (width_of catalog v)
  pub pending : (v : ℕ) → v < n → pending_at s.pendings v ≡ record { view = v; columns = map (λ _. empty) (range_with_len 0 (suc (sums_of (kind_in catalog v)))) }
  pub known : (v : ℕ) → v < n → is_known s.known v ≡ is_base catalog v

-- what it reads as a Comp, or writes as an Inst
abbrev pub rows_in : CatalogOf → Expression → Kept → ℕ
rows_in catalog (Comp v ys) k = operand_rows_of (children_of catalog.views.children v) ys k.tables (finished catalog (has ys) k).changes
rows_in catalog (Inst v) k = size ((finished catalog (λ u. v == u) k).changes v)
