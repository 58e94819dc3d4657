use Rattle.std.proofs.Common.{◌≡◌, refl, sym, ap, subst, ◌∙◌, eqb, ℕ, map, cond, true, Option, Some, None}
use Rattle.std.specs.Prelude.{IfSome}
use Rattle.std.specs.List.{All}
use Rattle.std.proofs.lemmas.Bool.{eq-eqb, or_left}
use Rattle.wh_row.specs.Bag.{Bag, IsTable, count, sum_of, written}
use Rattle.wh_row.specs.Row.{Row}
use Rattle.std.proofs.Common.{ℤ}
use Rattle.wh_row.specs.Weigh.{Counted}
use Rattle.wh_dag.specs.Catalog.{CatalogOf}
use Rattle.wh_strategy.specs.declared.expression.Expression.TheVariants.{Inst}
use Rattle.wh_store.specs.Operations.{Writes}
use Rattle.wh_store.specs.Ledgers.{Ledger}
use Rattle.wh_store.specs.Pages.{is_page}
use Rattle.wh_carry.specs.Kept.{Kept, kept, finished, installed}
use Rattle.wh_carry.specs.Inner.Refused.{IsPassedIn}
use Rattle.wh_carry.specs.declared.stages.Stage.TheVariants as stage
use Rattle.wh_carry.specs.NightList.{pages_of}
use Rattle.wh_carry.proofs.HandedOn.{handed_on}
use Rattle.wh_carry.proofs.NewCounts.{new_counts_make_tables}
use Rattle.wh_night.specs.Inner.Underway.{AreGoodPages, ArePartlyOut, CanPublish, IsInstStopped, TakesRows, behind, is_cut, is_refused}
use Rattle.wh_night.proofs.insts.inst.Goals as goal

pub change-requires-clause-known : goal.change-requires-clause-known
change-requires-clause-known g c = ap (λ (k : Kept). k.known c.args.view) c.in_ok-install.ensures.done ∙ or_left (eqb c.args.view c.args.view) ((kept c.args.progress.now.state).known c.args.view) (eq-eqb c.args.view c.args.view refl)

pub returns-in_err-install-clause-err : goal.returns-in_err-install-clause-err
returns-in_err-install-clause-err g c =
    let m = g.O.Outlet.kept c.args.writer.now in
    handed_on (λ fault. IsInstStopped c.args.asked.now.catalog.now (g.O.Outlet.keys c.args.outlet.now) c.args.view (kept c.args.progress.now.state) fault m m) c.from_residual.result c.in_err-install.field-0.0 c.from_residual.ensures (is_refused refl c.in_err-install.ensures.refused)

-- the pages of the change in the table that has it
same_pages : (v keys : ℕ) (k installed_now : Kept) (over : Kept) (table change : Bag) → installed_now ≡ installed v over → table ≡ installed_now.tables v → change ≡ installed_now.changes v
    → pages_of keys (map {A = Row × ℤ} {B = Row × ℤ} (λ e. (e.0, count table e.0)) (written change)) ≡ pages_of keys (map {A = Row × ℤ} {B = Row × ℤ} (λ e. (e.0, count (sum_of (over.tables v) (over.changes v)) e.0)) (written (over.changes v)))
same_pages v keys k installed_now over table change whole t d =
    let same_table : table ≡ sum_of (over.tables v) (over.changes v) = t ∙ ap (λ (k : Kept). k.tables v) whole ∙ ap (λ b. cond b (sum_of (over.tables v) (over.changes v)) (over.tables v)) (eq-eqb v v refl) in
    let same_change : change ≡ over.changes v = d ∙ ap (λ (k : Kept). k.changes v) whole in
    (λ i. pages_of keys (map {A = Row × ℤ} {B = Row × ℤ} (λ e. (e.0, count (same_table i) e.0)) (written (same_change i))))

pub returns-in-Ok-clause-out : goal.returns-in-Ok-clause-out
returns-in-Ok-clause-out g c =
    let v : ℕ = c.args.view in
    let k : Kept = kept c.args.progress.now.state in
    let over : Kept = finished c.args.asked.now.catalog.now (λ u. eqb v u) k in
    subst (λ pages. g.O.Outlet.kept c.put.new.writer ≡ behind (g.O.Outlet.kept c.args.writer.now) (map (Writes v) pages))
    (same_pages v (g.O.Outlet.keys c.args.outlet.now) k (kept c.install.new.progress.state) over c.table.result.now c.change.result.now c.in_ok-install.ensures.done c.table.ensures c.change.ensures)
    c.in-Ok.ensures.out

pub returns-in-Err-clause-err : goal.returns-in-Err-clause-err
returns-in-Err-clause-err g c =
    let v : ℕ = c.args.view in
    let k : Kept = kept c.args.progress.now.state in
    let over : Kept = finished c.args.asked.now.catalog.now (λ u. eqb v u) k in
    is_cut refl c.in_ok-install.ensures.passed
    (subst (λ pages. ArePartlyOut (g.O.Outlet.kept c.args.writer.now) (map (Writes v) pages) (g.O.Outlet.kept c.put.new.writer))
    (same_pages v (g.O.Outlet.keys c.args.outlet.now) k (kept c.install.new.progress.state) over c.table.result.now c.change.result.now c.in_ok-install.ensures.done c.table.ensures c.change.ensures)
    c.in-Err.ensures.err)

-- what an Inst puts is taken
takes_rows : (m : Option Ledger) (catalog : CatalogOf) (keys v : ℕ) (k : Kept) (rows : Counted) → IfSome m (CanPublish catalog (stage.Inst v) k) → (IsTable (sum_of (k.tables v) ((finished catalog (λ u. eqb v u) k).changes v)) → AreGoodPages keys rows)
    → IsPassedIn catalog k (Inst v) → IfSome m (TakesRows keys v rows)
takes_rows None catalog keys v k rows can good passed = tt
takes_rows (Some m) catalog keys v k rows can good passed = record { takes = can.0; good = good (can.1 passed) }

pub put-requires-clause-takes : goal.put-requires-clause-takes
put-requires-clause-takes g c =
    let v : ℕ = c.args.view in
    let k : Kept = kept c.args.progress.now.state in
    let over : Kept = finished c.args.asked.now.catalog.now (λ u. eqb v u) k in
    takes_rows (g.O.Outlet.kept c.args.writer.now) c.args.asked.now.catalog.now (g.O.Outlet.keys c.args.outlet.now) v k _ c.requires.publishes
    (λ table. subst (All (λ page. is_page page ≡ true)) (sym (same_pages v (g.O.Outlet.keys c.args.outlet.now) k (kept c.install.new.progress.state) over c.table.result.now c.change.result.now c.in_ok-install.ensures.done c.table.ensures c.change.ensures))
    ((new_counts_make_tables (g.O.Outlet.keys c.args.outlet.now) (over.tables v) (over.changes v) c.requires.some).good c.requires.few table))
    c.in_ok-install.ensures.passed
