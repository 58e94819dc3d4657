-- The tables before a night and after it are tables.
use Rattle.std.proofs.Common.{ℕ, List, arith, length, subst, sym, ⊎_elim}
use Rattle.std.proofs.lemmas.Bool.{cases_lt}
use Rattle.wh_carry.proofs.Agreeing.{past}
use Rattle.wh_carry.specs.CarriedOut.{IsNightCarried}
use Rattle.wh_carry.specs.Fit.{AreFitFor}
use Rattle.wh_carry.specs.declared.report.Report.{Report}
use Rattle.wh_dag.specs.Catalog.{CatalogOf}
use Rattle.wh_maint.specs.Asked.{AreBags}
use Rattle.wh_maint.specs.Comp.{bag_at}
use Rattle.wh_maint.specs.Fit.{IsFitTable}
use Rattle.wh_maint.specs.View.{Joined, Kind, Summed}
use Rattle.wh_night.proofs.FitFor.{fit_behind}
use Rattle.wh_row.specs.Bag.{Bag, IsTable, empty}
use Rattle.wh_strategy.specs.declared.expression.Expression.{Expression}
use Rattle.whview.proofs.ReadRows.{none_negative}

fit_counts : (kind : Kind) (table : Bag) → IsFitTable kind table → IsTable table
fit_counts Joined table fit = fit
fit_counts (Summed sums) table fit = fit.0

pub old_tables : (catalog : CatalogOf) (list : List Expression) (tables : List Bag) (changes : ℕ → Bag) → AreFitFor catalog changes list (bag_at tables) → (v : ℕ) → IsTable (bag_at tables v)
old_tables catalog list tables changes fit v = fit_counts _ (bag_at tables v) (fit.now v)

pub new_tables : (catalog : CatalogOf) (list : List Expression) (tables changes new : List Bag) (report : Report) → AreBags catalog tables → AreBags catalog changes
    → AreFitFor catalog (bag_at changes) list (bag_at tables) → IsNightCarried catalog list tables changes new report → (v : ℕ) → IsTable (bag_at new v)
new_tables catalog list tables changes new report are given fit carried v =
    ⊎_elim
    (λ l. subst IsTable (sym (carried.tables v l)) (fit_counts _ _ (fit_behind catalog list tables changes are given carried.allowed carried.passed fit v)))
    (λ m. subst IsTable (sym (past new v empty (let e = carried.bags.each in omega (arith, e, m)))) none_negative)
    (cases_lt v (length catalog.views.children))
