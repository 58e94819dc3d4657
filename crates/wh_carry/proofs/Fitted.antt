-- Fit tables count no row below zero.
use Rattle.std.proofs.Common.{ℕ, zero, suc, ◌<◌, List, [], ◌∷◌, length, arith}
use Rattle.std.specs.List.{AllByRecursion}
use Rattle.wh_dag.specs.Catalog.{CatalogOf}
use Rattle.wh_row.specs.Bag.{Bag, IsTable}
use Rattle.wh_maint.specs.Asked.{AreBags}
use Rattle.wh_maint.specs.Comp.{bag_at}
use Rattle.wh_maint.specs.Fit.{IsFitTable}
use Rattle.wh_maint.specs.Finishing.{kind_in}
use Rattle.wh_maint.specs.View.{Kind, Joined, Summed}
use Rattle.wh_carry.specs.Fit.{AreFitTables}

a_table : (kind : Kind) (table : Bag) → IsFitTable kind table → IsTable table
a_table Joined table fit = fit
a_table (Summed sums) table fit = fit.0

all_tables : (tables : List Bag) → ((v : ℕ) → v < length tables → IsTable (bag_at tables v)) → AllByRecursion IsTable tables
all_tables [] each = tt
all_tables (t ∷ tables) each = (each zero (omega arith), all_tables tables (λ v l. each (suc v) (omega arith)))

pub fit_tables : (catalog : CatalogOf) (tables : List Bag) → AreBags catalog tables → AreFitTables catalog tables → AllByRecursion IsTable tables
fit_tables catalog tables are fit = all_tables tables (λ v l. let e = are.each in a_table (kind_in catalog v) (bag_at tables v) (fit v (omega (arith, e, l))))
