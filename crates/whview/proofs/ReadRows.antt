-- The rows that were read are of their views' columns.
use Rattle.std.proofs.Common.{◌≡◌, ℕ, zero, suc, ◌<◌, ◌≤ℤ◌, pos, List, [], ◌∷◌, length, map, refl, sym, ap, subst, ◌∙◌, arith}
use Rattle.std.specs.Prelude.{slice_index}
use Rattle.std.proofs.lemmas.Int.{ints}
use Rattle.wh_row.specs.Bag.{Bag, HasWidth, IsTable, empty}
use Rattle.wh_dag.specs.Catalog.{IsCatalog}
use Rattle.wh_dag.specs.Shape.{Views}
use Rattle.wh_text_catalogue.specs.Definitions.{ViewOf}
use Rattle.wh_text_catalogue.specs.ReadCatalog.{catalog_of}
use Rattle.wh_load.specs.ReadingNight.{AreReadFor, AreReadRows, ChangeRows, Rows, TableRows}
use Rattle.wh_maint.specs.Asked.{AreBags}
use Rattle.wh_maint.specs.Comp.{bag_at}
use Rattle.wh_carry.proofs.Agreeing.{count-empty}
use Rattle.whview.specs.Inner.FitNight.{AreReadTables, IsFitFor}

pub none_negative : IsTable empty
none_negative row = subst (λ n. pos 0 ≤ℤ n) (sym (count-empty row)) (omega (arith, ints))

rows_length : (kind : Rows) (views : List ViewOf) (rows : List Bag) → AreReadRows kind views rows → length rows ≡ length (map (λ view. length view.columns) views)
rows_length kind [] [] a = refl
rows_length kind [] (bag ∷ bags) a = absurd a
rows_length kind (view ∷ views) [] a = absurd a
rows_length kind (view ∷ views) (bag ∷ bags) a = ap suc (rows_length kind views bags a.1)

rows_wide : (kind : Rows) (views : List ViewOf) (rows : List Bag) → AreReadRows kind views rows → (u : ℕ) → u < length rows
    → HasWidth (bag_at rows u) (slice_index (map (λ view. length view.columns) views) u)
rows_wide kind [] [] a u l = absurd (omega arith)
rows_wide kind [] (bag ∷ bags) a u l = absurd a
rows_wide kind (view ∷ views) [] a u l = absurd a
rows_wide kind (view ∷ views) (bag ∷ bags) a zero l = a.0.0
rows_wide kind (view ∷ views) (bag ∷ bags) a (suc u) l = rows_wide kind views bags a.1 u (omega arith)

rows_tables : (views : List ViewOf) (rows : List Bag) → AreReadRows TableRows views rows → (u : ℕ) → u < length rows → IsTable (bag_at rows u)
rows_tables [] [] a u l = absurd (omega arith)
rows_tables [] (bag ∷ bags) a u l = absurd a
rows_tables (view ∷ views) [] a u l = absurd a
rows_tables (view ∷ views) (bag ∷ bags) a zero l = a.0.1
rows_tables (view ∷ views) (bag ∷ bags) a (suc u) l = rows_tables views bags a.1 u (omega arith)

pub read_bags : (kind : Rows) (shape : Views) (views : List ViewOf) (rows : List Bag) → IsCatalog (catalog_of shape views) → AreReadRows kind views rows → AreBags (catalog_of shape views) rows
read_bags kind shape views rows is a =
    let same : length rows ≡ length shape.children = rows_length kind views rows a ∙ is.each_width in
    record { each = same; widths = λ u l. rows_wide kind views rows a u (omega (arith, same)) }

pub read_tables : (shape : Views) (views : List ViewOf) (rows : List Bag) → IsCatalog (catalog_of shape views) → AreReadRows TableRows views rows → AreReadTables (catalog_of shape views) rows
read_tables shape views rows is a =
    let same : length rows ≡ length shape.children = rows_length TableRows views rows a ∙ is.each_width in
    record { bags = read_bags TableRows shape views rows is a; bases = λ u l b. rows_tables views rows a u (omega (arith, same)) }

-- what was read of a night fits the catalogue of its views
pub read_fit : (shape : Views) (views : List ViewOf) (given brought : List Bag) → AreReadFor shape views given brought → IsFitFor shape views given brought
read_fit shape views given brought are = record {
  definitions = are.definitions;
  tables = read_tables shape views given are.definitions.catalog are.before;
  changes = read_bags (ChangeRows 0) shape views brought are.definitions.catalog are.brought;
}
