-- Tables in a list.
use Rattle.std.proofs.Common.{ℕ, zero, suc, [], ◌∷◌}
use Rattle.std.specs.Prelude.{slice_set}
use Rattle.wh_row.specs.Bag.{Bag, IsTable}
use Rattle.wh_store.specs.Kept.{AreTables}
use Rattle.wh_store.specs.Pages.{Contents}

pub tables_set : (tables : Contents) (view : ℕ) (t : Bag) → AreTables tables → IsTable t → AreTables (slice_set tables view t)
tables_set [] view t all is = tt
tables_set (x ∷ xs) zero t all is = (is, all.1)
tables_set (x ∷ xs) (suc view) t all is = (all.0, tables_set xs view t all.1 is)
