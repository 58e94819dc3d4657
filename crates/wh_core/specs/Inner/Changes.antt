-- The change that is being written of a view, as a store shows it, and as far as a walk over the pages that were put has come.
use Rattle.std.specs.Prelude.{◌≡◌, ℕ, ◌==◌, ℤ, pos, List, [], ◌∷◌, Bool, false, ◌&&◌, ◌||◌, cond, unwrap_or}
use Rattle.wh_row.specs.Bag.{Bag, count, difference_of}
use Rattle.wh_row.specs.Row.{Row}
use Rattle.wh_row.specs.Stored.{plain}
use Rattle.wh_versions.specs.Tables.{is_given}
use Rattle.wh_store.specs.Versions.{table_in}
use Rattle.wh_store.specs.Windows.{Window, current}
use Rattle.wh_store.specs.declared.operation.Op.{Op}
use Rattle.wh_store.specs.declared.operation.Op.TheVariants.{Put}
use Rattle.wh_carry.specs.declared.course.Part.{Part}
use Rattle.wh_carry.specs.declared.course.Part.TheVariants as part

-- the change of a view in what a store shows
abbrev pub change_shown : Window → ℕ → Bag
change_shown w view = difference_of (table_in (unwrap_or w.draft (current w)) view) (table_in (current w) view)

-- the row is one that this operation puts of the view
abbrev pub is_put_by : ℕ → Row → Op → Bool
is_put_by view row (Put v rows) = (v == view) && is_given row (plain rows.items)
is_put_by view row op = false

-- the row is one that these parts put of the view
abbrev pub is_put : ℕ → Row → List Part → Bool
is_put view row [] = false
is_put view row (part.Wave outcomes ∷ parts) = is_put view row parts
is_put view row (part.Page op ∷ parts) = is_put_by view row op || is_put view row parts

-- of the rows that count so in the whole, these are noted and no others
abbrev pub AreNoted : Bag → (Row → Bool) → Bag → Type 0
AreNoted whole noted bag = (row : Row) → count bag row ≡ cond (noted row) (count whole row) (pos 0)
