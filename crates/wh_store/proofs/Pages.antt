-- Rows after a row.
use Rattle.std.proofs.Common.{◌≡◌, ◌∙◌, refl, sym, ap, ℕ, [], ◌∷◌, Option, Some, None}
use Rattle.std.specs.Prelude.{filter}
use Rattle.wh_pieces.specs.Place.{AreRisingRows}
use Rattle.wh_row.specs.Row.{Row}
use Rattle.wh_row.specs.Weigh.{Counted, above}
use Rattle.wh_versions.specs.Pages.{shown_at, rows_after as rows_above}
use Rattle.wh_versions.specs.Tables.{ViewRows, table_at}
use Rattle.wh_versions.proofs.WrittenLaws.{tables_written}
use Rattle.wh_store.specs.Pages.{is_after, rows_after}

-- all rows stand after none
pub all_after_none : (es : Counted) → filter (is_after None) es ≡ es
all_after_none [] = refl
all_after_none (e ∷ es) = ap (λ rest. e ∷ rest) (all_after_none es)

-- the rows that a version shows after a row are those of its table
pub shown_after : (t : ViewRows) (s : ℕ) (after : Option Row) → AreRisingRows t.rows → rows_above after (shown_at t s) ≡ rows_after (table_at t s) after
shown_after t s None rises = sym (tables_written t s rises) ∙ sym (all_after_none _)
shown_after t s (Some row) rises = ap (above row) (sym (tables_written t s rises))
