-- What sessions read of the pairs that rows have.
use Rattle.std.proofs.Common.{◌≡◌, sym, ap, ◌∙◌, ℕ, ◌+◌, ◌<◌, List, [], length, Bool, true, false, Some}
use Rattle.std.specs.Prelude.{IsTrue, slice_index_or}
use Rattle.std.proofs.lemmas.Option.{same_Some}
use Rattle.wh_pieces.specs.Place.{AreRisingRows}
use Rattle.wh_pieces.specs.Pieces.{found}
use Rattle.wh_row.specs.Bag.{count, empty}
use Rattle.wh_row.specs.Row.{Row}
use Rattle.wh_versions.specs.Rows.{read}
use Rattle.wh_versions.specs.Tables.{ViewRows, pairs_in, table_at}
use Rattle.wh_versions.proofs.ShownLaws.{count_shown}
use Rattle.wh_store.specs.Pages.{Contents}
use Rattle.wh_store.specs.Slots.{pairs_at, with_pairs}
use Rattle.wh_store.specs.Versions.{table_in}
use Rattle.wh_store.specs.Windows.{CountsAreRead, kept_version, unexpired}
use Rattle.wh_store.specs.Inner.Kept.{contents_at, rows_of, window_held}
use Rattle.wh_store.proofs.KeptLaws.{at_map, kept_contents}
use Rattle.wh_store.proofs.SlotLaws.{pairs_kept}

module _ (n number : ℕ) (ts : List ViewRows) (view : ℕ) (t : ViewRows) (here : view < length ts) (is : t ≡ slice_index_or ts view t) (rises : AreRisingRows t.rows) where
  read_in : (s : ℕ) (row : Row) → count (table_in (contents_at ts s) view) row ≡ read s (pairs_at (rows_of ts) view row)
  read_in s row =
      ap (λ b. count b row) (at_map (λ x. table_at x s) empty ts view t here is)
      ∙ count_shown s t.rows row
      ∙ ap (read s) (sym (pairs_kept t.rows row rises))
      ∙ ap (λ rs. read s (pairs_in (found row rs))) (sym (at_map (λ x. with_pairs x.rows) [] ts view t here is))

  -- in a version that can be read
  pub kept_read : (active : Bool) (s : ℕ) → IsTrue (unexpired (window_held n number active ts) s) → CountsAreRead (window_held n number active ts) view s (kept_version (window_held n number active ts) s)
  kept_read active s h row = ap (λ cs. count (table_in cs view) row) (kept_contents n number active ts s h) ∙ read_in s row

  -- and in the one that is being written
  pub draft_read : (active : Bool) (contents : Contents) → (window_held n number active ts).draft ≡ Some contents → CountsAreRead (window_held n number active ts) view (number + 1) contents
  draft_read true contents e row = ap (λ cs. count (table_in cs view) row) (sym (same_Some _ _ e)) ∙ read_in (number + 1) row
  draft_read false contents e row = cc e
