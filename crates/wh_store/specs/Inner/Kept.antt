-- What only proofs and private contracts use. The rows of all views that a store holds, and what they show.
use Rattle.std.specs.Prelude.{◌≡◌, ℕ, zero, suc, ◌+◌, ◌-◌, ◌<◌, ◌≤◌, ◌^◌, List, [], ◌∷◌, map, Bool, true, false, if◌then◌else◌, Option, Some, None}
use Rattle.std.specs.List.{AllByRecursion}
use Rattle.wh_row.specs.Bag.{Bag, written as written_out}
use Rattle.wh_row.specs.Weigh.{Counted}
use Rattle.wh_versions.specs.Laws.{BeginKeeps, GivesBack, PutsAreShown}
use Rattle.wh_versions.specs.Rows.{without_pair}
use Rattle.wh_versions.specs.Tables.{ViewRows, opening, table_at}
use Rattle.wh_store.specs.Pages.{Contents}
use Rattle.wh_store.specs.Slots.{Paired, put_in, still_read, with_pairs}
use Rattle.wh_store.specs.Versions.{kept_count}
use Rattle.wh_store.specs.Windows.{Window}

-- the contents of version s
abbrev pub contents_at : List ViewRows → ℕ → Contents
contents_at tables s = map (λ (t : ViewRows). table_at t s) tables

-- the contents of the last k versions up to s, the newest first
abbrev pub kept_down : ℕ → ℕ → List ViewRows → List Contents
kept_down zero s tables = []
kept_down (suc k) zero tables = contents_at tables 0 ∷ []
kept_down (suc k) (suc s) tables = contents_at tables (suc s) ∷ kept_down k s tables

-- what an open night is writing
abbrev pub draft_at : Bool → ℕ → List ViewRows → Option Contents
draft_at true number tables = Some (contents_at tables (number + 1))
draft_at false number tables = None

abbrev pub rows_of : List ViewRows → List Paired
rows_of tables = map (λ (t : ViewRows). with_pairs t.rows) tables

abbrev pub window_held : ℕ → ℕ → Bool → List ViewRows → Window
window_held n number active tables =
    record { limit = n; number = number; kept = kept_down (kept_count n active) number tables; draft = draft_at active number tables; rows = rows_of tables }

-- what holds of them: in a night, its number is the next one
pub record IsHeld (n number : ℕ) (active : Bool) (tables : List ViewRows) : Type 0 where
  pub enough : 2 ≤ n
  pub few : n ≤ 4
  pub next : number + (if active then 1 else 0) < 2 ^ 64
  pub nights : AllByRecursion (λ (t : ViewRows). t.night ≡ number + (if active then 1 else 0)) tables

-- ---- one view

-- a view's rows as it opens
abbrev pub opened_rows : Bag → ViewRows
opened_rows table = record { night = 0; rows = opening (written_out table) }

-- once its next night begins
abbrev pub begun_rows : ℕ → ViewRows → ViewRows
begun_rows n t = record { night = t.night + 1; rows = still_read n (t.night + 1) t.rows }

-- once its night is given up
abbrev pub back_rows : ViewRows → ViewRows
back_rows t = record { night = t.night; rows = map (λ e. (e.0, without_pair t.night e.1)) t.rows }

-- what that keeps of what is shown
abbrev pub Begins : ℕ → ViewRows → Type 0
Begins n t = BeginKeeps n t (begun_rows n t)

abbrev pub Returns : ViewRows → Type 0
Returns t = (s : ℕ) → t.night ≡ suc s → GivesBack s t (back_rows t)

-- with the rows that have pairs alone
abbrev pub paired : ViewRows → ViewRows
paired t = record { night = t.night; rows = with_pairs t.rows }

-- once its night has written these counts
pub record IsPut (n : ℕ) (given : Counted) (old new : ViewRows) : Type 0 where
  pub night : new.night ≡ old.night
  pub shown : PutsAreShown n given old new
  pub rows : with_pairs new.rows ≡ put_in n old.night given (with_pairs old.rows)

-- once that was refused: nothing is seen of it
pub record IsUnseen (old new : ViewRows) : Type 0 where
  pub night : new.night ≡ old.night
  pub shown : (s : ℕ) → table_at new s ≡ table_at old s
  pub rows : with_pairs new.rows ≡ with_pairs old.rows
