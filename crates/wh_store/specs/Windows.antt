-- What a store shows of the versions: those whose sessions can still be read, and what is being written.
use Rattle.std.specs.Prelude.{◌≡◌, ℕ, ◌+◌, ◌-◌, List, ◌∷◌, take, map, slice_index_or, slice_set, [], Option, Some, None, is_some, unwrap_or, option_map, Bool}
use Rattle.wh_row.specs.Bag.{count}
use Rattle.wh_row.specs.Row.{Row}
use Rattle.wh_versions.specs.Rows.{read}
use Rattle.wh_versions.specs.Tables.{IsNewToNight}
use Rattle.wh_store.specs.Operations.{Operation, Opens, Writes, Commits, Gives_up}
use Rattle.wh_store.specs.Pages.{Contents}
use Rattle.wh_store.specs.Slots.{Paired, pairs_at, put_in, rows_in, still_read, taken_back}
use Rattle.wh_store.specs.Versions.{Versions, number, is_active, is_unexpired, kept_count, table_in, versions_of, written_over}

-- of how many versions it keeps the contents, the current number, the contents of the versions that a session can be read of, the newest first, what is being written, and of each view the rows that have pairs
pub record Window : Type 0 where
  pub limit : ℕ
  pub number : ℕ
  pub kept : List Contents
  pub draft : Option Contents
  pub rows : List Paired

-- the window of versions, with these rows
abbrev pub window : ℕ → List Paired → Versions → Window
window n rows v = record { limit = n; number = number v; kept = take (kept_count n (is_active v)) (v.newest ∷ v.older); draft = v.draft; rows = rows }

-- what is shown is what these operations make of these opening contents, whatever pairs the rows have
abbrev pub Shows : Window → Contents → List Operation → Type 0
Shows w opening ops = w ≡ window w.limit w.rows (versions_of opening ops)

-- the contents of the current version
abbrev pub current : Window → Contents
current w = slice_index_or w.kept 0 []

-- the contents of a version that is kept
abbrev pub kept_version : Window → ℕ → Contents
kept_version w s = slice_index_or w.kept (w.number - s) []

-- a session of this version can be read
abbrev pub unexpired : Window → ℕ → Bool
unexpired w s = is_unexpired w.limit w.number (is_some w.draft) s

-- in these contents each row of the view counts what a session of version s reads of its pairs
abbrev pub CountsAreRead : Window → ℕ → ℕ → Contents → Type 0
CountsAreRead w view s contents = (row : Row) → count (table_in contents view) row ≡ read s (pairs_at w.rows view row)

-- what is shown after one operation more
abbrev pub applied : Window → Operation → Window
applied w Opens =
    record { limit = w.limit; number = w.number; kept = take (w.limit - 1) w.kept; draft = Some (current w); rows = map (still_read w.limit (w.number + 1)) w.rows }
applied w (Writes view rows) =
    record { limit = w.limit; number = w.number; kept = w.kept; draft = option_map (written_over view rows) w.draft; rows = slice_set w.rows view (put_in w.limit (w.number + 1) rows (rows_in w.rows view)) }
applied w Commits = record { limit = w.limit; number = w.number + 1; kept = unwrap_or w.draft (current w) ∷ w.kept; draft = None; rows = w.rows }
applied w Gives_up = record { limit = w.limit; number = w.number + 1; kept = current w ∷ w.kept; draft = None; rows = map (taken_back (w.number + 1)) w.rows }

-- an operation that may take memory: new counts of rows of which one has no pair of the night
abbrev pub TakesMemory : Window → Operation → Type 0
TakesMemory w Opens = ⊥
TakesMemory w (Writes view rows) = IsNewToNight rows (record { night = w.number + 1; rows = rows_in w.rows view })
TakesMemory w Commits = ⊥
TakesMemory w Gives_up = ⊥
