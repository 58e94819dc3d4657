-- The nights that a machine can begin, what is in turn in one, and the operations that it publishes.
use Rattle.std.specs.Prelude.{ℕ, List, [], ◌∷◌, ◌++◌, slice_index_or}
use Rattle.wh_dag.specs.Catalog.{CatalogOf}
use Rattle.wh_strategy.specs.declared.expression.Expression.{Expression}
use Rattle.wh_row.specs.Bag.{Bag}
use Rattle.wh_store.specs.Operations.{Operation, Opens, Writes, Commits, Gives_up}
use Rattle.wh_store.specs.Pages.{Contents}
use Rattle.wh_store.specs.Versions.{Versions, versions_of}
use Rattle.wh_carry.specs.Night.{Night, night_over}
use Rattle.wh_carry.specs.Legs.{Remaining, Turn, At_page, after_done, after_draw, after_page, legs_of, turn_of, untouched}
use Rattle.wh_core.specs.declared.options.MachineOptions.{MachineOptions}
use Rattle.wh_core.specs.Log.{Log, Began, Drew, Finished, Paged_in, Committed, Gave_up, Sat_down, Turned, Left, last_begun, nights_begun}

-- the changes of the base views that a night brings, and the strategy that carries them out
pub record GivenNight : Type 0 where
  pub changes : List Bag
  pub list : List Expression

-- what a machine begins with: a catalogue, how many desks and workers there are, of how many versions the contents are kept, how many
-- rows a page has at most, the opening contents, and the nights in their order
pub record Setup : Type 0 where
  pub catalog : CatalogOf
  pub desks : ℕ
  pub workers : ℕ
  pub versions : ℕ
  pub keys : ℕ
  pub opening : Contents
  pub nights : List GivenNight

-- a warehouse of so many desks and workers over these contents
abbrev pub setup_of : CatalogOf → MachineOptions → Contents → List GivenNight → Setup
setup_of catalog options opening nights =
    record { catalog = catalog; desks = options.desks; workers = options.workers; versions = options.versions; keys = options.page_keys; opening = opening; nights = nights }

-- the same, with these nights behind those that were given
abbrev pub with_nights : Setup → List GivenNight → Setup
with_nights s later = record {
  catalog = s.catalog;
  desks = s.desks;
  workers = s.workers;
  versions = s.versions;
  keys = s.keys;
  opening = s.opening;
  nights = s.nights ++ later;
}

-- the given night of this number, from these contents
abbrev pub night_from : Setup → Contents → ℕ → Night
night_from s contents n =
    night_over s.catalog (slice_index_or s.nights n (record { changes = []; list = [] })).list contents (slice_index_or s.nights n (record { changes = []; list = [] })).changes s.keys

-- the operation that puts the page in turn
abbrev pub page_in_turn : Turn → List Operation
page_in_turn (At_page place view rows) = Writes view rows ∷ []
page_in_turn t = []

-- the night that began last, where these operations are published: while it is open, the newest contents are those that it began from
abbrev pub last_night : Setup → Log → List Operation → Night
last_night s log ops = night_from s (versions_of s.opening ops).newest (last_begun log)

-- what is left of a night after what was done since one began last
abbrev pub remaining_in : Night → Log → Remaining
remaining_in night [] = untouched (legs_of night)
remaining_in night (Began ∷ log) = untouched (legs_of night)
remaining_in night (Committed ∷ log) = untouched (legs_of night)
remaining_in night (Gave_up ∷ log) = untouched (legs_of night)
remaining_in night (Drew w job ∷ log) = after_draw (remaining_in night log)
remaining_in night (Finished w ∷ log) = after_done (remaining_in night log)
remaining_in night (Paged_in ∷ log) = after_page (remaining_in night log)
remaining_in night (d ∷ log) = remaining_in night log

-- what is in turn in it
abbrev pub turn_in : Night → Log → Turn
turn_in night log = turn_of (remaining_in night log)

-- the published list: the operations of the accepted events
unfoldable pub published : Setup → Log → List Operation
published s [] = []
published s (Began ∷ log) = published s log ++ Opens ∷ []
published s (Paged_in ∷ log) = published s log ++ page_in_turn (turn_in (last_night s log (published s log)) log)
published s (Committed ∷ log) = published s log ++ Commits ∷ []
published s (Gave_up ∷ log) = published s log ++ Gives_up ∷ []
published s (d ∷ log) = published s log

-- the versions that it makes
abbrev pub versions : Setup → Log → Versions
versions s log = versions_of s.opening (published s log)

-- the open night, what is left of it, and what is in turn in it
abbrev pub night : Setup → Log → Night
night s log = last_night s log (published s log)

abbrev pub remaining : Setup → Log → Remaining
remaining s log = remaining_in (night s log) log

abbrev pub turn : Setup → Log → Turn
turn s log = turn_in (night s log) log

-- the night that a Begin takes: the next one, from the newest contents
abbrev pub next_night : Setup → Log → Night
next_night s log = night_from s (versions s log).newest (nights_begun log)
