-- Where a machine stands after what was done.
use Rattle.std.specs.Prelude.{◌≡◌, ℕ, ◌<◌, ◌≤◌, Vec, List, [], ◌∷◌, ◌++◌, length, map, drop, take, slice_get, Option, Some, None, option_map, true, false}
use Rattle.wh_dag.specs.Catalog.{CatalogOf}
use Rattle.wh_strategy.specs.Rules.{Judged}
use Rattle.wh_row.specs.Bag.{Bag}
use Rattle.wh_row.specs.Stored.{plain}
use Rattle.wh_maint.specs.declared.fault.MaintFault.{MaintFault}
use Rattle.wh_store.specs.declared.operation.Op.TheVariants as op
use Rattle.wh_store.specs.Operations.{Operation, Opens, Writes}
use Rattle.wh_store.specs.Windows.{Shows}
use Rattle.wh_store.specs.Readers.{Bookmark}
use Rattle.wh_carry.specs.declared.course.Part.{Part}
use Rattle.wh_carry.specs.declared.course.Part.TheVariants as part
use Rattle.wh_carry.specs.Night.{Night}
use Rattle.wh_carry.specs.Legs.{Leg, Wave, Page, Remaining}
use Rattle.wh_carry.specs.Course.{AreParts, IsEnd}
use Rattle.wh_core.specs.declared.session.Mark.{Mark}
use Rattle.wh_core.specs.declared.session.Seat.{Seat}
use Rattle.wh_core.specs.declared.machine.Machine.{Machine}
use Rattle.wh_core.specs.declared.warehouse.Core.{Core}
use Rattle.wh_core.specs.Log.{Log, SessionOf, holding, is_open, nights_begun, session}
use Rattle.wh_core.specs.Nights.{GivenNight, Setup, night, published, remaining, versions}
use Rattle.wh_core.specs.Replies.{IsLegalLog}
use Rattle.std.specs.declared.alloc.Global.{Global}
use Rattle.wh_core.specs.Laws.{IsGivenNight, IsSetup}

abbrev pub bookmark_of : Mark → Bookmark
bookmark_of m = record { view = m.view; row = m.row.items }

abbrev pub session_of : Seat → SessionOf
session_of s = record { version = s.version; bookmark = option_map bookmark_of s.mark }

-- in a wave no more jobs are drawn than there are, and some are not done; outside of one none are
abbrev pub IsWithin : List Leg → ℕ → ℕ → Type 0
IsWithin [] drawn done = (drawn ≡ 0) × (done ≡ 0)
IsWithin (Wave place jobs ∷ legs) drawn done = (drawn ≤ jobs) × (done < jobs)
IsWithin (Page place view rows ∷ legs) drawn done = (drawn ≡ 0) × (done ≡ 0)

-- each wave has a job
abbrev pub HaveJobs : List Leg → Type 0
HaveJobs [] = Unit {0}
HaveJobs (Wave place jobs ∷ legs) = (1 ≤ jobs) × HaveJobs legs
HaveJobs (Page place view rows ∷ legs) = HaveJobs legs

-- what is left of a night has these parts, and of the first so many jobs are drawn and done
pub record AreLeft (n : Night) (r : Remaining) (parts : List Part) (stop : Option MaintFault) (drawn done : ℕ) : Type 0 where
  pub from : ℕ
  pub legs : List Leg
  pub is : r ≡ record { legs = legs; drawn = drawn; done = done }
  pub within : IsWithin legs drawn done
  pub some : HaveJobs legs
  pub are : AreParts n from legs parts stop
  pub over : parts ≡ [] → stop ≡ None

-- the tables that are kept, if some are: those of the current version, or while a night is open those that it ends with
abbrev pub KeepsTables : Setup → Log → Option (Vec Bag Global) → Type 0
KeepsTables s log None = Unit {0}
KeepsTables s log (Some tables) = (is_open log ≡ false → tables.items ≡ (versions s log).newest) × (is_open log ≡ true → IsEnd (night s log) (Some tables))

-- the operations by which these parts put their pages
abbrev pub put_by : List Part → List Operation
put_by [] = []
put_by (part.Wave outcomes ∷ parts) = put_by parts
put_by (part.Page (op.Put view rows) ∷ parts) = Writes view (plain rows.items) ∷ put_by parts
put_by (part.Page _ ∷ parts) = put_by parts

-- what is published ends by a night's Begin and the pages of these parts
pub record HasPut (published : List Operation) (parts : List Part) : Type 0 where
  pub before : List Operation
  pub list : published ≡ before ++ Opens ∷ put_by parts

-- what a machine keeps is what a legal run leaves
pub record Stands (s : Setup) (log : Log) (m : Machine) : Type 0 where
  pub legal : IsLegalLog s log
  pub shows : Shows m.store s.opening (published s log)
  pub versions : m.store.limit ≡ s.versions
  pub tables : KeepsTables s log m.tables
  pub desks : length m.seats.items ≡ s.desks
  pub sessions : (d : ℕ) → d < s.desks → slice_get (map (option_map session_of) m.seats.items) d ≡ Some (session log d)
  pub workers : length m.holders.items ≡ s.workers
  pub holders : (w : ℕ) → w < s.workers → slice_get m.holders.items w ≡ Some (holding log w)
  pub night : is_open log ≡ true → AreLeft (night s log) (remaining s log) (drop m.place m.course.parts.items) m.course.stop m.drawn m.done
  pub put : is_open log ≡ true → HasPut (published s log) (take m.place m.course.parts.items)

-- a night as it is given in code
abbrev pub given_of : Vec Bag Global × Judged → GivenNight
given_of pair = record { changes = pair.0.items; list = pair.1.list }

abbrev pub nights_of : List (Vec Bag Global × Judged) → List GivenNight
nights_of nights = map given_of nights

-- the strategies were judged over the catalogue's shape
abbrev pub AreJudged : CatalogOf → List (Vec Bag Global × Judged) → Type 0
AreJudged catalog nights = (n : ℕ) (given : Vec Bag Global × Judged) → slice_get nights n ≡ Some given → given.1.children ≡ catalog.views.children

-- the catalogue of a machine
abbrev pub catalog_of : {F G : Type 0} → Core F G → CatalogOf
catalog_of core = core.catalog

-- this night is one of the machine's catalogue, and its strategy was judged over the catalogue's shape
pub record IsNightFor {F G : Type 0} (core : Core F G) (night : Vec Bag Global × Judged) : Type 0 where
  pub given : IsGivenNight (catalog_of core) (given_of night)
  pub judged : night.1.children ≡ (catalog_of core).views.children

-- so it is of a machine with its catalogue and those of its nights that have not begun
pub record StandsWith {F G : Type 0} (s : Setup) (log : Log) (core : Core F G) : Type 0 where
  pub catalog : core.catalog ≡ s.catalog
  pub nights : nights_of core.nights.items ≡ drop (nights_begun log) s.nights
  pub judged : AreJudged core.catalog core.nights.items
  pub keys : core.keys ≡ s.keys
  pub stands : Stands s log core.machine

-- some legal run leaves a machine so
pub record IsStanding {F G : Type 0} (core : Core F G) : Type 0 where
  pub setup : Setup
  pub log : Log
  pub is_setup : IsSetup setup
  pub stands : StandsWith setup log core

-- nothing was done yet
pub record IsFresh {F G : Type 0} (core : Core F G) : Type 0 where
  pub setup : Setup
  pub is_setup : IsSetup setup
  pub stands : StandsWith setup [] core
