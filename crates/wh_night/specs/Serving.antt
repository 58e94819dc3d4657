-- A night that runs while readers go through the tables of before.
use Rattle.std.specs.Prelude.{◌≡◌, ◌++◌, ℕ, zero, suc, List, [], ◌∷◌, length, map, Option, None, Some, IsSomeAnd, sum_by}
use Rattle.std.specs.List.{All}
use Rattle.wh_row.specs.Bag.{Bag, written}
use Rattle.wh_dag.specs.Catalog.{CatalogOf}
use Rattle.wh_strategy.specs.declared.expression.Expression.{Expression}
use Rattle.wh_store.specs.Ledgers.{Ledger, ledger}
use Rattle.wh_carry.specs.declared.report.Report.{Report}
use Rattle.wh_store.specs.Pages.{Contents}
use Rattle.wh_desk.specs.Askers.{AreAnswered}
use Rattle.wh_desk.specs.Desks.{Sitting}
use Rattle.wh_desk.specs.Known.{Known}
use Rattle.wh_desk.specs.declared.asks.Ask.{Ask}
use Rattle.wh_desk.specs.declared.asks.Ask.TheVariants as ask
use Rattle.wh_desk.specs.declared.asks.Answer.{Answer}
use Rattle.wh_desk.specs.declared.asks.Answer.TheVariants as answer
use Rattle.wh_desk.specs.declared.askers.Answered.{Answered}
use Rattle.wh_desk.specs.declared.askers.Asker.{Asker}
use Rattle.wh_night.specs.Published.{IsPublished}

-- how many distinct rows the tables of all views have together
abbrev pub rows_of : Contents → ℕ
rows_of tables = sum_by (λ table. length (written table)) tables

-- the desk is at the warehouse of which this was told
abbrev pub IsAt : Known → Sitting → Type 0
IsAt told d = (d.book ≡ told.book) × (d.of ≡ told.of)

-- asks for so many views, each to its end, 256 rows at a time
abbrev pub rests : ℕ → List Ask
rests zero = []
rests (suc n) = rests n ++ ask.Rest n 256 ∷ []

-- the reader begins at a desk of that warehouse, which has a session of version 0, and is to read so many views
pub record IsSeated (told : Known) (views : ℕ) (asker : Asker) : Type 0 where
  pub at : IsAt told asker.reader.desk
  pub session : asker.reader.desk.session ≡ Some 0
  pub begins : asker.reader.place ≡ None
  pub asks : asker.asks.items ≡ rests views

-- a view was read to its end
abbrev pub AreRows : Answer → Type 0
AreRows (answer.Rows rows) = Unit {0}
AreRows said = ⊥

-- how many rows it has
abbrev pub rows_told : Answer → ℕ
rows_told (answer.Rows rows) = rows
rows_told said = 0

-- each view that a reader asked for was read to its end; a reader without answers has read none
abbrev pub HasRead : Option Answered → Type 0
HasRead None = ⊥
HasRead (Some a) = All AreRows a.answers.items

-- how many rows a reader was given
abbrev pub rows_given : Option Answered → ℕ
rows_given None = 0
rows_given (Some a) = sum_by rows_told a.answers.items

-- these are the rows that readers were given, who read each view to its end
pub record AreGiven (answered : List (Option Answered)) (rows : List ℕ) : Type 0 where
  pub read : All HasRead answered
  pub counted : rows ≡ map rows_given answered

-- So many readers, at desks of a new warehouse of these tables, asked for all views of version 0, were answered so, and so many rows were
-- given to them
pub record WereServed (tables : Contents) (readers : ℕ) (answered : List (Option Answered)) (rows : List ℕ) : Type 0 where
  pub told : Known
  pub askers : List Asker
  pub opening : told.of.opening ≡ tables
  pub each : length askers ≡ readers
  pub seated : All (IsSeated told (length tables)) askers
  pub answers : AreAnswered told askers answered
  pub given : AreGiven answered rows

-- ---- what the night published

-- a warehouse that begins with these tables; nothing is published
abbrev pub newly : Contents → Ledger
newly tables = ledger (record { limit = 2; opening = tables }) [] None

-- what was told is published, and nothing is held
abbrev pub all_out : Known → Ledger
all_out told = ledger told.of told.list None

-- The writer of a new warehouse of these tables has told this, once the night was done: what it has published is the whole night, by pages of
-- so many rows, and the report tells of it
abbrev pub ToldOfNight : CatalogOf → List Expression → Contents → List Bag → ℕ → Report → Option Known → Type 0
ToldOfNight catalog list tables changes keys report told = IsSomeAnd told (λ told. IsPublished catalog list (newly tables) changes keys report (all_out told))
