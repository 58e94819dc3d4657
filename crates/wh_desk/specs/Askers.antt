-- What several readers are answered.
use Rattle.std.specs.Prelude.{◌≡◌, ◌<◌, ℕ, List, length, Option, option_map, IfSome, slice_index_or}
use Rattle.std.specs.List.{All}
use mathlib.Core.List.{IsPrefix}
use Rattle.wh_desk.specs.declared.askers.Answered.{Answered}
use Rattle.wh_desk.specs.declared.askers.Asker.{Asker}
use Rattle.wh_desk.specs.Desks.{Grows, Sitting}
use Rattle.wh_desk.specs.Known.{Begins, Known, known}
use Rattle.wh_desk.specs.Reading.{AreTurns, IsAskable, stand_of}
use Rattle.wh_desk.specs.Writers.{Writing, published}

-- what was told is of the reader's warehouse, and what it is to ask can be asked
abbrev pub CanAsk : Known → Asker → Type 0
CanAsk told a = (told.book ≡ a.reader.desk.book) × All IsAskable a.asks.items

-- the desk was told this before its reader asked: what it saw stays, and so does its session
pub record WasTold (told : Known) (before start : Sitting) : Type 0 where
  pub grows : Grows before start
  pub of : told.of ≡ start.of
  pub begins : IsPrefix told.list start.list
  pub session : start.session ≡ before.session

-- a reader that was to ask this, at a desk that was told so, was answered so
pub record IsAnswered (told : Known) (asker : Asker) (a : Answered) : Type 0 where
  pub start : Sitting
  pub was_told : WasTold told asker.reader.desk start
  pub grows : Grows start a.reader.desk
  pub turns : AreTurns start (option_map stand_of asker.reader.place) asker.asks.items a.answers.items a.reader.desk (option_map stand_of a.reader.place)

-- each of them was, if memory was not refused to it
pub record AreAnswered (told : Known) (askers : List Asker) (all : List (Option Answered)) : Type 0 where
  pub each : length all ≡ length askers
  pub are : (k : ℕ) (a : Asker) (r : Option Answered) → k < length askers → IfSome (slice_index_or all k r) (IsAnswered told (slice_index_or askers k a))

-- a writer has all that a desk saw
abbrev pub IsHad : Writing → Sitting → Type 0
IsHad w d = Begins (known d.book d.of d.list) (published w)
