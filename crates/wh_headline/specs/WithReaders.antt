-- A night that runs while readers ask: one legal run of the machine for all of it.
use Rattle.std.specs.Prelude.{◌≡◌, ◌⊎◌, ℕ, ◌+◌, Bool, true, false, List, ◌++◌, length, map, Option, Some, None, IfSome, option_map, slice_get, Result, MatchResult}
use Rattle.wh_row.specs.Bag.{Bag}
use Rattle.wh_dag.specs.Catalog.{CatalogOf}
use Rattle.wh_strategy.specs.declared.expression.Expression.{Expression}
use Rattle.wh_store.specs.Ledgers.{Ledger}
use Rattle.wh_carry.specs.declared.report.Carried.{Carried}
use Rattle.wh_desk.specs.Desks.{Sitting}
use Rattle.wh_store.specs.Readers.{Bookmark}
use Rattle.wh_desk.specs.Reading.{Call, ComeTo, stand_of}
use Rattle.wh_desk.specs.Writers.{Writing}
use Rattle.wh_desk.specs.declared.askers.Answered.{Answered}
use Rattle.wh_desk.specs.declared.askers.Asker.{Asker}
use Rattle.wh_night.specs.declared.beside.Beside.{Beside}
use Rattle.wh_night.specs.declared.left.Aftermath.{Aftermath}
use Rattle.wh_night.specs.declared.left.Aftermath.TheVariants.{Untouched, GivenUp, StillOpen}
use Rattle.wh_night.specs.declared.left.NightFault.{NightFault}
use Rattle.wh_core.specs.Laws.{IsSetup}
use Rattle.wh_core.specs.Nights.{GivenNight, Setup}
use Rattle.wh_headline.specs.OneLog.{HasAnswered, IsOneRun}
use Rattle.wh_headline.specs.RunningNights.{AreEndedNights, AreRunningNights, set_up_warehouse}

-- ---- before the night

-- the night that is carried out by this strategy and brings these changes
abbrev pub given_by : List Expression → List Bag → GivenNight
given_by list changes = record { changes = changes; list = list }

-- behind this ledger, in which all nights have ended, the given night is the one of this number; it may be that it cannot begin
pub record IsInTurn (s : Setup) (n : ℕ) (given : GivenNight) (l : Ledger) : Type 0 where
  pub of : l.of ≡ set_up_warehouse s
  pub ended : AreEndedNights s n l.list
  pub is : slice_get s.nights n ≡ Some given

-- a reader came to its desk without a session, and has made these calls
pub record HasMade (calls : List Call) (asker : Asker) : Type 0 where
  pub first : Sitting
  pub comes : first.session ≡ None
  pub answered : HasAnswered first None calls asker.reader.desk (option_map stand_of asker.reader.place)

-- the warehouse has one desk for each of these readers, and each has made its calls
pub record HaveMade (s : Setup) (earlier : ℕ → List Call) (askers : List Asker) : Type 0 where
  pub desks : s.desks ≡ length askers
  pub each : (d : ℕ) (asker : Asker) → slice_get askers d ≡ Some asker → HasMade (earlier d) asker

-- ---- after it

-- how many nights have begun, and whether one is open, where so many had ended and the next one was refused and left so
abbrev pub HaveBegun : ℕ → Aftermath → ℕ → Bool → Type 0
HaveBegun n Untouched nights active = (nights ≡ n) × (active ≡ false)
HaveBegun n GivenUp nights active = (nights ≡ n + 1) × (active ≡ false)
HaveBegun n StillOpen nights active = ((nights ≡ n) × (active ≡ false)) ⊎ ((nights ≡ n + 1) × (active ≡ true))

-- what a reader was asked and answered beside the night comes to these calls, after which it sits and stands so
pub record CameTo (asker : Asker) (a : Answered) (calls : List Call) (here : Sitting) (end : Option Bookmark) : Type 0 where
  pub come : ComeTo asker.asks.items a.answers.items calls
  pub sits : here ≡ a.reader.desk
  pub stands : end ≡ option_map stand_of a.reader.place

-- What the writer has published is running nights: those before, and this one so far as its answer says. And with the calls that each reader
-- has made, before the night and beside it, it is one legal run
pub record IsRunOfAll (s : Setup) (n : ℕ) (night : Result Carried NightFault) (earlier : ℕ → List Call) (askers : List Asker) (answers : List Answered) (after : Writing) : Type 0 where
  pub nights : ℕ
  pub active : Bool
  pub calls : ℕ → List Call
  pub here : ℕ → Sitting
  pub ends : ℕ → Option Bookmark
  pub begun : MatchResult night (λ _. (nights ≡ n + 1) × (active ≡ false)) (λ f. HaveBegun n f.left nights active)
  pub running : AreRunningNights s nights active after.ledger.list
  pub came : (d : ℕ) (asker : Asker) (a : Answered) → slice_get askers d ≡ Some asker → slice_get answers d ≡ Some a → CameTo asker a (calls d) (here d) (ends d)
  pub run : IsOneRun s nights active after (λ d. earlier d ++ calls d) here ends

-- So it is for each machine of this catalogue in which the night is the next one and the readers have made the calls that they had, if no
-- reader was refused memory: whether the night is done, cannot begin, is refused untouched, is given up, or is left open
abbrev pub AreInOneRun : CatalogOf → GivenNight → Writing → List Asker → Beside → Writing → Type 0
AreInOneRun catalog given before askers told after =
    (s : Setup) (n : ℕ) (earlier : ℕ → List Call) (answers : List Answered) → IsSetup s → s.catalog ≡ catalog → IsInTurn s n given before.ledger → HaveMade s earlier askers
    → IfSome told.answered (λ all. all.items ≡ map Some answers → IsRunOfAll s n told.night earlier askers answers after)
