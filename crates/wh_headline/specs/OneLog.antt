-- One legal run for the calls of all readers beside running nights.
use Rattle.std.specs.Prelude.{◌≡◌, ℕ, ◌<◌, ◌≤◌, Bool, List, [], ◌++◌, Option, None, option_map}
use mathlib.Core.List.{IsPrefix}
use Rattle.wh_desk.specs.Desks.{Grows, Sitting}
use Rattle.wh_desk.specs.Askers.{IsAnswered, IsHad}
use Rattle.wh_desk.specs.Known.{Known}
use Rattle.wh_store.specs.Readers.{Bookmark}
use Rattle.wh_desk.specs.Reading.{AreCalls, Call, ComeTo, stand_of}
use Rattle.wh_desk.specs.declared.askers.Answered.{Answered}
use Rattle.wh_desk.specs.declared.askers.Asker.{Asker}
use Rattle.wh_desk.specs.Writers.{Writing}
use Rattle.wh_core.specs.declared.event.Event.{Event}
use Rattle.wh_core.specs.declared.reply.Reply.{Reply}
use Rattle.wh_core.specs.Laws.{IsSetup, log_after}
use Rattle.wh_core.specs.Log.{session}
use Rattle.wh_core.specs.Nights.{Setup}
use Rattle.wh_core.specs.Replies.{IsLegalRun}
use Rattle.wh_headline.specs.Growing.{AreAskedAs, asked_at, seat_of}
use Rattle.wh_headline.specs.RunningNights.{AreRunningNights, IsLogOf, set_up_warehouse}

-- what a desk was asked and answered from one sitting on, with what it saw at each call, and to which sitting that led: calls, one after
-- another, and in between the desk may have been told more of what is published, as `Desk::learn` does
pub data HasAnswered : Sitting → Option Bookmark → List Call → Sitting → Option Bookmark → Type 0 where
  no_more : (t : Sitting) (at : Option Bookmark) → HasAnswered t at [] t at
  was_told : (t u w : Sitting) (at end : Option Bookmark) (calls : List Call) → Grows t u → u.session ≡ t.session → HasAnswered u at calls w end → HasAnswered t at calls w end
  then_asked : (t u w : Sitting) (at later end : Option Bookmark) (calls more : List Call) → AreCalls t at calls u later → HasAnswered u later more w end
      → HasAnswered t at (calls ++ more) w end

-- a reader that came to its desk without a session and has made these calls; of what the desk saw the writer has all
pub record IsReaderOf (w : Writing) (calls : List Call) (here : Sitting) (at : Option Bookmark) : Type 0 where
  pub first : Sitting
  pub comes : first.session ≡ None
  pub answered : HasAnswered first None calls here at
  pub had : IsHad w here

-- A legal run whose log is one of what the writer has published. Its events of each desk are the calls of the desk's reader, in their order,
-- each with what the desk was answered for its reply; then the desk has the session that its reader has. It has no events of other desks
pub record IsOneRun (s : Setup) (nights : ℕ) (active : Bool) (w : Writing) (calls : ℕ → List Call) (here : ℕ → Sitting) (ends : ℕ → Option Bookmark) : Type 0 where
  pub events : List Event
  pub replies : List Reply
  pub legal : IsLegalRun s events replies
  pub log_of : IsLogOf s nights active w.ledger.list (log_after [] events replies)
  pub asked : (d : ℕ) → d < s.desks → AreAskedAs d (calls d) (asked_at d events replies)
  pub sits : (d : ℕ) → d < s.desks → session (log_after [] events replies) d ≡ seat_of (here d) (ends d)
  pub no_others : (d : ℕ) → s.desks ≤ d → asked_at d events replies ≡ []

-- However the steps of running nights and the calls of readers beside them follow one another, there is one such run
abbrev pub AllInOneRun : Type 0
AllInOneRun =
    (s : Setup) (nights : ℕ) (active : Bool) (w : Writing) (calls : ℕ → List Call) (here : ℕ → Sitting) (ends : ℕ → Option Bookmark) → IsSetup s
    → w.ledger.of ≡ set_up_warehouse s → AreRunningNights s nights active w.ledger.list → ((d : ℕ) → d < s.desks → IsReaderOf w (calls d) (here d) (ends d))
    → IsOneRun s nights active w calls here ends

-- ---- the run grows

-- what this desk was asked and answered after it had seen or was told all that the earlier writer has; of what it saw the later one has all
pub record GoesOnFrom (v w : Writing) (before : Sitting) (at : Option Bookmark) (more : List Call) (here : Sitting) (end : Option Bookmark) : Type 0 where
  pub told : Sitting
  pub session : told.session ≡ before.session
  pub list : IsPrefix v.ledger.list told.list
  pub answered : HasAnswered told at more here end
  pub had : IsHad w here

-- the second run begins with the first
pub record BeginsAs (first : List Event) (replied : List Reply) (later : List Event) (said : List Reply) : Type 0 where
  pub events : IsPrefix first later
  pub replies : IsPrefix replied said

-- Where more is published, and desks that were told what there was are asked more, each such run goes on: nothing in it is changed
abbrev pub OneRunGoesOn : Type 0
OneRunGoesOn =
    (s : Setup) (n nights : ℕ) (seen_open active : Bool) (v w : Writing) (calls more : ℕ → List Call) (before here : ℕ → Sitting) (at ends : ℕ → Option Bookmark) → IsSetup s
    → w.ledger.of ≡ set_up_warehouse s → AreRunningNights s nights active w.ledger.list → IsPrefix v.ledger.list w.ledger.list
    → (first : IsOneRun s n seen_open v calls before at) → ((d : ℕ) → d < s.desks → GoesOnFrom v w (before d) (at d) (more d) (here d) (ends d))
    → (later : IsOneRun s nights active w (λ d. calls d ++ more d) here ends) × BeginsAs first.events first.replies later.events later.replies

-- ---- what readers are asked by rounds

-- One round more of what a reader is asked, before which its desk may be told more, adds calls to what the desk has answered: those that the
-- asks and answers come to
abbrev pub RoundsAreCalls : Type 0
RoundsAreCalls =
    (first : Sitting) (at : Option Bookmark) (before : List Call) (told : Known) (asker : Asker) (a : Answered)
    → HasAnswered first at before asker.reader.desk (option_map stand_of asker.reader.place) → IsAnswered told asker a
    → (calls : List Call) × ComeTo asker.asks.items a.answers.items calls × HasAnswered first at (before ++ calls) a.reader.desk (option_map stand_of a.reader.place)
