-- Nights that are given later: what was done before stays legal, as if they had been given from the start.
use Rattle.std.specs.Prelude.{◌≡◌, List, [], ◌∷◌, ◌++◌, Bool, true, false, if◌then◌else◌}
use Rattle.wh_core.specs.declared.event.Event.{Event}
use Rattle.wh_core.specs.declared.event.Event.TheVariants.{Begin}
use Rattle.wh_core.specs.declared.reply.Cause.TheVariants as cause
use Rattle.wh_core.specs.declared.reply.Reply.{Reply}
use Rattle.wh_core.specs.declared.reply.Reply.TheVariants as reply
use Rattle.wh_core.specs.Log.{Log, is_open}
use Rattle.wh_core.specs.Nights.{GivenNight, Setup, night, published, with_nights}
use Rattle.wh_core.specs.Replies.{IsLegalLog, IsReply, IsRunFrom}
use Rattle.wh_core.specs.Laws.{log_after}

-- it is a Begin that found no night left
abbrev pub finds_none : Event → Reply → Bool
finds_none Begin (reply.Refused cause.NoNight) = true
finds_none event r = false

-- What was done is legal of the setup with more nights too, and means the same there: the same operations are published, and the same night
-- is open. So is each reply to the event that comes next, but one: where a Begin found no night left, one of these nights would have been next
pub record GoesOn (s : Setup) (log : Log) (later : List GivenNight) : Type 0 where
  pub legal : IsLegalLog (with_nights s later) log
  pub same_list : published (with_nights s later) log ≡ published s log
  pub same_night : is_open log ≡ true → night (with_nights s later) log ≡ night s log
  pub replies : (event : Event) (r : Reply) → IsReply s log event r → finds_none event r ≡ false → IsReply (with_nights s later) log event r

-- so it is of every legal log
abbrev pub NightsComeLater : Type 0
NightsComeLater = (s : Setup) (log : Log) (later : List GivenNight) → IsLegalLog s log → GoesOn s log later

-- the events of a run, and their replies, without the Begins that found no night left
abbrev pub events_found : List Event → List Reply → List Event
events_found (event ∷ events) (r ∷ replies) = if finds_none event r then events_found events replies else event ∷ events_found events replies
events_found [] replies = []
events_found events [] = []

abbrev pub replies_found : List Event → List Reply → List Reply
replies_found (event ∷ events) (r ∷ replies) = if finds_none event r then replies_found events replies else r ∷ replies_found events replies
replies_found [] replies = []
replies_found events [] = []

-- A run that more nights come after: without the Begins that found none it leaves the same log, and with what follows, by the setup with
-- these nights, it is one run of this setup
pub record RunGoesOn (s : Setup) (log : Log) (events : List Event) (replies : List Reply) (later : List GivenNight) : Type 0 where
  pub same_log : log_after log (events_found events replies) (replies_found events replies) ≡ log_after log events replies
  pub run : (following : List Event) (said : List Reply) → IsRunFrom (with_nights s later) (log_after log events replies) following said
      → IsRunFrom (with_nights s later) log (events_found events replies ++ following) (replies_found events replies ++ said)

-- so it is of every run from a legal log on
abbrev pub RunsGoOn : Type 0
RunsGoOn = (s : Setup) (log : Log) (events : List Event) (replies : List Reply) (later : List GivenNight) → IsLegalLog s log → IsRunFrom s log events replies
    → RunGoesOn s log events replies later
