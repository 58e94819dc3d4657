-- What comes of a warehouse that stays: one legal run of a machine that had all the nights from the start.
use Rattle.std.specs.Prelude.{◌≡◌, List, [], ◌∷◌, ◌++◌, false}
use Rattle.wh_core.specs.declared.event.Event.{Event}
use Rattle.wh_core.specs.declared.event.Event.TheVariants.{Begin}
use Rattle.wh_core.specs.declared.reply.Reply.{Reply}
use Rattle.wh_core.specs.declared.reply.Reply.TheVariants as reply
use Rattle.wh_core.specs.Later.{finds_none}
use Rattle.wh_core.specs.Laws.{log_after}
use Rattle.wh_core.specs.Log.{Log, Began, logged}
use Rattle.wh_core.specs.Nights.{GivenNight, Setup, with_nights}
use Rattle.wh_core.specs.Replies.{IsLegalRun, IsReply}

-- What comes of a warehouse, from this setup on: events that its machine answers, one after another, and nights that come and begin. A Begin
-- that finds no night is left out: it changes nothing, and had the night that comes next been there, it would have begun that one
pub data Lives (opening : Setup) : Setup → Log → List Event → List Reply → Type 0 where
  opens : Lives opening opening [] [] []
  answers : (s : Setup) (log : Log) (events : List Event) (replies : List Reply) (event : Event) (r : Reply) → Lives opening s log events replies
      → IsReply s log event r → finds_none event r ≡ false → Lives opening s (logged log event r) (events ++ event ∷ []) (replies ++ r ∷ [])
  begins : (s : Setup) (log : Log) (events : List Event) (replies : List Reply) (night : GivenNight) → Lives opening s log events replies
      → IsReply (with_nights s (night ∷ [])) log Begin reply.Begun
      → Lives opening (with_nights s (night ∷ [])) (Began ∷ log) (events ++ Begin ∷ []) (replies ++ reply.Begun ∷ [])

-- it is one legal run of the setup with all the nights that came, and leaves this log
abbrev pub LivesAreLegalRuns : Type 0
LivesAreLegalRuns =
    (opening s : Setup) (log : Log) (events : List Event) (replies : List Reply) → Lives opening s log events replies
    → IsLegalRun s events replies × (log_after [] events replies ≡ log)
