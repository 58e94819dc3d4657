-- That a running desk is answered as a desk of the machine over events.
use Rattle.std.specs.Prelude.{◌≡◌, ℕ, Bool, ◌<◌, ◌≤◌, Option, option_map, option_and_then}
use Rattle.wh_row.specs.Row.{Row}
use Rattle.wh_store.specs.Pages.{Shown}
use Rattle.wh_store.specs.Versions.{Versions, is_active}
use Rattle.wh_store.specs.Readers.{goes_on}
use Rattle.wh_desk.specs.Desks.{Sitting, NotOpened, NotRead, OpensAt, Reads, versions_seen}
use Rattle.wh_desk.specs.declared.chair.DeskFault.TheVariants.{NoSession, SessionOpen, Expired, NoView}
use Rattle.wh_core.specs.declared.event.Event.TheVariants.{Open, Read}
use Rattle.wh_core.specs.declared.reply.Cause.TheVariants as cause
use Rattle.wh_core.specs.declared.reply.Reply.TheVariants as reply
use Rattle.wh_core.specs.Log.{Log, SessionOf, session}
use Rattle.wh_core.specs.Nights.{Setup, versions}
use Rattle.wh_core.specs.Replies.{IsReply}

-- the row after which a Read of this view goes on, in a session of a log
abbrev pub row_read : ℕ → Option SessionOf → Option Row
row_read view of = option_and_then (λ o. goes_on view o.bookmark) of

-- readers see no difference between these versions: each has the same contents, and a night is open in both or in neither. What an open
-- night is writing no reader sees
pub record AreSeenAlike (v w : Versions) : Type 0 where
  pub newest : v.newest ≡ w.newest
  pub older : v.older ≡ w.older
  pub active : is_active v ≡ is_active w

-- The desk of this number has, before it is answered, the session that the log has given it; and what it then sees makes versions that
-- are seen as those of the log are, as many of which are kept
pub record AreAlike (s : Setup) (log : Log) (d : ℕ) (before after : Sitting) : Type 0 where
  pub desk : d < s.desks
  pub session : before.session ≡ option_map (λ o. o.version) (session log d)
  pub kept : after.of.limit ≡ s.versions
  pub versions : AreSeenAlike (versions_seen after) (versions s log)

-- what such a desk is answered is the log's reply: a session, a page, or why there is none
pub record IsAnsweredAlike (s : Setup) (log : Log) (d : ℕ) (before after : Sitting) : Type 0 where
  pub opens : (v : ℕ) → OpensAt before after v → IsReply s log (Open d) (reply.Session v)
  pub open_already : NotOpened before after SessionOpen → IsReply s log (Open d) (reply.Refused cause.SessionOpen)
  pub reads : (view limit : ℕ) (page : Shown) → 1 ≤ limit → limit ≤ 256 → Reads before after view (row_read view (session log d)) limit page
      → IsReply s log (Read d view limit) (reply.Page page)
  pub expired : (view limit of current : ℕ) (active : Bool) → NotRead before after view (row_read view (session log d)) limit (Expired of current active)
      → IsReply s log (Read d view limit) (reply.Refused (cause.Expired of current active))
  pub no_view : (view limit : ℕ) → NotRead before after view (row_read view (session log d)) limit NoView → IsReply s log (Read d view limit) (reply.Refused cause.NoView)
  pub no_session : (view limit : ℕ) → NotRead before after view (row_read view (session log d)) limit NoSession → IsReply s log (Read d view limit) (reply.Refused cause.NoSession)

abbrev pub DesksAnswerAsTheMachine : Type 0
DesksAnswerAsTheMachine = (s : Setup) (log : Log) (d : ℕ) (before after : Sitting) → AreAlike s log d before after → IsAnsweredAlike s log d before after
