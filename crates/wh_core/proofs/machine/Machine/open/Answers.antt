use Rattle.std.proofs.Common.{rules, ◌∷◌, ◌≡◌, refl, sym, ap, subst, ◌∙◌, ℕ, ◌<◌, Bool, true, false, Option, Some, None, arith}
use Rattle.std.specs.Prelude.{is_some, option_map}
use Rattle.wh_core.specs.declared.event.Event.TheVariants as event
use Rattle.wh_core.specs.declared.reply.Cause.TheVariants as cause
use Rattle.wh_core.specs.declared.reply.Reply.TheVariants as reply
use Rattle.wh_store.specs.Versions.{number}
use Rattle.wh_core.specs.declared.session.Seat.{Seat}
use Rattle.wh_core.specs.Log.{session}
use Rattle.wh_core.specs.Nights.{published, versions}
use Rattle.wh_core.specs.Replies.{IsReply, Says, more}
use Rattle.wh_core.specs.Standing.{session_of}
use Rattle.wh_core.proofs.Steps.{onward}
use Rattle.wh_core.proofs.Moves.{number_here}
use Rattle.wh_core.proofs.Seats.{opens, seat_set, seated}
use Rattle.wh_core.proofs.machine.Machine.open.Goals as goal

pub returns : goal.returns
unfolding published
returns c = λ s log h.
    let m = c.args.self.now in
    let v = c.number-version.result in
    let seat : session log c.args.desk ≡ option_map session_of c.index.result.now = seated s log m h c.args.desk (omega arith) c.index.result.now c.index.ensures in
    let none : c.index.result.now ≡ None = search rules in
    let same : v ≡ number (versions s log) = c.number-version.ensures ∙ number_here s log m h in
    let r : IsReply s log (event.Open c.args.desk) (reply.Session v) = opens s log m h c.args.desk (omega arith) (reply.Session v)
    (onward (is_some (session log c.args.desk)) cause.SessionOpen (Says (reply.Session (number (versions s log)))) _ (ap is_some (seat ∙ ap (option_map session_of) none)) (ap reply.Session same)) in
    let new : Seat = record { version = v; mark = None } in (
      record {
        legal = more log (event.Open c.args.desk) (reply.Session v) h.legal r;
        shows = h.shows;
        versions = h.versions;
        tables = h.tables;
        desks = search rules;
        sessions = seat_set m.seats.items s.desks c.args.desk (Some new) (session log) (omega arith) h.sessions;
        workers = h.workers;
        holders = h.holders;
        night = h.night;
        put = h.put;
      },
      r,
    )
