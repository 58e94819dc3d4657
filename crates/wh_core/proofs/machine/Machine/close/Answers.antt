use Rattle.std.proofs.Common.{rules, ◌∷◌, ◌≡◌, refl, sym, ap, subst, ◌∙◌, ℕ, ◌<◌, Bool, true, false, Option, Some, None, arith}
use Rattle.std.specs.Prelude.{is_none, option_map}
use Rattle.wh_core.specs.declared.event.Event.TheVariants as event
use Rattle.wh_core.specs.declared.reply.Cause.TheVariants as cause
use Rattle.wh_core.specs.declared.reply.Reply.TheVariants as reply
use Rattle.wh_core.specs.declared.session.Seat.{Seat}
use Rattle.wh_core.specs.Log.{session}
use Rattle.wh_core.specs.Nights.{published}
use Rattle.wh_core.specs.Replies.{IsReply, Says, more}
use Rattle.wh_core.specs.Standing.{session_of}
use Rattle.wh_core.proofs.Steps.{onward}
use Rattle.wh_core.proofs.Seats.{closes, seat_set, seated}
use Rattle.wh_core.proofs.machine.Machine.close.Goals as goal

some_is : (o : Option Seat) → is_none o ≡ false → is_none (option_map session_of o) ≡ false
some_is None e = e
some_is (Some x) e = refl

pub returns : goal.returns
unfolding published
returns c = λ s log h.
    let m = c.args.self.now in
    let seat : session log c.args.desk ≡ option_map session_of c.index.result.now = seated s log m h c.args.desk (omega arith) c.index.result.now c.index.ensures in
    let some : is_none c.index.result.now ≡ false = search rules in
    let r : IsReply s log (event.Close c.args.desk) reply.Closed = closes s log m h c.args.desk (omega arith) reply.Closed
    (onward (is_none (session log c.args.desk)) cause.NoSession (Says reply.Closed) _ (ap is_none seat ∙ some_is c.index.result.now some) refl) in (
      record {
        legal = more log (event.Close c.args.desk) reply.Closed h.legal r;
        shows = h.shows;
        versions = h.versions;
        tables = h.tables;
        desks = search rules;
        sessions = seat_set m.seats.items s.desks c.args.desk None (session log) (omega arith) h.sessions;
        workers = h.workers;
        holders = h.holders;
        night = h.night;
        put = h.put;
      },
      r,
    )
