use Rattle.std.proofs.Common.{rules, [], ◌∷◌, ◌++◌, ◌≡◌, refl, sym, ap, subst, ◌∙◌, ℕ, ◌<◌, ◌+◌, length, Bool, true, false, arith}
use Rattle.wh_store.specs.Windows.{Window, Shows}
use Rattle.wh_carry.specs.Course.{IsEnd}
use Rattle.wh_carry.specs.Legs.{legs_of, untouched}
use Rattle.wh_core.specs.declared.event.Event.TheVariants as event
use Rattle.wh_core.specs.declared.reply.Cause.TheVariants as cause
use Rattle.wh_core.specs.declared.reply.Reply.TheVariants as reply
use Rattle.wh_core.specs.Log.{Began}
use Rattle.wh_core.specs.Nights.{published}
use Rattle.wh_core.specs.Replies.{IsReply, more}
use Rattle.wh_core.specs.Standing.{AreLeft}
use Rattle.wh_core.proofs.Tables.{keeps_end}
use Rattle.wh_core.proofs.Underway.{night-began}
use Rattle.wh_core.proofs.Moves.{begins_so, goes_from_first, no_memory_to_begin, stopped_at_first}
use Rattle.wh_core.proofs.machine.Machine.start.Goals as goal

pub returns-in-Some : goal.returns-in-Some
returns-in-Some c = λ s log h closed left few allowed are end. (
  h,
  subst (λ k. IsReply s log event.Begin (reply.Refused k)) (sym c.cause_of.ensures)
      (stopped_at_first s log closed left few allowed c.args.course.parts.items c.args.course.stop are c.in-Some.fault.now c.in-Some.ensures.0 c.in-Some.ensures.1),
)

pub returns-in_default-apply_next : goal.returns-in_default-apply_next
returns-in_default-apply_next c = λ s log h closed left few allowed are end.
    let m = c.args.self.now in
    let same : c.apply_next.new.store ≡ m.store = c.in_default-apply_next.ensures.err in (
      record {
        legal = h.legal;
        shows = subst (λ w. Shows w s.opening (published s log)) (sym same) h.shows;
        versions = ap (λ (w : Window). w.limit) same ∙ h.versions;
        tables = h.tables;
        desks = h.desks;
        sessions = h.sessions;
        workers = h.workers;
        holders = h.holders;
        night = h.night;
        put = h.put;
      },
      no_memory_to_begin s log closed left few allowed c.args.course.parts.items c.args.course.stop are,
    )

pub returns : goal.returns
unfolding published
returns c = λ s log h closed left few allowed are end.
    let r : IsReply s log event.Begin reply.Begun = begins_so s log closed left few allowed c.args.course.parts.items c.args.course.stop are c.in_default.ensures in (
      record {
        legal = more log event.Begin reply.Begun h.legal r;
        shows = c.in-Ok.ensures.shows s.opening (published s log) h.shows;
        versions = ap (λ (w : Window). w.limit) c.in-Ok.ensures.ok ∙ h.versions;
        tables = keeps_end s (Began ∷ log) c.args.last refl (subst (λ n. IsEnd n c.args.last) (sym (night-began s log)) end);
        desks = h.desks;
        sessions = h.sessions;
        workers = c.free_all.ensures.len ∙ h.workers;
        holders = λ w lt. c.free_all.ensures.free w (let f = h.workers in omega (arith, f, lt));
        night = λ o. subst (λ n. AreLeft n (untouched (legs_of n)) c.args.course.parts.items c.args.course.stop 0 0) (sym (night-began s log))
            (goes_from_first s log closed left few allowed c.args.course.parts.items c.args.course.stop are c.in_default.ensures);
        put = λ o. record { before = published s log; list = refl };
      },
      r,
    )
