use Rattle.std.proofs.Common.{rules, [], ◌∷◌, ◌≡◌, ◌≢◌, refl, sym, ap, subst, ◌∙◌, ℕ, ◌<◌, ◌≤◌, ◌+◌, ◌-◌, length, drop, List, Bool, true, false, not, Option, Some, None, ◌⊎◌, ⊎_elim, inl, inr, arith}
use Rattle.std.specs.Prelude.{is_some, slice_get}
use Rattle.std.proofs.lemmas.Option.{slice_get_read, slice_get_within}
use Rattle.wh_maint.specs.declared.fault.MaintFault.{MaintFault}
use Rattle.wh_carry.specs.declared.course.Part.{Part}
use Rattle.wh_carry.specs.Legs.{after_done}
use Rattle.wh_core.specs.declared.event.Event.TheVariants as event
use Rattle.wh_core.specs.declared.reply.Cause.TheVariants as cause
use Rattle.wh_core.specs.declared.reply.Reply.TheVariants as reply
use Rattle.wh_core.specs.Log.{Finished, holding}
use Rattle.wh_core.specs.Nights.{night, published, remaining}
use Rattle.wh_core.specs.Replies.{IsReply, more}
use Rattle.wh_core.specs.Standing.{AreLeft, Stands}
use Rattle.wh_core.proofs.Steps.{drop_one, ended_one, wave_over}
use Rattle.wh_core.proofs.Put.{wave_put}
use Rattle.wh_core.proofs.Moves.{all_passed, done_here, goes_here, held_here, here, job_done, job_refused, no_night_to_do, no_wave_to_do, open_here, slot_set, wave_done, wave_stopped, within_wave}
use Rattle.wh_core.proofs.machine.Machine.done.Goals as goal

pub returns-then-not-is_active : goal.returns-then-not-is_active
returns-then-not-is_active c = λ s log h.
    let idle : is_some c.args.self.now.store.draft ≡ false = search rules in
    (h, no_night_to_do s log c.args.self.now h c.args.worker (omega arith) idle)

pub returns-in_default : goal.returns-in_default
returns-in_default c = λ s log h.
    let active : is_some c.args.self.now.store.draft ≡ true = search rules in
    let none : c.index.result.now ≡ None = search rules in
    let held : holding log c.args.worker ≡ None = held_here s log c.args.self.now h c.args.worker c.index.result.now (omega arith) c.index.ensures ∙ none in
    (h, done_here s log c.args.self.now h c.args.worker (omega arith) _ None active held refl)

pub returns-in_default-outcomes_at : goal.returns-in_default-outcomes_at
returns-in_default-outcomes_at c = λ s log h.
    let active : is_some c.args.self.now.store.draft ≡ true = search rules in
    let held : holding log c.args.worker ≡ Some c.in-Some.job = held_here s log c.args.self.now h c.args.worker c.index.result.now (omega arith) c.index.ensures ∙ c.in-Some.is in
    (h, no_wave_to_do s log c.args.self.now h c.args.worker (omega arith) active c.in-Some.job c.in_default-outcomes_at.ensures held)

pub returns-then-job-outcomes : goal.returns-then-job-outcomes
returns-then-job-outcomes c = λ s log h.
    let active : is_some c.args.self.now.store.draft ≡ true = search rules in
    let held : holding log c.args.worker ≡ Some c.in-Some.job = held_here s log c.args.self.now h c.args.worker c.index.result.now (omega arith) c.index.ensures ∙ c.in-Some.is in
    let beyond : length c.in-Some-outcomes_at.outcomes.now ≤ c.in-Some.job = omega arith in
    absurd (within_wave s log c.args.self.now h c.args.worker (omega arith) active c.in-Some-outcomes_at.outcomes.now c.in-Some-outcomes_at.ensures c.in-Some.job held beyond)

pub returns-in-Some-outcomes : goal.returns-in-Some-outcomes
returns-in-Some-outcomes c = λ s log h.
    let active : is_some c.args.self.now.store.draft ≡ true = search rules in
    let held : holding log c.args.worker ≡ Some c.in-Some.job = held_here s log c.args.self.now h c.args.worker c.index.result.now (omega arith) c.index.ensures ∙ c.in-Some.is in
    let own : slice_get c.in-Some-outcomes_at.outcomes.now c.in-Some.job ≡ Some (Some c.in-Some-outcomes.fault) = slice_get_read c.in-Some-outcomes_at.outcomes.now (length c.in-Some-outcomes_at.outcomes.now) c.in-Some.job c.index-outcomes-job.result refl (omega arith) c.index-outcomes-job.is ∙ ap Some c.in-Some-outcomes.is in
    (h, subst (λ k. IsReply s log (event.Done c.args.worker) (reply.Refused k)) (sym c.cause_of.ensures) (job_refused s log c.args.self.now h c.args.worker (omega arith) active c.in-Some-outcomes_at.outcomes.now c.in-Some-outcomes_at.ensures c.in-Some.job held c.in-Some-outcomes.fault own))

pub returns-then-self-outcomes : goal.returns-then-self-outcomes
unfolding published
returns-then-self-outcomes c = λ s log h.
    let m = c.args.self.now in
    let active : is_some m.store.draft ≡ true = search rules in
    let held : holding log c.args.worker ≡ Some c.in-Some.job = held_here s log m h c.args.worker c.index.result.now (omega arith) c.index.ensures ∙ c.in-Some.is in
    let os : List (Option MaintFault) = c.in-Some-outcomes_at.outcomes.now in
    let none : c.index-outcomes-job.result ≡ None = search rules in
    let own : slice_get os c.in-Some.job ≡ Some None = slice_get_read os (length os) c.in-Some.job c.index-outcomes-job.result refl (omega arith) c.index-outcomes-job.is ∙ ap Some none in
    let more_left : m.done + 1 < length os = let k = slice_get_within os c.in-Some.job None own in omega arith in
    let r : IsReply s log (event.Done c.args.worker) reply.Done = job_done s log m h c.args.worker (omega arith) active os c.in-Some-outcomes_at.ensures c.in-Some.job held own more_left in (
      record {
        legal = more log (event.Done c.args.worker) reply.Done h.legal r;
        shows = h.shows;
        versions = h.versions;
        tables = h.tables;
        desks = h.desks;
        sessions = h.sessions;
        workers = search rules;
        holders = slot_set m.holders.items s.workers c.args.worker None (holding log) (omega arith) h.holders;
        night = λ o. ended_one (night s log) (remaining s log) (drop m.place m.course.parts.items) m.course.stop m.drawn m.done (goes_here s log m h active) os c.in-Some-outcomes_at.ensures more_left;
        put = h.put;
      },
      r,
    )

pub returns-in-Some-hindrance : goal.returns-in-Some-hindrance
returns-in-Some-hindrance c = λ s log h.
    let m = c.args.self.now in
    let active : is_some m.store.draft ≡ true = search rules in
    let held : holding log c.args.worker ≡ Some c.in-Some.job = held_here s log m h c.args.worker c.index.result.now (omega arith) c.index.ensures ∙ c.in-Some.is in
    let os : List (Option MaintFault) = c.in-Some-outcomes_at.outcomes.now in
    let none : c.index-outcomes-job.result ≡ None = search rules in
    let own : slice_get os c.in-Some.job ≡ Some None = slice_get_read os (length os) c.in-Some.job c.index-outcomes-job.result refl (omega arith) c.index-outcomes-job.is ∙ ap Some none in
    let some = (here s log m h c.args.worker (omega arith) active os c.in-Some-outcomes_at.ensures c.in-Some.job held).some in
    let lasts : m.done + 1 ≡ length os = omega (arith, some) in (
      h,
      subst (λ k. IsReply s log (event.Done c.args.worker) (reply.Refused k)) (sym c.cause_of-in-Some-hindrance.ensures)
          (wave_stopped s log m h c.args.worker (omega arith) active os c.in-Some-outcomes_at.ensures c.in-Some.job held own lasts c.in-Some-hindrance.fault.now (drop_one m.place m.course.parts.items ∙ c.in-Some-hindrance.ensures.0) c.in-Some-hindrance.ensures.1),
    )

pub returns : goal.returns
unfolding published
returns c = λ s log h.
    let m = c.args.self.now in
    let active : is_some m.store.draft ≡ true = search rules in
    let held : holding log c.args.worker ≡ Some c.in-Some.job = held_here s log m h c.args.worker c.index.result.now (omega arith) c.index.ensures ∙ c.in-Some.is in
    let os : List (Option MaintFault) = c.in-Some-outcomes_at.outcomes.now in
    let none : c.index-outcomes-job.result ≡ None = search rules in
    let own : slice_get os c.in-Some.job ≡ Some None = slice_get_read os (length os) c.in-Some.job c.index-outcomes-job.result refl (omega arith) c.index-outcomes-job.is ∙ ap Some none in
    let some = (here s log m h c.args.worker (omega arith) active os c.in-Some-outcomes_at.ensures c.in-Some.job held).some in
    let lasts : m.done + 1 ≡ length os = omega (arith, some) in
    let on : (drop 1 (drop m.place m.course.parts.items) ≢ []) ⊎ (m.course.stop ≡ None) = ⊎_elim (λ no. inl (λ e. no (sym (drop_one m.place m.course.parts.items) ∙ e))) (λ e. inr e) c.in_default-hindrance.ensures in
    let r : IsReply s log (event.Done c.args.worker) reply.Done = wave_done s log m h c.args.worker (omega arith) active os c.in-Some-outcomes_at.ensures c.in-Some.job held own lasts on in (
      subst (Stands s (Finished c.args.worker ∷ log)) (sym c.turn_over.ensures) (record {
        legal = more log (event.Done c.args.worker) reply.Done h.legal r;
        shows = h.shows;
        versions = h.versions;
        tables = h.tables;
        desks = h.desks;
        sessions = h.sessions;
        workers = search rules;
        holders = slot_set m.holders.items s.workers c.args.worker None (holding log) (omega arith) h.holders;
        night = λ o. subst (λ parts. AreLeft (night s log) (after_done (remaining s log)) parts m.course.stop 0 0) (drop_one m.place m.course.parts.items)
            (wave_over (night s log) (remaining s log) (drop m.place m.course.parts.items) m.course.stop m.drawn m.done (goes_here s log m h active) os c.in-Some-outcomes_at.ensures lasts
            (all_passed s log m h c.args.worker (omega arith) active os c.in-Some-outcomes_at.ensures c.in-Some.job held own lasts) on);
        put = λ o. wave_put (published s log) m.course.parts.items m.place os c.in-Some-outcomes_at.ensures (h.put (sym (open_here s log m h) ∙ active));
      }),
      r,
    )
