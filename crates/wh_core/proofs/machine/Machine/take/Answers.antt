use Rattle.std.proofs.Common.{rules, ◌≡◌, refl, sym, ap, subst, ◌∙◌, ℕ, ◌<◌, ◌≤◌, ◌+◌, length, drop, Bool, true, false, not, Option, Some, None, arith}
use Rattle.std.specs.Prelude.{is_some, nat_le}
use Rattle.wh_core.specs.declared.event.Event.TheVariants as event
use Rattle.wh_core.specs.declared.reply.Cause.TheVariants as cause
use Rattle.wh_core.specs.declared.reply.Reply.TheVariants as reply
use Rattle.wh_core.specs.Log.{Drew, holding, is_open}
use Rattle.wh_core.specs.Nights.{Setup, night, published, remaining, turn}
use Rattle.wh_core.specs.Replies.{IsReply, IsRuled, Says, more, take_ruling, unless}
use Rattle.wh_core.specs.Standing.{AreLeft, Stands}
use Rattle.wh_core.proofs.Steps.{drew, le_false, le_true, onward, refuse, wave_here, wave_turn_here}
use Rattle.wh_core.proofs.Moves.{goes_here, held_here, no_night_to_take, no_wave, slot_set, take_here}
use Rattle.wh_core.proofs.machine.Machine.take.Goals as goal

pub returns-then-not-is_active : goal.returns-then-not-is_active
returns-then-not-is_active c = λ s log h.
    let idle : is_some c.args.self.now.store.draft ≡ false = search rules in
    (h, no_night_to_take s log c.args.self.now h c.args.worker (omega arith) idle)

pub returns-then-is_some : goal.returns-then-is_some
returns-then-is_some c = λ s log h.
    let active : is_some c.args.self.now.store.draft ≡ true = search rules in
    let held = held_here s log c.args.self.now h c.args.worker c.index.result.now (omega arith) c.index.ensures in
    let some : is_some c.index.result.now ≡ true = search rules in
    (h, take_here s log c.args.self.now h c.args.worker _ (omega arith) active (refuse (is_some (holding log c.args.worker)) cause.Busy _ (ap is_some held ∙ some)))

pub returns-in_default : goal.returns-in_default
returns-in_default c = λ s log h.
    let m = c.args.self.now in
    let active : is_some m.store.draft ≡ true = search rules in
    let held = held_here s log m h c.args.worker c.index.result.now (omega arith) c.index.ensures in
    let none : is_some c.index.result.now ≡ false = search rules in
    let no = c.in_default.ensures in (
      h,
      take_here s log m h c.args.worker _ (omega arith) active (onward (is_some (holding log c.args.worker)) cause.Busy _ _ (ap is_some held ∙ none)
          (no_wave (night s log) (remaining s log) (drop m.place m.course.parts.items) m.course.stop m.drawn m.done (goes_here s log m h active) no)),
    )

pub returns-then-self-outcomes : goal.returns-then-self-outcomes
returns-then-self-outcomes c = λ s log h.
    let m = c.args.self.now in
    let active : is_some m.store.draft ≡ true = search rules in
    let held = held_here s log m h c.args.worker c.index.result.now (omega arith) c.index.ensures in
    let none : is_some c.index.result.now ≡ false = search rules in
    let g = goes_here s log m h active in
    let os = c.in-Some.outcomes.now in
    let t = wave_turn_here (night s log) (remaining s log) (drop m.place m.course.parts.items) m.course.stop m.drawn m.done g os c.in-Some.ensures in (
      h,
      take_here s log m h c.args.worker _ (omega arith) active (onward (is_some (holding log c.args.worker)) cause.Busy _ _ (ap is_some held ∙ none)
          (subst (λ t. IsRuled (take_ruling t) (reply.Refused cause.NoJob)) (sym t) (refuse (nat_le (length os) m.drawn) cause.NoJob _ (le_true (length os) m.drawn (omega arith))))),
    )

pub returns : goal.returns
unfolding published
returns c = λ s log h.
    let m = c.args.self.now in
    let active : is_some m.store.draft ≡ true = search rules in
    let held = held_here s log m h c.args.worker c.index.result.now (omega arith) c.index.ensures in
    let none : is_some c.index.result.now ≡ false = search rules in
    let g = goes_here s log m h active in
    let os = c.in-Some.outcomes.now in
    let l : m.drawn < length os = omega arith in
    let t = wave_turn_here (night s log) (remaining s log) (drop m.place m.course.parts.items) m.course.stop m.drawn m.done g os c.in-Some.ensures in
    let r : IsReply s log (event.Take c.args.worker) (reply.Job m.drawn) =
    take_here s log m h c.args.worker _ (omega arith) active (onward (is_some (holding log c.args.worker)) cause.Busy _ _ (ap is_some held ∙ none)
    (subst (λ t. IsRuled (take_ruling t) (reply.Job m.drawn)) (sym t) (onward (nat_le (length os) m.drawn) cause.NoJob (Says (reply.Job m.drawn)) _ (le_false (length os) m.drawn l) refl))) in (
      record {
        legal = more log (event.Take c.args.worker) (reply.Job m.drawn) h.legal r;
        shows = h.shows;
        versions = h.versions;
        tables = h.tables;
        desks = h.desks;
        sessions = h.sessions;
        workers = search rules;
        holders = slot_set m.holders.items s.workers c.args.worker (Some m.drawn) (holding log) (omega arith) h.holders;
        night = λ o. drew (night s log) (remaining s log) (drop m.place m.course.parts.items) m.course.stop m.drawn m.done g os c.in-Some.ensures l;
        put = h.put;
      },
      r,
    )
