use Rattle.std.proofs.Common.{rules, [], ◌∷◌, ◌++◌, ◌≡◌, ◌≢◌, refl, sym, ap, subst, ◌∙◌, ℕ, ◌<◌, ◌+◌, length, drop, Bool, true, false, arith}
use Rattle.std.specs.Prelude.{is_some}
use Rattle.std.proofs.lemmas.Bool.{false≢true}
use Rattle.wh_store.specs.Versions.{number}
use Rattle.wh_store.specs.Windows.{Window, Shows}
use Rattle.wh_core.specs.declared.event.Event.TheVariants as event
use Rattle.wh_core.specs.declared.reply.Reply.TheVariants as reply
use Rattle.wh_core.specs.Log.{Committed}
use Rattle.wh_carry.specs.Legs.{Over}
use Rattle.wh_core.specs.Nights.{night, published, remaining, turn, versions}
use Rattle.wh_core.specs.Replies.{IsReply, more}
use Rattle.wh_core.proofs.Steps.{end_turn_here, none_left, some_left}
use Rattle.wh_core.proofs.Moves.{commits, goes_here, no_night_to_commit, not_over, number_here, open_here}
use Rattle.wh_core.proofs.Tables.{keeps_committed}
use Rattle.wh_core.proofs.machine.Machine.commit.Goals as goal

pub returns-then-not-is_active : goal.returns-then-not-is_active
returns-then-not-is_active c = λ s log is h.
    let idle : is_some c.args.self.now.store.draft ≡ false = search rules in
    (h, no_night_to_commit s log c.args.self.now h idle)

pub returns-then-self-len : goal.returns-then-self-len
returns-then-self-len c = λ s log is h.
    let m = c.args.self.now in
    let active : is_some m.store.draft ≡ true = search rules in
    (h, not_over s log m h active (some_left m.place m.course.parts.items (omega arith)))

pub returns : goal.returns
unfolding published
returns c = λ s log is h.
    let m = c.args.self.now in
    let active : is_some m.store.draft ≡ true = search rules in
    let none = none_left m.place m.course.parts.items (omega arith) in
    let over : turn s log ≡ Over = end_turn_here (night s log) (remaining s log) (drop m.place m.course.parts.items) m.course.stop m.drawn m.done (goes_here s log m h active) none in
    let next : c.number.result ≡ number (versions s log) + 1 = c.number.ensures ∙ ap (λ (w : Window). w.number) c.in-Ok.ensures.ok ∙ ap (λ n. n + 1) (number_here s log m h) in
    let r : IsReply s log event.Commit (reply.Version c.number.result) = subst (λ n. IsReply s log event.Commit (reply.Version n)) (sym next) (commits s log m h active none) in (
      record {
        legal = more log event.Commit (reply.Version c.number.result) h.legal r;
        shows = c.in-Ok.ensures.shows s.opening (published s log) h.shows;
        versions = ap (λ (w : Window). w.limit) c.in-Ok.ensures.ok ∙ h.versions;
        tables = keeps_committed s log c.versions_stay_law.ensures is h.legal (sym (open_here s log m h) ∙ active) over m.tables h.tables;
        desks = h.desks;
        sessions = h.sessions;
        workers = c.free_all.ensures.len ∙ h.workers;
        holders = λ w lt. c.free_all.ensures.free w (let f = h.workers in omega (arith, f, lt));
        night = λ o. absurd (false≢true o);
        put = λ o. absurd (false≢true o);
      },
      r,
    )
