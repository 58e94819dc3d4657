use Rattle.std.proofs.Common.{rules, [], ◌∷◌, ◌++◌, ◌≡◌, refl, sym, ap, subst, ◌∙◌, ℕ, ◌<◌, ◌+◌, length, Bool, true, false, arith}
use Rattle.std.specs.Prelude.{is_some}
use Rattle.std.proofs.lemmas.Bool.{false≢true}
use Rattle.wh_store.specs.Versions.{number}
use Rattle.wh_store.specs.Windows.{Window, Shows}
use Rattle.wh_core.specs.declared.event.Event.TheVariants as event
use Rattle.wh_core.specs.declared.reply.Reply.TheVariants as reply
use Rattle.wh_core.specs.Log.{Gave_up}
use Rattle.wh_core.specs.Nights.{published, versions}
use Rattle.wh_core.specs.Replies.{IsReply, more}
use Rattle.wh_core.proofs.Moves.{gives_up, no_night_to_give_up, number_here}
use Rattle.wh_core.proofs.machine.Machine.give_up.Goals as goal

pub returns-then-not-is_active : goal.returns-then-not-is_active
returns-then-not-is_active c = λ s log h.
    let idle : is_some c.args.self.now.store.draft ≡ false = search rules in
    (h, no_night_to_give_up s log c.args.self.now h idle)

pub returns : goal.returns
unfolding published
returns c = λ s log h.
    let m = c.args.self.now in
    let active : is_some m.store.draft ≡ true = search rules in
    let next : c.number.result ≡ number (versions s log) + 1 = c.number.ensures ∙ ap (λ (w : Window). w.number) c.in-Ok.ensures.ok ∙ ap (λ n. n + 1) (number_here s log m h) in
    let r : IsReply s log event.GiveUp (reply.Version c.number.result) = subst (λ n. IsReply s log event.GiveUp (reply.Version n)) (sym next) (gives_up s log m h active) in (
      record {
        legal = more log event.GiveUp (reply.Version c.number.result) h.legal r;
        shows = c.in-Ok.ensures.shows s.opening (published s log) h.shows;
        versions = ap (λ (w : Window). w.limit) c.in-Ok.ensures.ok ∙ h.versions;
        tables = tt;
        desks = h.desks;
        sessions = h.sessions;
        workers = c.free_all.ensures.len ∙ h.workers;
        holders = λ w lt. c.free_all.ensures.free w (let f = h.workers in omega (arith, f, lt));
        night = λ o. absurd (false≢true o);
        put = λ o. absurd (false≢true o);
      },
      r,
    )
