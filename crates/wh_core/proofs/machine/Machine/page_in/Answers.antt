use Rattle.std.proofs.Common.{rules, [], ◌∷◌, ◌++◌, ◌≡◌, ◌≢◌, refl, sym, ap, subst, ◌∙◌, ℕ, ◌+◌, length, drop, List, Bool, true, false, Option, Some, None, ◌⊎◌, ⊎_elim, inl, inr, arith}
use Rattle.std.specs.Prelude.{is_some}
use Rattle.wh_store.specs.Operations.{operation}
use Rattle.wh_store.specs.Windows.{Window, Shows, applied}
use Rattle.wh_carry.specs.Legs.{At_page, after_page}
use Rattle.wh_core.specs.declared.event.Event.TheVariants as event
use Rattle.wh_core.specs.declared.reply.Reply.TheVariants as reply
use Rattle.wh_core.specs.Log.{Paged_in}
use Rattle.wh_core.specs.Nights.{night, page_in_turn, published, remaining, remaining_in}
use Rattle.wh_core.specs.Replies.{IsReply, more}
use Rattle.wh_core.specs.Standing.{AreLeft, Stands}
use Rattle.wh_core.proofs.Underway.{night-paged}
use Rattle.wh_core.proofs.Steps.{drop_one, page_over}
use Rattle.wh_core.proofs.Put.{page_put}
use Rattle.wh_core.proofs.Tables.{keeps_paged}
use Rattle.wh_core.proofs.Moves.{goes_here, no_memory_to_page, no_night_to_page, no_page, open_here, page_done, page_in_turn_there, page_stopped, page_there}
use Rattle.wh_core.proofs.Accepts.{page_accepted}
use Rattle.wh_core.proofs.machine.Machine.page_in.Goals as goal

pub returns-then-not-is_active : goal.returns-then-not-is_active
returns-then-not-is_active c = λ s log h.
    let idle : is_some c.args.self.now.store.draft ≡ false = search rules in
    (h, no_night_to_page s log c.args.self.now h idle)

pub returns-in_default : goal.returns-in_default
returns-in_default c = λ s log h.
    let active : is_some c.args.self.now.store.draft ≡ true = search rules in
    (h, no_page s log c.args.self.now h active c.in_default.ensures)

pub returns-in-Some-hindrance : goal.returns-in-Some-hindrance
returns-in-Some-hindrance c = λ s log h.
    let m = c.args.self.now in
    let active : is_some m.store.draft ≡ true = search rules in (
      h,
      subst (λ k. IsReply s log event.PageIn (reply.Refused k)) (sym c.cause_of.ensures)
          (page_stopped s log m h active c.in-Some.op.now c.in-Some.ensures c.in-Some-hindrance.fault.now (drop_one m.place m.course.parts.items ∙ c.in-Some-hindrance.ensures.0) c.in-Some-hindrance.ensures.1),
    )

pub apply_next-requires : goal.apply_next-requires
apply_next-requires c =
    let r = c.requires in
    let m = c.args.self.now in
    let active : is_some m.store.draft ≡ true = search rules in
    let on : (drop 1 (drop m.place m.course.parts.items) ≢ []) ⊎ (m.course.stop ≡ None) = ⊎_elim (λ no. inl (λ e. no (sym (drop_one m.place m.course.parts.items) ∙ e))) (λ e. inr e) c.in_default-hindrance.ensures in
    page_accepted c.published_are_well_formed.ensures c.well_formed_law.ensures r.setup r.log m r.is_setup r.stands active c.in-Some.op.now c.in-Some.ensures on

pub returns-in_default-apply_next : goal.returns-in_default-apply_next
returns-in_default-apply_next c = λ s log h.
    let m = c.args.self.now in
    let active : is_some m.store.draft ≡ true = search rules in
    let same : c.apply_next.new.store ≡ m.store = c.in_default-apply_next.ensures.err in (
      record {
        legal = h.legal;
        shows = subst (λ w. Shows w s.opening (published s log)) (sym same) h.shows;
        versions = ap (λ (w : Window). w.limit) same ∙ h.versions;
        tables = h.tables;
        desks = h.desks;
        sessions = h.sessions;
        workers = h.workers;
        holders = h.holders;
        night = h.night;
        put = h.put;
      },
      no_memory_to_page s log m h active c.in-Some.op.now c.in-Some.ensures,
    )

pub returns : goal.returns
unfolding published
returns c = λ s log h.
    let m = c.args.self.now in
    let active : is_some m.store.draft ≡ true = search rules in
    let op = c.in-Some.op.now in
    let first = c.in-Some.ensures in
    let there = page_there s log m h active op first in
    let on : (drop 1 (drop m.place m.course.parts.items) ≢ []) ⊎ (m.course.stop ≡ None) = ⊎_elim (λ no. inl (λ e. no (sym (drop_one m.place m.course.parts.items) ∙ e))) (λ e. inr e) c.in_default-hindrance.ensures in
    let rows : c.rows_of-rows.result ≡ length there.rows = c.rows_of-rows.ensures there.view there.rows there.writes in
    let r : IsReply s log event.PageIn (reply.Paged c.rows_of-rows.result) = subst (λ k. IsReply s log event.PageIn (reply.Paged k)) (sym rows) (page_done s log m h active op first on) in
    let put : operation op ∷ [] ≡ page_in_turn (At_page there.place there.view there.rows) = ap (λ o. o ∷ []) there.writes in (
      subst (Stands s (Paged_in ∷ log)) (sym c.turn_over.ensures) (record {
        legal = more log event.PageIn (reply.Paged c.rows_of-rows.result) h.legal r;
        shows = subst (λ ops. Shows c.apply_next.new.store s.opening (published s log ++ ops)) (put ∙ ap page_in_turn (sym (page_in_turn_there s log m h active op first))) (c.in-Ok.ensures.shows s.opening (published s log) h.shows);
        versions = ap (λ (w : Window). w.limit) (c.in-Ok.ensures.ok ∙ ap (applied m.store) there.writes) ∙ h.versions;
        tables = keeps_paged s log m.tables (sym (open_here s log m h) ∙ active) h.tables;
        desks = h.desks;
        sessions = h.sessions;
        workers = h.workers;
        holders = h.holders;
        night = λ o. subst (λ n. AreLeft n (after_page (remaining_in n log)) (drop (m.place + 1) m.course.parts.items) m.course.stop 0 0) (sym (night-paged s log))
            (subst (λ parts. AreLeft (night s log) (after_page (remaining s log)) parts m.course.stop 0 0) (drop_one m.place m.course.parts.items)
            (page_over (night s log) (remaining s log) (drop m.place m.course.parts.items) m.course.stop m.drawn m.done (goes_here s log m h active) op first on));
        put = λ o. page_put (published s log) _ m.course.parts.items m.place op there.view there.rows first there.writes (put ∙ ap page_in_turn (sym (page_in_turn_there s log m h active op first))) (h.put (sym (open_here s log m h) ∙ active));
      }),
      r,
    )
