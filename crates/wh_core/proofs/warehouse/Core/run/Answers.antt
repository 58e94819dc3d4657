use Rattle.std.proofs.Common.{rules, ◌≡◌, refl, sym, ap, subst, ◌∙◌, ℕ, zero, suc, ◌+◌, ◌<◌, List, [], ◌∷◌, ◌++◌, drop, length, get_or, arith}
use Rattle.std.proofs.lemmas.List.{append-nil, append_assoc, drop_all}
use Rattle.wh_core.specs.declared.event.Event.{Event}
use Rattle.wh_core.specs.declared.event.Event.TheVariants.{Begin}
use Rattle.wh_core.specs.declared.reply.Reply.{Reply}
use Rattle.wh_core.specs.Laws.{log_after}
use Rattle.wh_core.specs.Log.{Log, logged}
use Rattle.wh_core.specs.Nights.{Setup}
use Rattle.wh_core.specs.Replies.{IsLegalRun, IsReply, IsRunFrom}
use Rattle.wh_core.specs.Standing.{StandsWith}
use Rattle.wh_core.proofs.warehouse.Core.run.Goals as goal

drop_here : {A : Type 0} (xs : List A) (i : ℕ) (d : A) → i < length xs → drop i xs ≡ get_or xs i d ∷ drop (i + 1) xs
drop_here [] i d l = absurd (omega arith)
drop_here (x ∷ xs) zero d l = refl
drop_here (x ∷ xs) (suc i) d l = let e : suc (i + 1) ≡ suc i + 1 = omega arith in drop_here xs i d (omega arith) ∙ ap (λ k. get_or xs i d ∷ drop k (x ∷ xs)) e

one_more : (s : Setup) (log : Log) (e : Event) (r : Reply) (events : List Event) (rest : List Reply) → IsReply s log e r → IsRunFrom s (logged log e r) events rest → IsRunFrom s log (e ∷ events) (r ∷ rest)
unfolding IsRunFrom
one_more s log e r events rest is run = (is, run)

nothing_more : (s : Setup) (log : Log) → IsRunFrom s log [] []
unfolding IsRunFrom
nothing_more s log = tt

-- where no event is left, the replies so far are those of the whole
whole_run : (s : Setup) (log : Log) (events : List Event) (replies : List Reply) (k : ℕ) → drop k events ≡ [] → ((rest : List Reply) → IsRunFrom s log (drop k events) rest → IsLegalRun s events (replies ++ rest))
    → IsLegalRun s events replies
whole_run s log events replies k none each = subst (IsLegalRun s events) (append-nil replies) (each [] (subst (λ es. IsRunFrom s log es []) (sym none) (nothing_more s log)))

pub loop-event-preserved : goal.loop-event-preserved
loop-event-preserved g c = record {
  standing = c.step-reply.ensures.stands;
  room = let cap = c.push.ensures.capacity in let room = c.loop-event.invariant.room in omega (arith, cap, room);
  each = search rules;
  far = λ s is h.
      let i = c.loop-event.invariant.far s is h in
      let both = c.step-reply.ensures.reply s i.0 is i.1 in
      let events : List Event = c.args.events.now in
      let k : ℕ = c.loop-event.event-index in
      let event : Event = get_or events k Begin in
      let r : Reply = c.step-reply.result in
      let here : drop k events ≡ event ∷ drop (k + 1) events = drop_here events k Begin (omega arith) in
      let joined : (rest : List Reply) → c.loop-event.replies.items ++ (r ∷ rest) ≡ c.push.new.self.items ++ rest =
      λ rest. sym (append_assoc c.loop-event.replies.items (r ∷ []) rest) ∙ ap (λ rs. rs ++ rest) (sym c.in-Ok.ensures.items) in (
        logged i.0 event r,
        both.0,
        λ rest run. subst (IsLegalRun s events) (joined rest) (i.2 (r ∷ rest) (subst (λ es. IsRunFrom s i.0 es (r ∷ rest)) (sym here) (one_more s i.0 event r (drop (k + 1) events) rest both.1 run))),
        λ rest. ap (log_after [] events) (sym (joined rest)) ∙ i.3 (r ∷ rest) ∙ ap (λ es. log_after i.0 es (r ∷ rest)) here,
      );
}

pub returns-clause-replies : goal.returns-clause-replies
returns-clause-replies g c = λ s is h.
    let i = c.loop-event.invariant.far s is h in
    let events : List Event = c.args.events.now in
    let none : drop c.loop-event.event-index events ≡ [] = drop_all c.loop-event.event-index events (omega arith) in
    let whole = append-nil c.loop-event.replies.items in (
      whole_run s i.0 events c.loop-event.replies.items c.loop-event.event-index none i.2,
      subst (λ log. StandsWith s log c.loop-event.self) (sym (ap (log_after [] events) (sym whole) ∙ i.3 [] ∙ ap (λ es. log_after i.0 es []) none)) i.1,
    )

pub returns-clause-comes_true : goal.returns-clause-comes_true
returns-clause-comes_true g c = λ s is h.
    let i = c.loop-event.invariant.far s is h in
    let events : List Event = c.args.events.now in
    let none : drop c.loop-event.event-index events ≡ [] = drop_all c.loop-event.event-index events (omega arith) in
    c.runs_come_true.ensures s events c.loop-event.replies.items is (whole_run s i.0 events c.loop-event.replies.items c.loop-event.event-index none i.2)
