use Rattle.std.proofs.Common.{rules, ◌≡◌, ◌+◌, ap, subst, ◌∙◌, ℕ, suc, ℤ, ◌∷◌, arith}
use Rattle.wh_row.specs.Row.{Row}
use Rattle.wh_row.specs.Weigh.{Counted}
use Rattle.wh_row.specs.Bag.{Bag, written}
use Rattle.wh_maint.specs.Comp.{bag_at}
use Rattle.wh_maint.specs.Inner.Finishing.{AreMade, stands_within}
use Rattle.wh_maint.proofs.DoneGroups.{AreRest, rest_start, rest_next, done_at, done_start, done_next, done_own, same_made, none_yet}
use Rattle.wh_maint.proofs.finished.add_summed.Goals as goal

pub loop-group-init : goal.loop-group-init
loop-group-init c =
    let p : ℕ → Bag = bag_at c.args.pending.now.columns in
    let n : ℕ = c.args.number + 1 in
    let next : suc c.args.number ≡ n = omega arith in
    let start : c.into_iter-group-iterator.result ≡ written (p n) = c.into_iter-group-iterator.ensures.into_iter_gives ∙ c.sum_rows-group-items.ensures ∙ ap (λ k. written (p k)) next in
    record {
      next = search rules;
      rest = rest_start (p n) _ start;
      made = same_made c.args.sums c.args.table.now p (stands_within n p) _ c.args.change.now (done_start n p _ start)
          (subst (λ k. AreMade c.args.sums c.args.table.now p (stands_within k p) c.args.change.now) next c.requires.made);
    }

pub add_group-requires-clause-stands : goal.add_group-requires-clause-stands
add_group-requires-clause-stands c =
    let p : ℕ → Bag = bag_at c.args.pending.now.columns in
    let n : ℕ = c.args.number + 1 in
    let e : Row × ℤ = (c.in-Some.group.now, c.in-Some.field-0-1) in
    let steps : c.loop-group.group-iterator ≡ e ∷ c.next.new.self = c.in-Some.ensures.steps in
    (subst (λ (es : Counted). AreRest (p n) es) steps c.loop-group.invariant.rest).count.0

pub add_group-requires-clause-none : goal.add_group-requires-clause-none
add_group-requires-clause-none c = λ f.
    let p : ℕ → Bag = bag_at c.args.pending.now.columns in
    let n : ℕ = c.args.number + 1 in
    let e : Row × ℤ = (c.in-Some.group.now, c.in-Some.field-0-1) in
    let steps : c.loop-group.group-iterator ≡ e ∷ c.next.new.self = c.in-Some.ensures.steps in
    let made = subst (λ (es : Counted). AreMade c.args.sums c.args.table.now p (done_at n p es) c.loop-group.change) steps c.loop-group.invariant.made in
    none_yet c.args.sums c.args.table.now p (done_at n p (e ∷ c.next.new.self)) c.loop-group.change c.in-Some.group.now made (done_own n p e c.next.new.self ∙ f)

pub loop-group-preserved : goal.loop-group-preserved
loop-group-preserved c =
    let p : ℕ → Bag = bag_at c.args.pending.now.columns in
    let n : ℕ = c.args.number + 1 in
    let e : Row × ℤ = (c.in-Some.group.now, c.in-Some.field-0-1) in
    let steps : c.loop-group.group-iterator ≡ e ∷ c.next.new.self = c.in-Some.ensures.steps in
    let rest = subst (λ (es : Counted). AreRest (p n) es) steps c.loop-group.invariant.rest in
    let made = subst (λ (es : Counted). AreMade c.args.sums c.args.table.now p (done_at n p es) c.loop-group.change) steps c.loop-group.invariant.made in
    record {
      next = search rules;
      rest = rest_next (p n) e c.next.new.self rest;
      made = same_made c.args.sums c.args.table.now p _ (done_at n p c.next.new.self) c.add_group.new.change (done_next n p e c.next.new.self rest)
          (c.in_ok-add_group.ensures.made (done_at n p (e ∷ c.next.new.self)) (done_own n p e c.next.new.self) made);
    }

pub returns-clause-made : goal.returns-clause-made
returns-clause-made c =
    let p : ℕ → Bag = bag_at c.args.pending.now.columns in
    let n : ℕ = c.args.number + 1 in
    let next : n ≡ suc c.args.number = omega arith in
    subst (λ k. AreMade c.args.sums c.args.table.now p (stands_within (suc k) p) c.loop-group.change) next
    (subst (λ (es : Counted). AreMade c.args.sums c.args.table.now p (done_at n p es) c.loop-group.change) c.in-None.ensures.steps.0 c.loop-group.invariant.made)
