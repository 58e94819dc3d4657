use Rattle.std.proofs.Common.{rules, ◌≡◌, ap, subst, ◌∙◌, ℕ, ℤ, ◌∷◌}
use Rattle.wh_row.specs.Row.{Row}
use Rattle.wh_row.specs.Weigh.{Counted}
use Rattle.wh_row.specs.Bag.{Bag, written}
use Rattle.wh_maint.specs.Comp.{bag_at}
use Rattle.wh_maint.specs.Inner.Finishing.{AreMade, stands_within}
use Rattle.wh_maint.proofs.DoneGroups.{AreRest, rest_start, rest_next, done_at, done_start, done_next, done_own, same_made, none_made, none_yet}
use Rattle.wh_maint.proofs.finished.add_counted.Goals as goal

pub loop-group-init : goal.loop-group-init
loop-group-init c =
    let p : ℕ → Bag = bag_at c.args.pending.now.columns in
    let start : c.into_iter-group-iterator.result ≡ written (p 0) = c.into_iter-group-iterator.ensures.into_iter_gives ∙ c.rows-group-items.ensures.rows ∙ ap written c.counts.ensures in
    record {
      next = search rules;
      rest = rest_start (p 0) _ start;
      made = same_made c.args.sums c.args.table.now p (stands_within 0 p) _ c.args.change.now (done_start 0 p _ start) (none_made c.args.sums c.args.table.now p c.args.change.now c.requires.none);
    }

pub add_group-requires-clause-stands : goal.add_group-requires-clause-stands
add_group-requires-clause-stands c =
    let p : ℕ → Bag = bag_at c.args.pending.now.columns in
    let e : Row × ℤ = (c.in-Some.group.now, c.in-Some.field-0-1) in
    let steps : c.loop-group.group-iterator ≡ e ∷ c.next.new.self = c.in-Some.ensures.steps in
    (subst (λ (es : Counted). AreRest (p 0) es) steps c.loop-group.invariant.rest).count.0

pub add_group-requires-clause-none : goal.add_group-requires-clause-none
add_group-requires-clause-none c = λ f.
    let p : ℕ → Bag = bag_at c.args.pending.now.columns in
    let e : Row × ℤ = (c.in-Some.group.now, c.in-Some.field-0-1) in
    let steps : c.loop-group.group-iterator ≡ e ∷ c.next.new.self = c.in-Some.ensures.steps in
    let made = subst (λ (es : Counted). AreMade c.args.sums c.args.table.now p (done_at 0 p es) c.loop-group.change) steps c.loop-group.invariant.made in
    none_yet c.args.sums c.args.table.now p (done_at 0 p (e ∷ c.next.new.self)) c.loop-group.change c.in-Some.group.now made (done_own 0 p e c.next.new.self ∙ f)

pub loop-group-preserved : goal.loop-group-preserved
loop-group-preserved c =
    let p : ℕ → Bag = bag_at c.args.pending.now.columns in
    let e : Row × ℤ = (c.in-Some.group.now, c.in-Some.field-0-1) in
    let steps : c.loop-group.group-iterator ≡ e ∷ c.next.new.self = c.in-Some.ensures.steps in
    let rest = subst (λ (es : Counted). AreRest (p 0) es) steps c.loop-group.invariant.rest in
    let made = subst (λ (es : Counted). AreMade c.args.sums c.args.table.now p (done_at 0 p es) c.loop-group.change) steps c.loop-group.invariant.made in
    record {
      next = search rules;
      rest = rest_next (p 0) e c.next.new.self rest;
      made = same_made c.args.sums c.args.table.now p _ (done_at 0 p c.next.new.self) c.add_group.new.change (done_next 0 p e c.next.new.self rest)
          (c.in_ok-add_group.ensures.made (done_at 0 p (e ∷ c.next.new.self)) (done_own 0 p e c.next.new.self) made);
    }

pub returns-clause-made : goal.returns-clause-made
returns-clause-made c =
    let p : ℕ → Bag = bag_at c.args.pending.now.columns in
    subst (λ (es : Counted). AreMade c.args.sums c.args.table.now p (done_at 0 p es) c.loop-group.change) c.in-None.ensures.steps.0 c.loop-group.invariant.made
