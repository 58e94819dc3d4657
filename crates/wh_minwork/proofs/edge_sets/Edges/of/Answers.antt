use Rattle.std.proofs.Common.{◌≡◌, ◌≤◌, ◌&&◌, ◌||◌, [], Bool, true, false, eqb, ltb, length, get_or, refl, sym, ap, ◌∙◌, arith}
use Rattle.std.proofs.lemmas.Bool.{le-ltb}
use Rattle.wh_dag.specs.Shape.{has, children_of}
use Rattle.wh_minwork.specs.Inner.Sets.{in_rows}
use Rattle.wh_minwork.proofs.Bits.{in_none}
use Rattle.wh_minwork.proofs.Drafting.{below_more, child_small, fill_more, fill_none, filled_all}
use Rattle.wh_minwork.proofs.edge_sets.Edges.of.Goals as goal

pub loop-v-init : goal.loop-v-init
loop-v-init c = record {
  views = λ a. in_none a ∙ sym (le-ltb a 0 (omega arith));
  over = λ a b. c.none.ensures a b ∙ sym (ap (λ z. z && has (children_of c.args.children.now a) b) (le-ltb a 0 (omega arith)));
  under = λ a b. c.none-2.ensures b a ∙ sym (ap (λ z. z && has (children_of c.args.children.now a) b) (le-ltb a 0 (omega arith)));
  before = c.before_of.ensures;
}

pub loop-u-init : goal.loop-u-init
loop-u-init c =
    let shape = c.args.children.now in
    let v = c.loop-v.v in
    let i = c.loop-v.invariant in
    record {
      views = λ a. c.with.ensures a ∙ ap (λ z. eqb v a || z) (i.views a) ∙ below_more v a;
      over = λ a b. i.over a b ∙ fill_none (λ x y. ltb x v && has (children_of shape x) y) v a b [];
      under = λ a b. i.under a b ∙ fill_none (λ x y. ltb x v && has (children_of shape x) y) v a b [];
      before = i.before;
    }

pub add-requires-clause-view : goal.add-requires-clause-view
add-requires-clause-view c =
    child_small c.args.children.now c.loop-v.v c.loop-u.u-index c.of-u-items.result.now c.of-u-items.ensures.shape c.of-u-items.ensures.children c.loop-u-test.true

pub add-requires-in-loop-u-clause-row : goal.add-requires-in-loop-u-clause-row
add-requires-in-loop-u-clause-row c =
    child_small c.args.children.now c.loop-v.v c.loop-u.u-index c.of-u-items.result.now c.of-u-items.ensures.shape c.of-u-items.ensures.children c.loop-u-test.true

pub loop-u-preserved : goal.loop-u-preserved
loop-u-preserved c =
    let shape = c.args.children.now in
    let v = c.loop-v.v in
    let i = c.loop-u.invariant in
    record {
      views = i.views;
      over =
          fill_more (λ a b. in_rows c.loop-u.edges.over a b) (λ a b. in_rows c.add.new.rows a b) (λ x y. ltb x v && has (children_of shape x) y) v c.of-u-items.result.now c.loop-u.u-index c.loop-u-test.true i.over c.add.ensures;
      under =
          fill_more (λ a b. in_rows c.loop-u.edges.under b a) (λ a b. in_rows c.add-in-loop-u.new.rows b a) (λ x y. ltb x v && has (children_of shape x) y) v c.of-u-items.result.now c.loop-u.u-index c.loop-u-test.true i.under
          (λ a b. c.add-in-loop-u.ensures b a ∙ swapped (eqb (get_or c.of-u-items.result.now c.loop-u.u-index 0) b) (eqb v a) (in_rows c.loop-u.edges.under b a));
      before = i.before;
    }
  where
    swapped : (x y r : Bool) → ((x && y) || r) ≡ ((y && x) || r)
    swapped true true r = refl
    swapped true false r = refl
    swapped false true r = refl
    swapped false false r = refl

pub returns : goal.returns
returns c =
    let shape = c.args.children.now in
    let i = c.loop-v.invariant in
    let n : c.loop-v.v ≡ length shape = omega arith in
    let low : length shape ≤ c.loop-v.v = omega arith in
    record {
      shape_is = c.len-v-end.ensures.shape;
      views_are = λ a. i.views a ∙ ap (ltb a) n;
      over_are = filled_all shape (λ a b. in_rows c.loop-v.edges.over a b) c.loop-v.v low i.over;
      under_are = λ u v. filled_all shape (λ a b. in_rows c.loop-v.edges.under b a) c.loop-v.v low i.under v u;
      before_are = i.before;
    }
