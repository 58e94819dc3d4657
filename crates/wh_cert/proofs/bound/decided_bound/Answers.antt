use Rattle.std.proofs.Common.{◌≡◌, ◌<◌, ◌+◌, ◌*◌, ℕ, length, ap, sym, ◌∙◌, arith}
use Rattle.wh_dag.specs.Shape.{children_of}
use Rattle.wh_strategy.specs.Prices.{prices_of}
use Rattle.wh_strategy.specs.Sizes.{sizes_of}
use Rattle.wh_strategy.specs.Sums.{sum_below}
use Rattle.wh_strategy.proofs.SumsBelow.{sum_below_none, sum_below_more}
use Rattle.wh_cert.specs.Bound.{decided_value, rows_by, decided_bound_of}
use Rattle.wh_cert.proofs.ChildViews.{children_are_views}
use Rattle.wh_cert.proofs.bound.decided_bound.Goals as goal

pub loop-view-init : goal.loop-view-init
loop-view-init c = record {
  rows = sym (sum_below_none _);
  changes = sym (sum_below_none _);
  small = omega arith;
  low = omega arith;
}

pub least_rows-rows-requires-clause-views : goal.least_rows-rows-requires-clause-views
least_rows-rows-requires-clause-views c =
    let lt : c.loop-view.view < length c.args.sizes.now = omega (arith, c.loop-view-test.true) in
    let own : c.of.result.now ≡ children_of c.args.shape.now.children c.loop-view.view = c.of.ensures.children ∙ ap (λ lists. children_of lists c.loop-view.view) c.child_lists-children.ensures.lists in
    children_are_views c.args.shape.now.children c.loop-view.view (length c.args.sizes.now) c.of.result.now c.child_lists-children.ensures.shape lt own

pub loop-view-preserved : goal.loop-view-preserved
loop-view-preserved c =
    let sizes = sizes_of c.args.sizes.now in
    let f : ℕ → ℕ = λ v. rows_by (decided_value sizes c.of-decisions.result) sizes (children_of c.args.shape.now.children v) in
    let own : c.of.result.now ≡ children_of c.args.shape.now.children c.loop-view.view = c.of.ensures.children ∙ ap (λ lists. children_of lists c.loop-view.view) c.child_lists-children.ensures.lists in
    let at : f c.loop-view.view ≡ c.least_rows-rows.result = ap (rows_by (decided_value sizes c.of-decisions.result) sizes) (sym own) ∙ sym c.least_rows-rows.ensures.value in
    record {
      rows = ap (λ z. z + c.least_rows-rows.result) c.loop-view.invariant.rows ∙ ap (λ z. sum_below f c.loop-view.view + z) (sym at) ∙ sym (sum_below_more f c.loop-view.view);
      changes = ap (λ z. z + c.changed_rows-changes.result) c.loop-view.invariant.changes ∙ ap (λ z. sum_below (λ v. (sizes v).change) c.loop-view.view + z) c.changed_rows-changes.ensures.value ∙ sym (sum_below_more (λ v. (sizes v).change) c.loop-view.view);
      small = omega (arith, c.least_rows-rows.ensures.small, c.loop-view.invariant.small);
      low = omega (arith, c.changed_rows-changes.ensures.small, c.loop-view.invariant.low);
    }

pub returns : goal.returns
returns c =
    let shape = c.args.shape.now.children in
    let sizes = sizes_of c.args.sizes.now in
    let f : ℕ → ℕ = λ v. rows_by (decided_value sizes c.of-decisions.result) sizes (children_of shape v) in
    let g : ℕ → ℕ = λ v. (sizes v).change in
    let n : c.loop-view.view ≡ length shape = omega arith in
    let a : c.loop-view.rows ≡ sum_below f (length shape) = c.loop-view.invariant.rows ∙ ap (sum_below f) n in
    let b : c.loop-view.changes ≡ sum_below g (length shape) = c.loop-view.invariant.changes ∙ ap (sum_below g) n in
    ap (λ z. c.args.costs.comp * z + c.args.costs.inst * c.loop-view.changes) a ∙ ap (λ z. c.args.costs.comp * sum_below f (length shape) + c.args.costs.inst * z) b
    ∙ ap (decided_bound_of shape sizes (prices_of c.args.costs)) c.of-decisions.ensures
