use Rattle.std.proofs.Common.{◌+◌, sym, ap, ◌∙◌, subst, take, arith}
use Rattle.wh_dag.specs.Shape.{IsShape}
use Rattle.wh_strategy.specs.Rules.{IsCorrect}
use Rattle.wh_strategy.specs.Earlier.{TellsInstalled}
use Rattle.wh_strategy.specs.Prices.{prices_of}
use Rattle.wh_strategy.specs.Sizes.{sizes_of}
use Rattle.wh_strategy.specs.Sums.{sum_below}
use Rattle.wh_strategy.specs.Work.{cost_at}
use Rattle.wh_strategy.proofs.FewExpressions.{few_expressions}
use Rattle.wh_strategy.proofs.Marks.{take_next}
use Rattle.wh_strategy.proofs.SumsBelow.{sum_below_more}
use Rattle.wh_strategy.proofs.terms.work.Goals as goal

pub loop-place-preserved : goal.loop-place-preserved
loop-place-preserved c = record {
  sum = ap (λ n. n + c.place_cost-total.result) c.loop-place.invariant.sum
      ∙ ap (λ n. sum_below (cost_at c.child_lists-children.result.now (sizes_of c.args.sizes.now) (prices_of c.args.costs) c.as_slice-list.result.now) c.loop-place.place + n) c.place_cost-total.ensures.value
      ∙ sym (sum_below_more _ c.loop-place.place);
  small = omega (arith, c.loop-place.invariant.small, c.place_cost-total.ensures.small);
  told = subst (λ before. TellsInstalled c.note.new.self.flags before) (take_next c.as_slice-list.result.now c.loop-place.place c.index-list-place.result c.loop-place-test.true c.index-list-place.is)
      (c.note.ensures (take c.loop-place.place c.as_slice-list.result.now) c.loop-place.invariant.told);
}

pub overflow_add-total : goal.overflow_add-total
overflow_add-total c =
    let shape = subst IsShape (sym c.requires.same) c.child_lists-children.ensures.shape in
    let rules = subst (IsCorrect c.args.correct.now.children) (sym (c.as_slice-list.ensures ∙ c.strategy.ensures.list)) c.strategy.ensures.rules in
    let few = few_expressions c.args.correct.now.children c.as_slice-list.result.now shape rules in
    omega (arith, few, c.loop-place.invariant.small, c.place_cost-total.ensures.small, c.loop-place-test.true)
