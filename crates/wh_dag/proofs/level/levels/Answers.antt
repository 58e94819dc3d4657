use Rattle.std.proofs.Common.{◌≡◌, ◌<◌, ◌≤◌, arith, ◌∙◌, length}
use Rattle.std.proofs.lemmas.Grind.{common_steps}
use Rattle.wh_dag.specs.Level.{level_of}
use Rattle.wh_dag.proofs.Levels.{All-from_has, level_next}
use Rattle.wh_dag.proofs.Lists.{each_push}
use Rattle.wh_dag.proofs.level.levels.Goals as goal

pub level_above-requires-clause-lower : goal.level_above-requires-clause-lower
level_above-requires-clause-lower c =
    rw (c.of.ensures.children, c.deref.ensures.value, c.loop-view.invariant.counted)
    (All-from_has (λ u. u < c.loop-view.view) _ (λ u m. c.of.ensures.shape.lower c.loop-view.view u m))

pub loop-view-preserved : goal.loop-view-preserved
loop-view-preserved c = record {
  counted = grind (arith, common_steps);
  each =
      rw c.in_ok-push.ensures.items
      (each_push (λ v level. level ≡ level_of c.args.shape.now v) _ _ c.loop-view.view c.loop-view.invariant.counted c.loop-view.invariant.each
      (c.level_above.ensures.level
      ∙ rw c.deref.ensures.value (level_next c.args.shape.now c.of.ensures.shape _ _ c.loop-view.view c.of.ensures.children c.loop-view.invariant.each)));
  small =
      rw c.in_ok-push.ensures.items
      (each_push (λ v level. level ≤ v) _ _ c.loop-view.view c.loop-view.invariant.counted c.loop-view.invariant.small
      (let low : c.level_above.result ≤ length c.deref.result.now = c.level_above.ensures.small in
      rw (c.deref.ensures.value, c.loop-view.invariant.counted) at low));
}
