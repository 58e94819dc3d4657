use Rattle.std.proofs.Common.{◌<◌, ◌≤◌, length, refl, arith}
use Rattle.wh_dag.specs.Level.{level_of}
use Rattle.wh_dag.proofs.Marked.{children_below, has_within, level_small}
use Rattle.wh_dag.proofs.kinds.is_uniform.Goals as goal

pub is_one_above-requires-clause-views : goal.is_one_above-requires-clause-views
is_one_above-requires-clause-views c =
    let low : c.loop-view.view < length c.args.shape.now = omega arith in
    children_below c.args.shape.now c.loop-view.view _ c.of.result.now c.of.ensures.shape (omega (arith, c.requires.len)) c.of.ensures.children

pub is_one_above-requires-clause-small : goal.is_one_above-requires-clause-small
is_one_above-requires-clause-small c v l =
    let few = c.of.ensures.shape.few_views in
    let there : v < length c.args.shape.now = omega (arith, c.requires.len) in
    let small : level_of c.args.shape.now v ≤ 64 = level_small c.args.shape.now v 64 (omega arith) in
    omega (arith, c.requires.levels v there)

pub returns : goal.returns
returns c = (λ _ v u m. c.loop-view.invariant v u (omega (arith, has_within c.args.shape.now v u m)) m, λ _. refl)
