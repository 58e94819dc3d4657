use Rattle.std.proofs.Common.{◌≤◌, ◌<◌, ◌+◌, length, get_or, ap, arith}
use Rattle.std.proofs.lemmas.Grind.{common_steps}
use Rattle.std.specs.List.{sum_by}
use Rattle.std.proofs.lemmas.List.{take_all, take_rest}
use Rattle.wh_strategy.specs.Sizes.{sizes_of}
use Rattle.wh_cert.specs.Bound.{decided_value}
use Rattle.wh_cert.proofs.PairSums.{pairs_none, pairs_step}
use Rattle.wh_cert.proofs.bound.least_rows.Goals as goal

pub loop-i-preserved : goal.loop-i-preserved
loop-i-preserved c =
    let f = decided_value (sizes_of c.args.sizes.now) c.args.decided.now in
    let lt : c.loop-i.i < length c.args.children.now = c.loop-i-test.true in
    record {
      changes = grind (arith, common_steps, c.changed_rows-changes.ensures.value);
      pairs = omega (arith, pairs_step f c.args.children.now c.loop-i.i 0 lt, c.values_with-values.ensures.value, ap (sum_by (f (get_or c.args.children.now c.loop-i.i 0))) (take_rest c.args.children.now (c.loop-i.i + 1)), c.loop-i.invariant.pairs);
      low = omega (arith, c.loop-i.invariant.low, c.changed_rows-changes.ensures.small);
      small = omega (arith, c.values_with-values.ensures.small, c.loop-i.invariant.small);
    }

pub returns-clause-value : goal.returns-clause-value
returns-clause-value c =
    let f = decided_value (sizes_of c.args.sizes.now) c.args.decided.now in
    let le : length c.args.children.now ≤ c.loop-i.i = c.loop-i-test.false in
    omega (arith, pairs_none f c.args.children.now c.loop-i.i le, ap (sum_by (λ u. (sizes_of c.args.sizes.now u).change)) (take_all c.loop-i.i c.args.children.now le), c.loop-i.invariant.pairs, c.loop-i.invariant.changes)
