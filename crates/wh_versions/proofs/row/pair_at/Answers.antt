use Rattle.std.proofs.Common.{◌-◌, sym, ◌∙◌, arith, get_or, pos, rules, FitsSigned}
use mir.Syntax.{w64}
use Rattle.wh_versions.proofs.PlaceLaws.{absent_place, is_below, is_least, no_pair, pair_before}
use Rattle.wh_versions.proofs.row.pair_at.Goals as goal

pub returns-then-counts-before-lt0 : goal.returns-then-counts-before-lt0
returns-then-counts-before-lt0 c =
    let fits : FitsSigned w64 (get_or c.args.counts.now c.loop-before.before (pos 0)) = search rules in
    let k = c.args.place - c.loop-before.before in
    let below = is_below _ fits c.if-counts-before-lt0.true in
    sym (no_pair _ k (absent_place c.args.numbers.now c.args.counts.now c.loop-before.before c.requires (omega arith) below)) ∙ c.loop-before.invariant.same

pub loop-before-preserved : goal.loop-before-preserved
loop-before-preserved c =
    let fits : FitsSigned w64 (get_or c.args.counts.now c.loop-before.before (pos 0)) = search rules in
    let least = is_least _ fits c.if-counts-before-lt0.false in
    record {
      passed = omega arith;
      same = pair_before c.args.numbers.now c.args.counts.now c.loop-before.before c.args.place c.requires (omega arith) (omega arith) least ∙ c.loop-before.invariant.same;
    }
