use Rattle.std.proofs.Common.{◌+◌, sym, ap, ◌∙◌, arith}
use Rattle.wh_strategy.specs.Sums.{sum_below}
use Rattle.wh_strategy.proofs.SumsBelow.{sum_below_none, sum_below_more}
use Rattle.wh_cert.specs.Inner.Bound.{more_under}
use Rattle.wh_cert.proofs.bound.more_rows.Goals as goal

pub loop-view-init : goal.loop-view-init
loop-view-init c = record {
  value = sym (sum_below_none _);
  small = omega arith;
}

pub loop-view-preserved : goal.loop-view-preserved
loop-view-preserved c =
    let f = more_under c.args.children.now c.args.first c.args.second c.args.more in
    record {
      value = ap (λ z. z + c.more_at-rows.result) c.loop-view.invariant.value ∙ ap (λ z. sum_below f c.loop-view.view + z) c.more_at-rows.ensures.value ∙ sym (sum_below_more f c.loop-view.view);
      small = omega (arith, c.loop-view.invariant.small, c.more_at-rows.ensures.small, c.requires);
    }
