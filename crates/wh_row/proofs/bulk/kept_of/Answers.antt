use Rattle.std.proofs.Common.{rules, ◌≡◌, ◌≢◌, ℤ, pos, Some, slice_get, arith, ap, ◌∙◌, to_z-of_z, FitsSigned}
use Rattle.std.specs.Prelude.{unsigned_abs}
use mir.Syntax.{w64}
use Rattle.wh_row.specs.Row.{Row}
use Rattle.wh_row.specs.Inner.Kept.{one_below}
use Rattle.wh_row.proofs.BulkLaws.{next_counts, next_sum}
use Rattle.wh_row.proofs.KeptLaws.{one_small}
use Rattle.wh_row.proofs.bulk.kept_of.Goals as goal

pub loop-place-preserved : goal.loop-place-preserved
loop-place-preserved c =
    let records = c.args.records.now in
    let place = c.loop-place.place in
    let e : Row × ℤ = (c.get-count.result.0.now, c.get-count.result.1) in
    let is : slice_get records place ≡ Some e = c.get-count.ensures in
    let fn : FitsSigned w64 e.1 = search rules in
    let some : e.1 ≢ pos 0 = search rules in
    let abs : c.unsigned_abs.result ≡ unsigned_abs e.1 = c.unsigned_abs.ensures.value ∙ ap unsigned_abs (to_z-of_z fn) in
    let below : c.one_if_below-below.result ≡ one_below e.1 = c.one_if_below-below.ensures ∙ ap one_below (to_z-of_z fn) in
    let small = one_small e.1 in
    record {
      counts = next_counts records place e is c.loop-place.invariant.counts some fn;
      total = omega (arith, c.in_ok-total.ensures, abs, c.loop-place.invariant.total, next_sum records place e is unsigned_abs);
      below = omega (arith, below, c.loop-place.invariant.below, next_sum records place e is one_below);
      few = omega (arith, below, small, c.loop-place.invariant.few);
    }
