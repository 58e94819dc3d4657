use Rattle.std.proofs.Common.{rules, ◌≡◌, ℤ, Some, slice_get, arith, ap, ◌∙◌, to_z-of_z, FitsSigned}
use Rattle.std.specs.Prelude.{unsigned_abs}
use mir.Syntax.{w64}
use Rattle.wh_row.specs.Row.{Row}
use Rattle.wh_row.proofs.PartLaws.{weight-next}
use Rattle.wh_row.proofs.records.Records.room_left.Goals as goal

pub loop-place-preserved : goal.loop-place-preserved
loop-place-preserved c =
    let records = c.args.self.now in
    let place = c.loop-place.place in
    let e : Row × ℤ = (c.get-count.result.0.now, c.get-count.result.1) in
    let is : slice_get records place ≡ Some e = c.get-count.ensures in
    let fn : FitsSigned w64 c.get-count.result.1 = search rules in
    let taken : c.unsigned_abs.result ≡ unsigned_abs e.1 = c.unsigned_abs.ensures.value ∙ ap unsigned_abs (to_z-of_z fn) in
    omega (arith, c.in_ok-left.ensures, taken, weight-next records place e is, c.loop-place.invariant)
