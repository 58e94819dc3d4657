use Rattle.std.proofs.Common.{rules, ◌≡◌, ℤ, Some, slice_get, sym, ◌∙◌}
use Rattle.std.specs.declared.cmp.Ordering.TheVariants.{Less}
use Rattle.wh_row.specs.Row.{Row, row_cmp}
use Rattle.wh_row.proofs.BulkLaws.{none_rise, first_rises, first_highest, next_rises, next_highest}
use Rattle.wh_row.proofs.records.Records.rises.Goals as goal

pub returns-then-is_empty : goal.returns-then-is_empty
returns-then-is_empty c = λ _. none_rise c.args.self.now (search rules)

pub loop-place-init : goal.loop-place-init
loop-place-init c =
    let records = c.args.self.now in
    let e : Row × ℤ = (c.get.result.0.now, c.get.result.1) in
    record {
      rising = first_rises records e c.get.ensures;
      highest = first_highest records e c.get.ensures;
    }

pub loop-place-preserved : goal.loop-place-preserved
loop-place-preserved c =
    let records = c.args.self.now in
    let place = c.loop-place.place in
    let last = c.loop-place.last.now in
    let e : Row × ℤ = (c.get-in-loop-place.result.0.now, c.get-in-loop-place.result.1) in
    let is : slice_get records place ≡ Some e = c.get-in-loop-place.ensures in
    let below : row_cmp last e.0 ≡ Less = sym c.cmp.ensures ∙ c.in-Less.is in
    record {
      rising = next_rises records place e is last below c.loop-place.invariant.highest c.loop-place.invariant.rising;
      highest = next_highest records place e is last below c.loop-place.invariant.highest;
    }
