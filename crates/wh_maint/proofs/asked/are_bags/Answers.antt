use Rattle.std.proofs.Common.{rules, subst, length, ℕ, ◌<◌}
use Rattle.std.proofs.lemmas.Bool.{both_ways, false≢true}
use Rattle.std.proofs.lemmas.List.{get_or_read}
use Rattle.wh_row.specs.Bag.{empty}
use Rattle.wh_maint.proofs.FitTests.{same_width}
use Rattle.wh_maint.proofs.asked.are_bags.Goals as goal

pub returns-then-not-has_width : goal.returns-then-not-has_width
returns-then-not-has_width g c = (
  λ t. absurd (false≢true t),
  λ h.
      let inside : c.loop-view.view < length c.args.bags.now = search rules in
      let read = get_or_read c.args.bags.now c.loop-view.view c.index-bags-view.result inside c.index-bags-view.is empty in
      let own = h.widths c.loop-view.view (subst (λ (n : ℕ). c.loop-view.view < n) h.each inside) in
      let width = same_width c.index-bags-view.result _ c.width.result _ read c.width.ensures.width own in
      absurd (both_ways c.has_width.result c.if-not-has_width.true (c.has_width.ensures.1 width)),
)
