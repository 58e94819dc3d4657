use Rattle.std.proofs.Common.{◌≡◌, ◌≤◌, ◌<◌, ◌++◌, get_or, length, take, ap, subst, ◌∙◌}
use Rattle.wh_row.specs.Weigh.{Counted}
use Rattle.wh_row.specs.Bag.{bag_of, sum_of}
use Rattle.wh_row.specs.Records.{joined}
use Rattle.wh_row.specs.Inner.Parts.{weight}
use Rattle.wh_row.proofs.PartLaws.{told, both_parts, joined-next, light-next}
use Rattle.wh_row.proofs.parts.parts_alone.Goals as goal

pub loop-records-preserved : goal.loop-records-preserved
loop-records-preserved c =
    let parts = c.args.parts.now in
    let i = c.loop-records.records-index in
    let below : i < length parts = c.loop-records-test.true in
    let item = c.records-item.result in
    let front = joined (take i parts) in
    let is : item ≡ get_or parts i item = c.records-item.is in
    record {
      bag = told c.absorb.result c.in_ok-ok.field-0 c.in_ok-ok.ensures.value c.absorb.ensures.ok
          ∙ (λ k. sum_of (c.loop-records.invariant.bag k) (c.in_ok-bag.ensures.bag k))
          ∙ both_parts front item
          ∙ ap (λ (es : Counted). bag_of (front ++ es)) is
          ∙ ap bag_of (joined-next parts i item below);
      light = light-next parts i item c.args.room below c.loop-records.invariant.light (subst (λ (es : Counted). weight es ≤ c.args.room) is c.in_ok-bag.ensures.light);
    }
