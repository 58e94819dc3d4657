use Rattle.std.proofs.Common.{◌∙◌, Err, ap, sym}
use Rattle.wh_row.proofs.BagLaws.{count-bag_of, count-difference_of, same_bag}
use Rattle.whview.proofs.Walks.{never_large}
use Rattle.whview.proofs.night.difference.difference.Goals as goal

pub returns-in-Ok : goal.returns-in-Ok
returns-in-Ok g c =
    let new = c.args.new.now in
    let old = c.args.old.now in
    c.in-Ok.ensures.ok ∙ same_bag _ _ (λ q. count-bag_of c.in_ok-changed.changed q ∙ c.in_ok-changed.ensures.counts q ∙ sym (count-difference_of new old q))

pub unreachable-requires : goal.unreachable-requires
unreachable-requires g c =
    let place = c.in-Err-Large.field-0-0 in
    never_large c.in_ok-changed.changed place c.in_ok-changed.ensures.fits (c.from_records.ensures.large place (c.in-Err-Large.is ∙ ap Err c.in-Err-Large.field-0-is))
