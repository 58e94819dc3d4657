use Rattle.std.proofs.Common.{◌≡◌, ap, sym, ◌∙◌, pos, [], ◌∷◌}
use Rattle.wh_row.specs.Row.{Row}
use Rattle.wh_row.specs.Bag.{count}
use Rattle.wh_maint.specs.Inner.Finishing.{made_row, row_after}
use Rattle.wh_maint.proofs.MadeRows.{made_group, fits_one}
use Rattle.wh_maint.proofs.group_change.add_new.Goals as goal

pub add_times-requires : goal.add_times-requires
add_times-requires c =
    let r : Row = c.in-Some.row.items in
    let made : (r, pos 1) ∷ [] ≡ row_after c.args.sums c.args.pending.now.columns c.args.old c.args.group.now = sym (ap made_row c.in-Some.is) ∙ c.in_ok-row.ensures.row in
    let none : count c.args.change.now r ≡ pos 0 = c.requires.none r (made_group c.args.sums c.args.pending.now.columns c.args.old c.args.group.now r made) in
    fits_one (count c.args.change.now c.as_slice.result.now) (ap (count c.args.change.now) c.as_slice.ensures.value ∙ none)
