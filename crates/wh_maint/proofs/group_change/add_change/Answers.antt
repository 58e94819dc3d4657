use Rattle.wh_row.specs.Weigh.{negated}
use Rattle.wh_row.specs.Bag.{count}
use Rattle.wh_maint.specs.Inner.Finishing.{row_after, row_before}
use Rattle.wh_maint.proofs.MadeRows.{both_added}
use Rattle.wh_maint.proofs.OneRow.{on_ok}
use Rattle.wh_maint.proofs.group_change.add_change.Goals as goal

pub returns-clause-change : goal.returns-clause-change
returns-clause-change c = on_ok c.take_old.result (λ taken q.
    both_added (count c.take_old.new.change q) (count c.add_new.new.change q) (count c.args.change.now q)
    (row_after c.args.sums c.args.pending.now.columns c.args.old c.args.group.now) (negated (row_before c.args.old)) q
    (taken q) (c.in_ok-add_new.ensures.change q)) c.take_old.ensures.change
