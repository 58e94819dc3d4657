use Rattle.wh_maint.proofs.OpenedContents.{one_run}
use Rattle.wh_maint.proofs.run.end_of_run.Goals as goal

pub loop-view-init : goal.loop-view-init
loop-view-init g c = one_run c.args.catalog.now c.shape-shape.ensures.catalog c.args.first c.requires.view
