use Rattle.wh_maint.specs.Inner.Opening.{IsRun}
use Rattle.wh_maint.proofs.run.end_of_run.Given as goal

abbrev pub invariant-loop-view : goal.invariant-loop-view
invariant-loop-view g l = IsRun l.catalog l.first l.view
