use Rattle.std.proofs.Common.{◌-◌, arith}
use Rattle.wh_maint.specs.Comp.{bag_at}
use Rattle.wh_maint.proofs.OpenedContents.{run_over}
use Rattle.wh_maint.proofs.run.answers_from.Goals as goal

pub returns : goal.returns
returns g c = λ base o.
    let first = c.args.first in
    let end = c.end_of_run-end.result in
    let some = c.end_of_run-end.ensures.some in
    run_over c.args.catalog.now base (bag_at c.args.tables.now) first end o c.end_of_run-end.ensures.run (end - first) first (omega (arith, some)) c.in-Ok.answers.items c.in-Ok.ensures
