use Rattle.wh_carry.specs.Kept.{kept}
use Rattle.wh_night.proofs.Ready.{ready_else, ready_then}
use Rattle.wh_night.proofs.tested.+can_run_wave.Goals as goal

pub returns-then-is_ready : goal.returns-then-is_ready
returns-then-is_ready g t c =
    ready_then c.args.catalog.now (kept c.args.state.now) c.args.jobs.now c.job-item.result c.can_run_wave.result c.in-len1-up.len_at_least c.job-item.is (c.is_ready.ensures.0 c.if-is_ready.true) c.can_run_wave.ensures

pub returns-else-is_ready : goal.returns-else-is_ready
returns-else-is_ready g t c =
    ready_else c.args.catalog.now (kept c.args.state.now) c.args.jobs.now c.job-item.result c.is_ready.result c.in-len1-up.len_at_least c.job-item.is c.if-is_ready.false c.is_ready.ensures
