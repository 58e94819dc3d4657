use Rattle.test_workers.proofs.nights.workers.added.Goals as goal

pub run_wave-requires-clause-jobs : goal.run_wave-requires-clause-jobs
run_wave-requires-clause-jobs g c κs within = (c.can_run_wave.ensures.0 c.if-not-can_run_wave.false).0
