use Rattle.std.proofs.lemmas.Result.{IfErr-weaker}
use Rattle.wh_workers.proofs.Lowest.{lowest_refused}
use Rattle.wh_workers.proofs.jobs.do_jobs.Goals as goal

pub returns-clause-refused : goal.returns-clause-refused
returns-clause-refused g c =
    IfErr-weaker c.all_or_lowest.result _ _ (lowest_refused g.F.Fn c.args.f.now c.args.count c.in-Ok.outcomes.items c.in-Ok.ensures) c.all_or_lowest.ensures.refused
