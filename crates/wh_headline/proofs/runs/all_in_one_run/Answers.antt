use Rattle.wh_headline.proofs.OneRun.{one_run}
use Rattle.wh_headline.proofs.runs.all_in_one_run.Goals as goal

pub returns : goal.returns
returns c = one_run
