use Rattle.wh_headline.proofs.OneRun.{run_goes_on}
use Rattle.wh_headline.proofs.runs.one_run_goes_on.Goals as goal

pub returns : goal.returns
returns c = run_goes_on
