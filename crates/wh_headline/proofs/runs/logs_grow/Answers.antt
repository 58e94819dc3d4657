use Rattle.wh_headline.proofs.Growing.{logs_grow}
use Rattle.wh_headline.proofs.runs.logs_grow.Goals as goal

pub returns : goal.returns
returns c = logs_grow
