use Rattle.wh_headline.proofs.Calls.{calls_are_events}
use Rattle.wh_headline.proofs.runs.calls_are_events.Goals as goal

pub returns : goal.returns
returns c = calls_are_events
