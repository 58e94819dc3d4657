use Rattle.wh_core.proofs.Runs.{leave_legal}
use Rattle.wh_core.proofs.laws.runs_leave_legal_logs.Goals as goal

pub returns : goal.returns
returns c = leave_legal
