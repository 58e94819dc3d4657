-- A run from a legal log on leaves a legal log.
use Rattle.std.proofs.Common.{List, [], ◌∷◌}
use Rattle.wh_core.specs.Laws.{RunsLeaveLegalLogs}
use Rattle.wh_core.specs.Log.{logged}
use Rattle.wh_core.specs.Replies.{more}

pub leave_legal : RunsLeaveLegalLogs
unfolding Rattle.wh_core.specs.Replies.IsRunFrom
leave_legal s log [] [] legal run = legal
leave_legal s log (event ∷ events) (r ∷ replies) legal run = leave_legal s (logged log event r) events replies (more log event r legal run.0) run.1
leave_legal s log [] (r ∷ replies) legal run = absurd run
leave_legal s log (event ∷ events) [] legal run = absurd run
