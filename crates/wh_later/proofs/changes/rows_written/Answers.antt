use Rattle.wh_later.proofs.TextsGrow.{answer-begins}
use Rattle.wh_later.proofs.changes.rows_written.Goals as goal

pub returns-in_ok-text-in-Some-clause-begins : goal.returns-in_ok-text-in-Some-clause-begins
returns-in_ok-text-in-Some-clause-begins g c = answer-begins _ _ _ _ _ _ c.read_changes.ensures.ok c.read_changes.ensures.kept
