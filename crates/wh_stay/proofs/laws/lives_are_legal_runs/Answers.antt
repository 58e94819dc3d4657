use Rattle.wh_stay.proofs.Lives.{lives_are_legal}
use Rattle.wh_stay.proofs.laws.lives_are_legal_runs.Goals as goal

pub returns : goal.returns
returns c = lives_are_legal c.nights_come_later.ensures
