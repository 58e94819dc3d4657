use Rattle.wh_desk.proofs.Keeps.{enters}
use Rattle.wh_desk.proofs.steps.enter.Goals as goal

pub enter_as-requires : goal.enter_as-requires
enter_as-requires c = enters _ _
