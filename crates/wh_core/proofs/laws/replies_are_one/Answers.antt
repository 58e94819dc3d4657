use Rattle.wh_core.proofs.Ones.{replies_are_one}
use Rattle.wh_core.proofs.laws.replies_are_one.Goals as goal

pub returns : goal.returns
returns c = replies_are_one
