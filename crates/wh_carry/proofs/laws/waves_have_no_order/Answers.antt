use Rattle.wh_carry.proofs.Amid.{waves_have_no_order}
use Rattle.wh_carry.proofs.laws.waves_have_no_order.Goals as goal

pub returns : goal.returns
returns c = waves_have_no_order
