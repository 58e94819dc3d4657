use Rattle.wh_carry.proofs.StageLaws.{lists_have_one_stages}
use Rattle.wh_carry.proofs.laws.lists_have_one_stages.Goals as goal

pub returns : goal.returns
returns c = lists_have_one_stages
