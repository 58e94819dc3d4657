use Rattle.wh_carry.proofs.NewValues.{new_contents_have_values}
use Rattle.wh_carry.proofs.laws.new_contents_have_values.Goals as goal

pub returns : goal.returns
returns c = new_contents_have_values
