use Rattle.wh_carry.proofs.NewValues.{new_rows_are_few}
use Rattle.wh_carry.proofs.laws.new_rows_are_few.Goals as goal

pub returns : goal.returns
returns c = new_rows_are_few
