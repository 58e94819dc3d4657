use Rattle.wh_carry.proofs.NewValues.{passed_have_values}
use Rattle.wh_carry.proofs.laws.passed_expressions_have_values.Goals as goal

pub returns : goal.returns
returns c = passed_have_values
