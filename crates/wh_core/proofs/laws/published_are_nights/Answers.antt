use Rattle.wh_core.proofs.Nights.{are_nights}
use Rattle.wh_core.proofs.laws.published_are_nights.Goals as goal

pub returns : goal.returns
returns c = are_nights c.passed_expressions_have_values.ensures
