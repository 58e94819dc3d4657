use Rattle.wh_maint.proofs.MetRows.{terms_give_values}
use Rattle.wh_maint.proofs.laws.terms_give_values.Goals as goal

pub returns : goal.returns
returns c = terms_give_values
