use Rattle.wh_maint.proofs.MetRows.{new_rows_have_values}
use Rattle.wh_maint.proofs.laws.new_rows_have_values.Goals as goal

pub returns : goal.returns
returns c = new_rows_have_values
