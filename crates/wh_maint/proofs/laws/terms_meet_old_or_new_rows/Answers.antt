use Rattle.wh_maint.proofs.MetRows.{terms_meet_old_or_new_rows}
use Rattle.wh_maint.proofs.laws.terms_meet_old_or_new_rows.Goals as goal

pub returns : goal.returns
returns c = terms_meet_old_or_new_rows
