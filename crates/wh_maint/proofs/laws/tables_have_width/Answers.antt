use Rattle.wh_maint.proofs.Widths.{tables_have_width}
use Rattle.wh_maint.proofs.laws.tables_have_width.Goals as goal

pub returns : goal.returns
returns c = tables_have_width
