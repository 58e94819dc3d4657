use Rattle.wh_maint.proofs.Widths.{columns_have_width}
use Rattle.wh_maint.proofs.laws.columns_have_width.Goals as goal

pub returns : goal.returns
returns c = columns_have_width
