use Rattle.wh_maint.proofs.Widths.{changes_have_width}
use Rattle.wh_maint.proofs.laws.changes_have_width.Goals as goal

pub returns : goal.returns
returns c = changes_have_width
