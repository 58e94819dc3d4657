use Rattle.wh_maint.proofs.SizeBounds.{sizes_multiply}
use Rattle.wh_maint.proofs.laws.sizes_multiply.Goals as goal

pub returns : goal.returns
returns c = sizes_multiply
