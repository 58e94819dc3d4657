use Rattle.wh_maint.proofs.SizeBounds.{terms_are_within}
use Rattle.wh_maint.proofs.laws.terms_are_within.Goals as goal

pub returns : goal.returns
returns c = terms_are_within
