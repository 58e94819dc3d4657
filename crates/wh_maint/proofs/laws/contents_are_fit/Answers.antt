use Rattle.wh_maint.proofs.FromScratch.{contents_are_fit}
use Rattle.wh_maint.proofs.laws.contents_are_fit.Goals as goal

pub returns : goal.returns
returns c = contents_are_fit
