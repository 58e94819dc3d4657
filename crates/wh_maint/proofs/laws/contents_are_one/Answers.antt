use Rattle.wh_maint.proofs.FromScratch.{contents_are_one}
use Rattle.wh_maint.proofs.laws.contents_are_one.Goals as goal

pub returns : goal.returns
returns c = contents_are_one
