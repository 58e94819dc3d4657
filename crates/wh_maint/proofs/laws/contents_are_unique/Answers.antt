use Rattle.wh_maint.proofs.FromScratch.{contents_are_unique}
use Rattle.wh_maint.proofs.laws.contents_are_unique.Goals as goal

pub returns : goal.returns
returns c = contents_are_unique
