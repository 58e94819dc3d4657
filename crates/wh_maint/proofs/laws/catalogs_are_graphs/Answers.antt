use Rattle.wh_maint.proofs.FromScratch.{catalogs_are_graphs}
use Rattle.wh_maint.proofs.laws.catalogs_are_graphs.Goals as goal

pub returns : goal.returns
returns c = catalogs_are_graphs
