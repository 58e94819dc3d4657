use Rattle.wh_store.proofs.WriteLaws.{counts_are_given}
use Rattle.wh_store.proofs.laws.counts_given_law.Goals as goal

pub returns : goal.returns
returns c = counts_are_given
