use Rattle.wh_store.proofs.PageLaws.{pages_join}
use Rattle.wh_store.proofs.laws.pages_join_law.Goals as goal

pub returns : goal.returns
returns c = pages_join
