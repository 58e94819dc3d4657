use Rattle.wh_store.proofs.TableLaws.{tables_stay}
use Rattle.wh_store.proofs.laws.tables_stay_law.Goals as goal

pub returns : goal.returns
returns c = tables_stay
