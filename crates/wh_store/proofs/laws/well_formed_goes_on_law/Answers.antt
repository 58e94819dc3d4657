use Rattle.wh_store.proofs.FormLaws.{well_formed_goes_on}
use Rattle.wh_store.proofs.laws.well_formed_goes_on_law.Goals as goal

pub returns : goal.returns
returns c = well_formed_goes_on
