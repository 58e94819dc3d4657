use Rattle.wh_text_catalogue.proofs.ViewFaults.{definitions-end}
use Rattle.wh_text_catalogue.proofs.laws.definitions_end_by_first_law.Goals as goal

pub returns : goal.returns
returns c = definitions-end
