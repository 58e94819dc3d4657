use Rattle.wh_text_catalogue.proofs.CatalogueFaults.{shapes-end}
use Rattle.wh_text_catalogue.proofs.laws.shapes_end_by_first_law.Goals as goal

pub returns : goal.returns
returns c = shapes-end
