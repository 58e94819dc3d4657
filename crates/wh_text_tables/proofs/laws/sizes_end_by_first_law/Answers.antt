use Rattle.wh_text_tables.proofs.SizesFaults.{sizes-end}
use Rattle.wh_text_tables.proofs.laws.sizes_end_by_first_law.Goals as goal

pub returns : goal.returns
returns c = sizes-end
