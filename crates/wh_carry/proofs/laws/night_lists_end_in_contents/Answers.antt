use Rattle.wh_carry.proofs.NightLists.{night_lists_end_in_contents}
use Rattle.wh_carry.proofs.laws.night_lists_end_in_contents.Goals as goal

pub returns : goal.returns
returns c = night_lists_end_in_contents
