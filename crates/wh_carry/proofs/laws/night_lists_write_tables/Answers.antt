use Rattle.wh_carry.proofs.NightLists.{night_lists_write_tables}
use Rattle.wh_carry.proofs.laws.night_lists_write_tables.Goals as goal

pub returns : goal.returns
returns c = night_lists_write_tables
