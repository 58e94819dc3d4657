use Rattle.wh_carry.proofs.NewCounts.{new_counts_make_tables}
use Rattle.wh_carry.proofs.laws.new_counts_make_tables.Goals as goal

pub returns : goal.returns
returns c = new_counts_make_tables
