use Rattle.wh_text_tables.proofs.TableFaults.{tables-end}
use Rattle.wh_text_tables.proofs.laws.tables_end_by_first_law.Goals as goal

pub returns : goal.returns
returns c = tables-end
