use Rattle.wh_text_tables.specs.declared.table.header.Content.TheVariants.{Changes}
use Rattle.wh_text_tables.proofs.TablesRead.{answer-width}
use Rattle.wh_text_tables.proofs.table.read_changes.Goals as goal

pub returns-clause-width : goal.returns-clause-width
returns-clause-width g c = answer-width Changes c.args.columns.now c.args.dict.now c.args.text.now c.read_text.new.dict c.read_text.result c.read_text.ensures.ok
