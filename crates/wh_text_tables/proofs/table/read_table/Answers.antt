use Rattle.wh_text_tables.specs.declared.table.header.Content.TheVariants.{Table}
use Rattle.wh_text_tables.proofs.TablesRead.{answer-table, answer-width}
use Rattle.wh_text_tables.proofs.table.read_table.Goals as goal

pub returns-clause-table : goal.returns-clause-table
returns-clause-table g c = answer-table c.args.columns.now c.args.dict.now c.args.text.now c.read_text.new.dict c.read_text.result c.read_text.ensures.ok

pub returns-clause-width : goal.returns-clause-width
returns-clause-width g c = answer-width Table c.args.columns.now c.args.dict.now c.args.text.now c.read_text.new.dict c.read_text.result c.read_text.ensures.ok
