use Rattle.wh_text_tables.proofs.table.wide.read_beside.Goals as goal

pub returns-clause-ok : goal.returns-clause-ok
returns-clause-ok g c = c.bag_from.ensures.ok c.args.reader.now.content c.args.text.now c.in_ok-pieces.ensures
