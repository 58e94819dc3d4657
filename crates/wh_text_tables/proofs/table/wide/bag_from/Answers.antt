use Rattle.wh_text_tables.specs.Records.{records_of}
use Rattle.wh_text_tables.specs.TableText.{text_gives}
use Rattle.wh_text_tables.proofs.PieceLaws.{part-read}
use Rattle.wh_text_tables.proofs.table.wide.bag_from.Goals as goal

pub returns-in-Some-clause-ok : goal.returns-in-Some-clause-ok
unfolding text_gives
returns-in-Some-clause-ok g c content text read =
    part-read content c.args.columns.now (records_of text) c.args.dict.now c.bag_of.new.dict c.args.pieces.items c.in-Some.bag read c.in-Some.ensures.texts c.in-Some.ensures.bag
