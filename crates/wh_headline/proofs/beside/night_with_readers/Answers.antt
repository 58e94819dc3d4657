use Rattle.wh_headline.specs.WithReaders.{given_by}
use Rattle.wh_headline.proofs.WithReaders.{in_one_run}
use Rattle.wh_headline.proofs.beside.night_with_readers.Goals as goal

pub returns-clause-one_run : goal.returns-clause-one_run
returns-clause-one_run g c =
    in_one_run c.args.asked.now.catalog.now (given_by c.args.asked.now.correct.now.list c.args.asked.now.changes.now) c.args.asked.now.page_keys c.args.writer.now c.night_beside.new.writer
    c.args.askers.items c.night_beside.result c.requires.least c.night_beside.ensures.night c.night_beside.ensures.answered c.night_beside.ensures.had
