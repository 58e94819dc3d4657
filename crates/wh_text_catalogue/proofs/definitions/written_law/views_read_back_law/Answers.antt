use Rattle.wh_text_catalogue.proofs.WrittenViews.{views-read-back, read-views-are-written}
use Rattle.wh_text_catalogue.proofs.definitions.written_law.views_read_back_law.Goals as goal

pub returns-clause-back : goal.returns-clause-back
returns-clause-back c = views-read-back

pub returns-clause-written : goal.returns-clause-written
returns-clause-written c = read-views-are-written
