use Rattle.wh_text_catalogue.proofs.WrittenFilters.{filters-read-back, read-filters-are-written}
use Rattle.wh_text_catalogue.proofs.definitions.written_law.filters_read_back_law.Goals as goal

pub returns-clause-back : goal.returns-clause-back
returns-clause-back c = filters-read-back

pub returns-clause-written : goal.returns-clause-written
returns-clause-written c = read-filters-are-written
