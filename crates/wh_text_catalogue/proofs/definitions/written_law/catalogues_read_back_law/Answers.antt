use Rattle.wh_text_catalogue.proofs.WrittenCatalogues.{catalogues-read-back, read-catalogues-are-written}
use Rattle.wh_text_catalogue.proofs.definitions.written_law.catalogues_read_back_law.Goals as goal

pub returns-clause-back : goal.returns-clause-back
returns-clause-back c = catalogues-read-back

pub returns-clause-written : goal.returns-clause-written
returns-clause-written c = read-catalogues-are-written
