use Rattle.wh_text_catalogue.proofs.WrittenBases.{bases-read-back, read-bases-are-written}
use Rattle.wh_text_catalogue.proofs.definitions.written_law.bases_read_back_law.Goals as goal

pub returns-clause-back : goal.returns-clause-back
returns-clause-back c = bases-read-back

pub returns-clause-written : goal.returns-clause-written
returns-clause-written c = read-bases-are-written
