use Rattle.wh_text_catalogue.proofs.WrittenJoins.{joins-read-back, read-joins-are-written}
use Rattle.wh_text_catalogue.proofs.definitions.written_law.joins_read_back_law.Goals as goal

pub returns-clause-back : goal.returns-clause-back
returns-clause-back c = joins-read-back

pub returns-clause-written : goal.returns-clause-written
returns-clause-written c = read-joins-are-written
