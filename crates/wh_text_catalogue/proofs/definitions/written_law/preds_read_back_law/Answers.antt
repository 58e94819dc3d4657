use Rattle.wh_text_catalogue.proofs.WrittenPreds.{preds-read-back, read-preds-are-written}
use Rattle.wh_text_catalogue.proofs.definitions.written_law.preds_read_back_law.Goals as goal

pub returns-clause-back : goal.returns-clause-back
returns-clause-back c = preds-read-back

pub returns-clause-written : goal.returns-clause-written
returns-clause-written c = read-preds-are-written
