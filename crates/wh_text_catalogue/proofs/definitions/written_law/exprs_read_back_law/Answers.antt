use Rattle.wh_text_catalogue.proofs.WrittenExprs.{exprs-read-back, read-exprs-are-written}
use Rattle.wh_text_catalogue.proofs.definitions.written_law.exprs_read_back_law.Goals as goal

pub returns-clause-back : goal.returns-clause-back
returns-clause-back c = exprs-read-back

pub returns-clause-written : goal.returns-clause-written
returns-clause-written c = read-exprs-are-written
