use Rattle.wh_text_catalogue.proofs.WrittenOutputs.{outputs-read-back, read-outputs-are-written}
use Rattle.wh_text_catalogue.proofs.definitions.written_law.outputs_read_back_law.Goals as goal

pub returns-clause-back : goal.returns-clause-back
returns-clause-back c = outputs-read-back

pub returns-clause-written : goal.returns-clause-written
returns-clause-written c = read-outputs-are-written
