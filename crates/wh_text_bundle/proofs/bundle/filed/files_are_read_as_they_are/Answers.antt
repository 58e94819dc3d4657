use Rattle.wh_text_bundle.proofs.FileLines.{read_as_it_is}
use Rattle.wh_text_bundle.proofs.bundle.filed.files_are_read_as_they_are.Goals as goal

pub returns : goal.returns
returns c = read_as_it_is
