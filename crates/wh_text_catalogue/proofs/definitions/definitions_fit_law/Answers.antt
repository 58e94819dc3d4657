use Rattle.wh_text_catalogue.proofs.DefinitionsFit.{are-definitions}
use Rattle.wh_text_catalogue.proofs.definitions.definitions_fit_law.Goals as goal

pub returns : goal.returns
returns c = are-definitions
