use Rattle.toml.specs.View.{view}
use Rattle.wh_text_catalogue.proofs.Document.{array_of-seen}
use Rattle.wh_text_catalogue.proofs.catalogue.array_of.Goals as goal

pub returns : goal.returns
returns c = array_of-seen c.as_array.result (view c.args.value.now) c.as_array.ensures
