use Rattle.std.proofs.Common.{None, arith}
use Rattle.std.proofs.lemmas.Str.Pattern.{split_once_first}
use Rattle.wh_text_catalogue.proofs.FormulaForms.{is_reference-no_dot}
use Rattle.wh_text_catalogue.proofs.definitions.reference.is_reference.Goals as goal

pub returns-in-None : goal.returns-in-None
returns-in-None c = is_reference-no_dot c.args.text.now (split_once_first 46 c.args.text.now None c.in-None.ensures.cases (omega arith))
