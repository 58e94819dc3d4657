use Rattle.wh_text.proofs.DictGrowth.{grows-text}
use Rattle.wh_text_catalogue.proofs.definitions.formula_kinds.literal.Goals as goal

pub returns-clause-grows : goal.returns-clause-grows
returns-clause-grows c = rw c.in_ok-number.ensures.texts (grows-text c.args.texts.now c.args.text.now)
