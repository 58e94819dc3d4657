use Rattle.std.proofs.Common.{◌∙◌}
use Rattle.wh_text.proofs.WholeNumbers.{whole_number-fits, whole_number-parse}
use Rattle.wh_text_tables.proofs.records.whole_number.Goals as goal

pub returns-clause-value : goal.returns-clause-value
returns-clause-value c = c.ok.ensures.value ∙ whole_number-parse c.args.text.now c.parse.result c.parse.ensures.value.0

pub returns-clause-fits : goal.returns-clause-fits
returns-clause-fits c = whole_number-fits c.args.text.now c.ok.result (c.ok.ensures.value ∙ whole_number-parse c.args.text.now c.parse.result c.parse.ensures.value.0)
