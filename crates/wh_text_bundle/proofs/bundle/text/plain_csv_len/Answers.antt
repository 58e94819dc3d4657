use Rattle.wh_text_bundle.proofs.TextLemmas.{body_text-plain}
use Rattle.wh_text_bundle.proofs.bundle.text.plain_csv_len.Goals as goal

pub returns-then-csv-clause-text : goal.returns-then-csv-clause-text
returns-then-csv-clause-text c =
    rw c.if-csv.true (body_text-plain c.args.body.now c.plain_len.result c.plain_len.ensures.lines c.plain_len.ensures.plain)
