use Rattle.std.proofs.Common.{rules, ◌<◌, length}
use Rattle.wh_text_tables.proofs.CutLaws.{first-line-ends}
use Rattle.wh_text_tables.proofs.cut.plain_end.Goals as goal

pub returns-in-None : goal.returns-in-None
returns-in-None c =
    let below : c.args.from < length c.args.text.now = search rules in
    first-line-ends c.args.text.now c.args.from c.in_ok-line.line below c.in_ok-line.ensures c.in-None.ensures
