use Rattle.wh_row.specs.Lent.{lent}
use Rattle.wh_row.proofs.WrittenLaws.{tells_empty}
use Rattle.wh_row.proofs.sums.Sums.is_empty.Goals as goal

pub returns : goal.returns
returns c = tells_empty c.args.self.now lent c.next.result _ c.rows.result c.is_none.result c.rows.ensures c.is_none.ensures c.next.ensures.steps
