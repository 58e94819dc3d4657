use Rattle.std.proofs.Common.{arith}
use Rattle.wh_cert.proofs.Tables.{related_more}
use Rattle.wh_cert.proofs.relation.Relation.insert.Goals as goal

pub returns : goal.returns
returns c a b =
    rw (← c.self.view_is) (related_more c.self.inside.cells c.args.u c.args.w a b (omega arith) c.requires.u c.requires.w)
