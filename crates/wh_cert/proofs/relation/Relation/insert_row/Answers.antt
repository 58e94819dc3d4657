use Rattle.wh_cert.specs.Relations.{related}
use Rattle.wh_cert.proofs.Tables.{row_none, row_more}
use Rattle.wh_cert.proofs.relation.Relation.insert_row.Goals as goal

pub loop-w-init : goal.loop-w-init
loop-w-init c a b = row_none c.args.u a b (related c.args.self.now a b)

pub loop-w-preserved : goal.loop-w-preserved
loop-w-preserved c =
    row_more c.loop-w.self c.insert.new.self c.args.self.now c.args.u c.args.row.now c.loop-w.w-index c.loop-w-test.true c.loop-w.invariant c.insert.ensures
