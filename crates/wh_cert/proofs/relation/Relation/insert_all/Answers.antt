use Rattle.wh_cert.proofs.Tables.{square_none, square_more}
use Rattle.wh_cert.proofs.relation.Relation.insert_all.Goals as goal

pub loop-u-init : goal.loop-u-init
loop-u-init c a b = square_none c.args.self.now c.args.row.now a b

pub loop-u-preserved : goal.loop-u-preserved
loop-u-preserved c =
    square_more c.loop-u.self c.insert_row.new.self c.args.self.now c.args.row.now c.loop-u.u-index c.loop-u-test.true c.loop-u.invariant c.insert_row.ensures
