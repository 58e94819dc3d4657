use Rattle.std.proofs.Common.{length, ap, arith}
use Rattle.wh_row.proofs.FlatLaws.{length-records}
use Rattle.wh_row.proofs.records.Records.len.Goals as goal

pub returns : goal.returns
returns c =
    let s = c.self.inside in
    omega (arith, length-records s.width s.cells.items s.ends.items s.counts.items c.self.invariant, ap length c.self.view_is, s.counts.ok.0, c.len.ensures)
