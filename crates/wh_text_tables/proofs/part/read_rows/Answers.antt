use Rattle.std.proofs.Common.{◌<◌, ◌^◌, ◌∷◌, ◌++◌, [], ap, arith, Bool, Ok}
use Rattle.csv.specs.Records.{fields_of}
use Rattle.wh_text_tables.proofs.PartReads.{IsTaken-next, IsTaken-start}
use Rattle.wh_text_tables.proofs.part.read_rows.Goals as goal

pub rows-init : goal.rows-init
rows-init g c =
    let reader = g.R.PartReader in (
      [],
      IsTaken-start (reader.scheme c.args.reader.now) c.args.kind c.args.width (reader.seen c.args.state.now) c.args.records.now c.requires.first,
      rw c.requires.first c.requires.ready,
    )

pub rows-preserved : goal.rows-preserved
rows-preserved g c =
    let reader = g.R.PartReader in
    let (before, is, ready) = c.rows.invariant in
    let row = fields_of c.read_row.new.cells in
    let gives = rw c.if-branch.true at c.in_ok-read_row.ensures.ok in
    let form = c.in_ok-read_row.ensures.formed (ap (λ (b : Bool). Ok b) c.if-branch.true) in
    let fits : c.read_row.new.self.given < 2 ^ 64 = omega (arith, c.number.ensures) in
    let takes = rw c.number.ensures at c.in_ok-take.ensures.ok in (
      before ++ row ∷ [],
      IsTaken-next (reader.scheme c.args.reader.now) (record { kind = c.args.kind; width = c.args.width; rows = c.args.records.now.left }) before (reader.seen c.args.state.now) (reader.seen c.rows.state) (reader.seen c.take.new.state) c.rows.records c.read_row.new.self row is gives.next gives.counted fits form takes,
      rw c.number.ensures at c.in_ok-take.ensures.ready,
    )
