use Rattle.std.proofs.Common.{◌≡◌, ap, inr}
use Rattle.csv.specs.Records.{fields_of}
use Rattle.wh_text_tables.specs.Records.{records_of}
use Rattle.std.specs.Prelude.{length}
use Rattle.wh_text_tables.specs.Unread.{Unread}
use Rattle.wh_text_tables.proofs.PartReads.{read-err}
use Rattle.wh_text_tables.proofs.part.read_part.Goals as goal

pub returns-clause-read : goal.returns-clause-read
returns-clause-read g c =
    let all : c.new-records.result.left ≡ records_of c.args.text.now = ap (λ (u : Unread). u.left) c.new-records.ensures in
    inr (record {
      below = record { kind = c.in_ok-kind.kind; width = length (fields_of c.read_kind.new.cells); rows = c.read_kind.new.records.left };
      tells = rw all at c.in_ok-kind.ensures.ok;
      taken = rw c.len-width.ensures at c.read_rows.ensures.taken;
    })

pub returns-clause-err : goal.returns-clause-err
returns-clause-err g c =
    read-err (g.R.PartReader.scheme c.args.reader.now) (records_of c.args.text.now) (g.R.PartReader.seen c.args.state.now) (g.R.PartReader.seen c.read_rows.new.state) c.read_rows.result (returns-clause-read g c)
