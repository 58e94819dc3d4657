use Rattle.std.proofs.lemmas.Option.{IfSome_then}
use Rattle.wh_text_tables.specs.Records.{records_of}
use Rattle.wh_text_tables.proofs.table.wide.read_part_beside.Goals as goal

pub returns : goal.returns
returns g c =
    let layout = c.in_ok-layout.layout in
    IfSome_then c.read_pieces.result c.read_pieces.ensures (λ pieces are. record {
      below = record { kind = layout.counting; width = layout.width; rows = records_of c.in_ok-layout.below.now };
      tells = c.in_ok-layout.ensures;
      texts = c.in_ok-texts.texts.items;
      follow = c.in_ok-texts.ensures;
      each = rw c.deref.ensures.value at are;
    })
