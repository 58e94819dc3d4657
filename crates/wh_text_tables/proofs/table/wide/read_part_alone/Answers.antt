use Rattle.std.proofs.Common.{[], ◌∷◌, sym}
use Rattle.std.proofs.lemmas.List.{append-nil}
use Rattle.wh_text_tables.specs.Records.{records_of}
use Rattle.wh_text_tables.proofs.table.wide.read_part_alone.Goals as goal

pub returns : goal.returns
returns c =
    let layout = c.in_ok-layout.layout in
    let below = c.in_ok-layout.below in
    record {
      below = record { kind = layout.counting; width = layout.width; rows = records_of below.now };
      tells = c.in_ok-layout.ensures;
      texts = below ∷ [];
      follow = sym (append-nil (records_of below.now));
      each = rw (c.in-Ok.ensures.items, c.new-pieces.ensures.items) (c.in_ok-rows.ensures, tt);
    }
