use Rattle.std.proofs.Common.{rules}
use Rattle.wh_load.proofs.reading.rows.part_rows.Goals as goal

pub read_begun-requires : goal.read_begun-requires
read_begun-requires g c = (search rules, rw (c.deref-2.ensures.value, c.deref.ensures.value, c.in_ok-text.ensures.text) c.requires)
