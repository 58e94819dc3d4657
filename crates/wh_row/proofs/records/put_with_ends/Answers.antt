use Rattle.std.proofs.Common.{arith}
use Rattle.wh_row.proofs.records.put_with_ends.Goals as goal

pub note_more_ends-requires : goal.note_more_ends-requires
note_more_ends-requires c = omega (arith, c.requires, c.len.ensures)
