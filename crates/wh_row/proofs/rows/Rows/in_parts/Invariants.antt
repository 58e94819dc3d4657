use Rattle.std.proofs.Common.{◌≡◌, ◌++◌}
use Rattle.wh_row.specs.Records.{joined}
use Rattle.wh_row.proofs.rows.Rows.in_parts.Given as goal

abbrev pub invariant-loop-part : goal.invariant-loop-part
invariant-loop-part l = joined l.parts.items ++ l.rest ≡ l.fn.self
