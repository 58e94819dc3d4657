use Rattle.std.proofs.Common.{drop}
use Rattle.wh_row.specs.Stored.{plain}
use Rattle.wh_versions.proofs.TouchLaws.{IsAdding}
use Rattle.wh_versions.proofs.writing.add_rows.Given as goal

abbrev pub invariant-loop-row : goal.invariant-loop-row
invariant-loop-row g l = IsAdding (plain l.given) (plain (drop l.row-index l.given)) l.fn.rows l.rows l.fn.touched l.touched
