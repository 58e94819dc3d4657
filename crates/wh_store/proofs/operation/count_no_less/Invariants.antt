use Rattle.std.proofs.Common.{◌≡◌, drop}
use Rattle.wh_row.specs.Stored.{plain}
use Rattle.wh_store.specs.Pages.{count_no_less}
use Rattle.wh_store.proofs.operation.count_no_less.Given as goal

abbrev pub invariant-loop-count : goal.invariant-loop-count
invariant-loop-count l = count_no_less (plain (drop l.count-index l.rows)) ≡ count_no_less (plain l.rows)
