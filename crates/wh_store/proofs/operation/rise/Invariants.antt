use Rattle.std.proofs.Common.{◌≡◌, drop, option_map}
use Rattle.std.specs.Prelude.{None}
use Rattle.wh_row.specs.Stored.{plain}
use Rattle.wh_store.specs.Pages.{rises_after}
use Rattle.wh_store.proofs.operation.rise.Given as goal

abbrev pub invariant-loop-row : goal.invariant-loop-row
invariant-loop-row l = rises_after (option_map (λ row. row.now) l.after) (plain (drop l.row-index l.rows)) ≡ rises_after None (plain l.rows)
