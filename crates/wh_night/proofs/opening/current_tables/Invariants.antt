use Rattle.std.proofs.Common.{◌≡◌, take}
use Rattle.wh_night.specs.Tonight.{newest_in}
use Rattle.wh_night.proofs.opening.current_tables.Given as goal

abbrev pub invariant-loop-view : goal.invariant-loop-view
invariant-loop-view g l = l.tables.items ≡ take l.view (newest_in (g.P.Publish.kept l.writer))
