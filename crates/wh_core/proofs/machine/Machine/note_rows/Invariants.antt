use Rattle.std.proofs.Common.{Bool, take, ◌||◌}
use Rattle.wh_row.specs.Row.{Row}
use Rattle.wh_row.specs.Stored.{plain}
use Rattle.wh_versions.specs.Tables.{is_given}
use Rattle.wh_core.specs.Inner.Changes.{AreNoted, change_shown}
use Rattle.wh_core.proofs.machine.Machine.note_rows.Given as goal

abbrev pub invariant-loop-row : goal.invariant-loop-row
invariant-loop-row l = (noted : Row → Bool) → AreNoted (change_shown l.self.store l.view) noted l.initial.change
    → AreNoted (change_shown l.self.store l.view) (λ r. noted r || is_given r (plain (take l.row-index l.rows))) l.change
