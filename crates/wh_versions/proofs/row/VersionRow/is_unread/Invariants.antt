use Rattle.std.proofs.Common.{◌≡◌, ◌-◌, true}
use Rattle.wh_versions.specs.Rows.{is_unread}
use Rattle.wh_versions.proofs.row.VersionRow.is_unread.Given as goal

abbrev pub invariant-loop-back : goal.invariant-loop-back
invariant-loop-back g l = is_unread (l.back - 1) l.night l.self ≡ true
