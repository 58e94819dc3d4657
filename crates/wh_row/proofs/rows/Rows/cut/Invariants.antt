use Rattle.std.proofs.Common.{◌≡◌, ◌≤◌, ◌-◌, ◌++◌, length}
use Rattle.wh_row.proofs.rows.Rows.cut.Given as goal

abbrev pub invariant-loop-rest : goal.invariant-loop-rest
invariant-loop-rest l =
    record {
      few : length l.taken ≤ l.limit;
      parts : l.taken ++ l.rest ≡ l.fn.self;
    }

abbrev pub decreases-loop-rest : goal.decreases-loop-rest
decreases-loop-rest l = l.limit - length l.taken
