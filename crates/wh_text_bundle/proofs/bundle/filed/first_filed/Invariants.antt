use Rattle.std.proofs.Common.{◌≤◌, ◌-◌, length}
use Rattle.wh_text_bundle.proofs.FiledParts.{IsPassedTo}
use Rattle.wh_text_bundle.proofs.bundle.filed.first_filed.Given as goal

-- no part so far is filed
abbrev pub invariant-loop-at : goal.invariant-loop-at
invariant-loop-at l = record {
  within : l.at ≤ length l.text;
  passed : IsPassedTo l.text l.at;
}

abbrev pub decreases-loop-at : goal.decreases-loop-at
decreases-loop-at l = length l.text - l.at
