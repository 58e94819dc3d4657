use Rattle.std.proofs.Common.{◌≡◌, ◌-◌, ◌≤◌, ◌++◌, length, take, drop}
use Rattle.wh_text_bundle.specs.Text.{body_text}
use Rattle.wh_text_bundle.proofs.bundle.text.kept_len.Given as goal

-- the lines so far stand for themselves
abbrev pub invariant-loop-at : goal.invariant-loop-at
invariant-loop-at l = record {
  within : l.at ≤ length l.body;
  kept : body_text l.csv l.body ≡ take l.at l.body ++ body_text l.csv (drop l.at l.body);
}

abbrev pub decreases-loop-at : goal.decreases-loop-at
decreases-loop-at l = length l.body - l.at
