use Rattle.std.proofs.Common.{◌≡◌, ◌≤◌, ◌-◌, take, drop, length}
use Rattle.wh_text_bundle.specs.Cut.{cut, preceded}
use Rattle.wh_text_bundle.proofs.bundle.cut.preface_len.Given as goal

-- the bytes so far stand above the first part
abbrev pub invariant-loop-at : goal.invariant-loop-at
invariant-loop-at l = record {
  within : l.at ≤ length l.text;
  cut : cut l.text ≡ preceded (take l.at l.text) (cut (drop l.at l.text));
}

abbrev pub decreases-loop-at : goal.decreases-loop-at
decreases-loop-at l = length l.text - l.at
