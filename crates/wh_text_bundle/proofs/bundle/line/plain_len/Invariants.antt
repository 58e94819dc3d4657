use Rattle.std.proofs.Common.{◌≡◌, ◌≤◌, ◌-◌, true, take, length}
use Rattle.wh_text_bundle.proofs.PlainLines.{unmarked}
use Rattle.wh_text_bundle.proofs.bundle.line.plain_len.Given as goal

-- no line up to here begins with an `@`
abbrev pub invariant-loop-gap : goal.invariant-loop-gap
invariant-loop-gap l = record {
  within : l.at ≤ length l.text;
  plain : unmarked true (take l.at l.text) ≡ true;
}

abbrev pub decreases-loop-gap : goal.decreases-loop-gap
decreases-loop-gap l = length l.text - l.at
