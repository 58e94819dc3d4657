use Rattle.std.proofs.Common.{◌≡◌, ◌+◌, drop}
use Rattle.std.specs.List.{position_or_len}
use Rattle.wh_text.specs.Line.{is_blank}
use Rattle.wh_text_bundle.proofs.bundle.spelling.word_len.Given as goal

-- no blank so far
abbrev pub invariant-loop-i : goal.invariant-loop-i
invariant-loop-i l = position_or_len is_blank l.text ≡ l.i + position_or_len is_blank (drop l.i l.text)
