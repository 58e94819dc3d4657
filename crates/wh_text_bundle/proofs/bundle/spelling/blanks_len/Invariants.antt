use Rattle.std.proofs.Common.{◌≡◌, ◌+◌, drop}
use Rattle.std.specs.List.{prefix_len}
use Rattle.wh_text.specs.Line.{is_blank}
use Rattle.wh_text_bundle.proofs.bundle.spelling.blanks_len.Given as goal

-- all so far are blanks
abbrev pub invariant-loop-i : goal.invariant-loop-i
invariant-loop-i l = prefix_len is_blank l.text ≡ l.i + prefix_len is_blank (drop l.i l.text)
