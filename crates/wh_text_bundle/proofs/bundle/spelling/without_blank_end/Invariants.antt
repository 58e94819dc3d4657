use Rattle.std.proofs.Common.{◌≡◌, ◌+◌, ◌≤◌, length, take}
use Rattle.std.specs.List.{suffix_len}
use Rattle.wh_text.specs.Line.{is_blank}
use Rattle.wh_text_bundle.proofs.bundle.spelling.without_blank_end.Given as goal

-- all from here on are blanks
abbrev pub invariant-loop-end : goal.invariant-loop-end
invariant-loop-end l = record {
  within : l.end ≤ length l.text;
  blanks : l.end + suffix_len is_blank l.text ≡ length l.text + suffix_len is_blank (take l.end l.text);
}

abbrev pub decreases-loop-end : goal.decreases-loop-end
decreases-loop-end l = l.end
