use Rattle.std.proofs.Common.{◌≡◌, ◌++◌, length, take, drop}
use Rattle.wh_text_bundle.specs.Files.{all_escaped}
use Rattle.wh_text_bundle.proofs.bundle.filed.rewrite.Given as goal

-- the lines so far, and those of the rest
abbrev pub invariant-loop-rest : goal.invariant-loop-rest
invariant-loop-rest l = l.bytes.items ++ all_escaped l.rest ≡ take l.start l.fn.bytes.items ++ all_escaped (drop l.start l.fn.bytes.items)

abbrev pub decreases-loop-rest : goal.decreases-loop-rest
decreases-loop-rest l = length l.rest
