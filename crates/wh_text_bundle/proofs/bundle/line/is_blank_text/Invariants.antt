use Rattle.std.proofs.Common.{◌≡◌, length}
use Rattle.wh_text_bundle.specs.PartLine.{is_blank_text}
use Rattle.wh_text_bundle.proofs.bundle.line.is_blank_text.Given as goal

-- what is left decides
abbrev pub invariant-loop-rest : goal.invariant-loop-rest
invariant-loop-rest l = is_blank_text l.rest ≡ is_blank_text l.text

abbrev pub decreases-loop-rest : goal.decreases-loop-rest
decreases-loop-rest l = length l.rest
