use Rattle.std.proofs.Common.{◌≡◌, ◌++◌, length}
use Rattle.wh_text_bundle.specs.Text.{body_text}
use Rattle.wh_text_bundle.proofs.bundle.text.written.Given as goal

-- the text so far, and that of the rest
abbrev pub invariant-loop-rest : goal.invariant-loop-rest
invariant-loop-rest l = l.text.items ++ body_text l.csv l.rest ≡ body_text l.csv l.body

abbrev pub decreases-loop-rest : goal.decreases-loop-rest
decreases-loop-rest l = length l.rest
