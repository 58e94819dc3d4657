use Rattle.std.proofs.Common.{◌≡◌, drop, false}
use Rattle.wh_live.specs.Requests.{behind_words}
use Rattle.wh_live.proofs.request.behind_words.Given as goal

abbrev pub invariant-loop-place : goal.invariant-loop-place
invariant-loop-place l = behind_words l.words false l.line ≡ behind_words l.left l.begun (drop l.place l.line)
