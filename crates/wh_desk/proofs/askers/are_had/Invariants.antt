use Rattle.std.proofs.Common.{◌<◌, ℕ, Option, IfSome, slice_index_or}
use Rattle.wh_desk.specs.declared.askers.Answered.{Answered}
use Rattle.wh_desk.specs.Askers.{IsHad}
use Rattle.wh_desk.proofs.askers.are_had.Given as goal

abbrev pub invariant-loop-one : goal.invariant-loop-one
invariant-loop-one l = (k : ℕ) (d : Option Answered) → k < l.one-index → IfSome (slice_index_or l.answered k d) (λ a. IsHad l.writer a.reader.desk)
