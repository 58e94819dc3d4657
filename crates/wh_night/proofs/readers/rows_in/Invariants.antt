use Rattle.std.proofs.Common.{◌≡◌, ◌<◌, ℕ, take}
use Rattle.std.specs.Prelude.{slice_index_or, sum_by}
use Rattle.wh_desk.specs.declared.asks.Answer.{Answer}
use Rattle.wh_night.specs.Serving.{AreRows, rows_told}
use Rattle.wh_night.proofs.readers.rows_in.Given as goal

abbrev pub invariant-loop-answer : goal.invariant-loop-answer
invariant-loop-answer l = ((k : ℕ) (d : Answer) → k < l.answer-index → AreRows (slice_index_or l.answers k d)) × (l.rows ≡ sum_by rows_told (take l.answer-index l.answers))
