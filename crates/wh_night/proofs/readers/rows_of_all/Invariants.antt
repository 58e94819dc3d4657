use Rattle.std.proofs.Common.{◌≡◌, ◌<◌, ℕ, Option, replicate, take}
use Rattle.std.specs.Prelude.{IfSome, map, slice_index_or}
use Rattle.std.specs.List.{All}
use Rattle.wh_desk.specs.declared.askers.Answered.{Answered}
use Rattle.wh_night.specs.Serving.{HasRead, rows_given}
use Rattle.wh_night.specs.Inner.Serving.{GivesRows}
use Rattle.wh_night.proofs.readers.rows_of_all.Given as goal

abbrev pub invariant-loop-one : goal.invariant-loop-one
invariant-loop-one l =
    ((n : ℕ) → All (λ one. IfSome one (GivesRows n)) l.answered → l.all.items ≡ replicate l.one-index n)
    × ((k : ℕ) (d : Option Answered) → k < l.one-index → HasRead (slice_index_or l.answered k d))
    × (l.all.items ≡ map rows_given (take l.one-index l.answered))
