use Rattle.std.proofs.Common.{◌≡◌, ◌+◌, length}
use Rattle.std.specs.List.{All}
use Rattle.wh_desk.specs.Known.{Known}
use Rattle.wh_night.specs.Serving.{IsAt, IsSeated}
use Rattle.wh_night.proofs.readers.seat_readers.Given as goal

abbrev pub invariant-loop-number : goal.invariant-loop-number
invariant-loop-number l =
    (length l.askers.items ≡ l.number)
    × (l.number + length l.desks.items ≡ length l.fn.desks.items)
    × ((told : Known) → All (IsAt told) l.fn.desks.items → All (IsAt told) l.desks.items × All (IsSeated told l.views) l.askers.items)
