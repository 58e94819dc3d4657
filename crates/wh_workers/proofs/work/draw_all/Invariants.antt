use Rattle.std.proofs.Common.{◌≡◌, ◌<◌, ◌≤◌, length}
use Rattle.wh_workers.specs.Claims.{hand, Knows}
use Rattle.wh_workers.specs.Works.{numbers, AreGiven}
use Rattle.wh_workers.proofs.work.draw_all.Given as goal

-- each turn drew a number and did its job
abbrev pub invariant-loop : goal.invariant-loop
invariant-loop g l =
    Knows l.word.table_id l.word.key l.seat
    × (l.word.key ≡ l.count)
    × (0 < l.fn.seat.me.0.parts)
    × (l.seat.me.0 ≡ hand l.count l.fn.seat.me.0.parts l.fn.seat.me.0.parts (numbers l.brought.items))
    × (length l.brought.items ≡ l.counter)
    × (l.counter ≤ l.count)
    × AreGiven g.F.Fn l.f l.count l.brought.items
