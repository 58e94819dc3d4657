use Rattle.std.proofs.Common.{◌≡◌, drop, length, None}
use Rattle.std.specs.List.{All}
use Rattle.left_right.specs.Sides.{view}
use Rattle.wh_desk.specs.Desks.{sitting}
use Rattle.wh_desk.proofs.warehouse.seat_all.Given as goal

abbrev pub invariant-loop : goal.invariant-loop
invariant-loop l = (l.raw.desk.shown.value ≡ l.fn.raw.desk.shown.value) × (drop l.raw.behind l.raw.log.items ≡ drop l.fn.raw.behind l.fn.raw.log.items) × (view l.raw.desk.place ≡ view l.fn.raw.desk.place) × (length l.all.items ≡ l.counter) × All (λ d. d ≡ sitting l.fn.raw.desk.shown.value.front None) l.all.items
