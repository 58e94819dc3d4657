use Rattle.std.proofs.Common.{◌≡◌, ◌+◌, ◌∷◌, [], ap, arith, length}
use Rattle.std.proofs.lemmas.List.{length-append}
use Rattle.wh_night.proofs.Rests.{seated_more}
use Rattle.wh_night.proofs.readers.seat_readers.Goals as goal

pub loop-number-preserved : goal.loop-number-preserved
loop-number-preserved c =
    let inv = c.loop-number.invariant in
    let left = c.in_ok-desk.ensures.items in
    let seats = c.in-Ok.ensures.items in
    let count : length c.push.new.self.items ≡ c.loop-number.number + 1 = (let e = ap length seats in let m = length-append c.loop-number.askers.items (c.in_ok-asker.asker ∷ []) in let k = inv.0 in omega (arith, e, m, k)) in
    let rest : c.loop-number.number + 1 + length c.pop.new.self.items ≡ length c.args.desks.items = (let e = ap length left in let m = length-append c.pop.new.self.items (c.in_ok-desk.desk ∷ []) in let k = inv.1 in omega (arith, e, m, k)) in
    (count, rest, λ told all. seated_more c.args.views c.loop-number.desks.items c.pop.new.self.items c.loop-number.askers.items c.push.new.self.items c.in_ok-desk.desk c.in_ok-asker.asker left seats c.in_ok-asker.ensures told (inv.2 told all))

pub returns-clause-seated : goal.returns-clause-seated
returns-clause-seated c = λ told all. (c.loop-number.invariant.2 told all).1
