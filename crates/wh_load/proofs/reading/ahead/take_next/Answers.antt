use Rattle.wh_load.proofs.ReadingAhead.{taken}
use Rattle.wh_load.proofs.reading.ahead.take_next.Goals as goal

pub returns : goal.returns
returns c =
    taken c.args.ahead.now.items c.pop.new.self.items c.in_ok-own.own c.in_ok-last.last.now c.args.view c.in_ok-own.ensures.items (rw c.deref.ensures.value at c.in_ok-last.ensures.value) c.if-last-view.false
