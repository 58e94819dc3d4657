use Rattle.std.proofs.Common.{rules, ◌≡◌, ◌∙◌, ap, length, take, ◌-◌}
use Rattle.std.specs.VecDeque.{deque_len}
use Rattle.wh_core.proofs.Shorter.{stands_taken_back}
use Rattle.wh_core.proofs.warehouse.Core.take_back.Goals as goal

pub returns : goal.returns
returns g c = λ s log night legal h.
    let core = c.args.self.now in
    let nights = core.nights in
    let long : deque_len nights ≡ length nights.items = search rules in
    stands_taken_back s night log core (record core { nights = c.pop_back-last.new.self }) legal (c.pop_back-last.ensures.rest ∙ ap (λ n. take (n - 1) nights.items) long) h
