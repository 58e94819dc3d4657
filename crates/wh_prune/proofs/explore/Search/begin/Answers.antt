use Rattle.std.proofs.Common.{ap, ◌∙◌, subst}
use Rattle.wh_strategy.specs.Prices.{prices_of}
use Rattle.wh_strategy.specs.Sizes.{sizes_of}
use Rattle.wh_cert.specs.Bound.{decided_bound_of}
use Rattle.wh_minwork.specs.Sorted.{IsUnsorted}
use Rattle.wh_prune.proofs.Deciding.{decides_all}
use Rattle.wh_prune.proofs.Exploring.{held_sorted}
use Rattle.wh_prune.proofs.LowestFirst.{no_cycle_lowest, lowest_installs}
use Rattle.wh_prune.proofs.explore.Search.begin.Goals as goal

pub unreachable-requires : goal.unreachable-requires
unreachable-requires c =
    let unsorted = rw (c.of.ensures.children, c.of.ensures.decided) at c.in-Err-Cycle.ensures.err in
    let cycle = subst (λ z. IsUnsorted c.args.shape.now.children c.in_ok-lowest.lowest z) c.in-Err-Cycle.field-0-is unsorted in
    no_cycle_lowest c.args.shape.now.children c.in_ok-lowest.lowest c.of.ensures.shape c.in_ok-lowest.ensures.lower c.in-Err-Cycle.field-0-0.items cycle.cycle

pub returns-in-Ok-clause-held : goal.returns-in-Ok-clause-held
returns-in-Ok-clause-held c =
    let shape = c.args.shape.now.children in
    let sizes = sizes_of c.args.sizes.now in
    let so = rw (c.of.ensures.children, c.of.ensures.decided) at c.in-Ok.ensures.sorted in
    held_sorted shape sizes (prices_of c.args.costs) c.decided_bound.result c.in_ok-lowest.lowest c.in-Ok.list c.of.ensures.shape
    (decides_all shape c.in_ok-lowest.lowest c.of.ensures.shape c.in_ok-lowest.ensures.all) so
    (c.decided_bound.ensures ∙ ap (decided_bound_of shape sizes (prices_of c.args.costs)) c.as_slice.ensures.couples)

pub returns-in-Ok-clause-begins : goal.returns-in-Ok-clause-begins
returns-in-Ok-clause-begins c =
    let shape = c.args.shape.now.children in
    let sizes = sizes_of c.args.sizes.now in
    let so = rw (c.of.ensures.children, c.of.ensures.decided) at c.in-Ok.ensures.sorted in
    let da = decides_all shape c.in_ok-lowest.lowest c.of.ensures.shape c.in_ok-lowest.ensures.all in
    let held = held_sorted shape sizes (prices_of c.args.costs) c.decided_bound.result c.in_ok-lowest.lowest c.in-Ok.list c.of.ensures.shape da so
    (c.decided_bound.ensures ∙ ap (decided_bound_of shape sizes (prices_of c.args.costs)) c.as_slice.ensures.couples) in
    record {
      list = c.in-Ok.list;
      correct = held.correct;
      one_way = held.one_way;
      lower_first = lowest_installs shape c.in_ok-lowest.lowest c.in-Ok.list da c.in_ok-lowest.ensures.lower so;
      costs = held.costs;
    }
