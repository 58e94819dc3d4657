use Rattle.std.proofs.Common.{◌≡◌, ◌<◌, ◌≤◌, subst, arith}
use Rattle.wh_strategy.specs.Prices.{prices_of}
use Rattle.wh_strategy.specs.Sizes.{sizes_of}
use Rattle.wh_cert.specs.Bound.{decided_bound_of}
use Rattle.wh_cert.specs.Search.{IsOpen}
use Rattle.wh_minwork.specs.Draft.{DecidesCouples, IsFound, OpensCycle}
use Rattle.wh_prune.proofs.Counted.{fewer_decided}
use Rattle.wh_prune.proofs.Exploring.{bound_leaf, cycle_leaf, held_completed}
use Rattle.wh_prune.proofs.Opened.{branch_run, cut_run, cycle_run, found_run}
use Rattle.wh_prune.proofs.explore.Search.open.Goals as goal

pub returns-then-self-bound-clause-explored : goal.returns-then-self-bound-clause-explored
returns-then-self-bound-clause-explored c =
    let shape = c.args.task.now.shape.now.children in
    let sizes = sizes_of c.args.task.now.sizes.now in
    let ds = c.args.self.now.draft.decided in
    let bound : c.args.bound ≡ decided_bound_of shape sizes (prices_of c.args.task.now.costs) ds = c.requires.bound in
    let l : c.args.self.now.best ≤ c.args.bound = c.if-self-bound.true in
    bound_leaf shape sizes (prices_of c.args.task.now.costs) c.args.self.now.best ds c.args.self.now.nodes.items c.push.new.self.items (omega arith) c.in_ok-push.ensures.items

pub returns-in_ok-push-in-Sorted-clause-held : goal.returns-in_ok-push-in-Sorted-clause-held
returns-in_ok-push-in-Sorted-clause-held c =
    let shape = c.args.task.now.shape.now.children in
    let sizes = sizes_of c.args.task.now.sizes.now in
    let d = c.args.self.now.draft in
    let bound : c.args.bound ≡ decided_bound_of shape sizes (prices_of c.args.task.now.costs) d.decided = c.requires.bound in
    let found = rw c.requires.children at c.in_ok-list.ensures.found in
    let sorted = subst (IsFound shape d.ordered d.decided) c.in-Sorted.is found in
    held_completed shape sizes (prices_of c.args.task.now.costs) c.args.bound d.ordered d.decided c.in-Sorted.list c.child_lists-lists.ensures.shape c.requires.ordered c.decided-decided.ensures.once
    (subst (λ z. DecidesCouples z d.decided) c.requires.children c.decided-decided.ensures.couples) sorted bound

pub returns-in_ok-push-in-Sorted-clause-explored : goal.returns-in_ok-push-in-Sorted-clause-explored
returns-in_ok-push-in-Sorted-clause-explored c =
    let shape = c.args.task.now.shape.now.children in
    let sizes = sizes_of c.args.task.now.sizes.now in
    let ds = c.args.self.now.draft.decided in
    let bound : c.args.bound ≡ decided_bound_of shape sizes (prices_of c.args.task.now.costs) ds = c.requires.bound in
    bound_leaf shape sizes (prices_of c.args.task.now.costs) c.args.bound ds c.args.self.now.nodes.items c.push-in-Sorted.new.self.items (omega arith) c.in_ok-push-in-Sorted.ensures.items

pub returns-in_ok-push-in-Cycle-clause-explored : goal.returns-in_ok-push-in-Cycle-clause-explored
returns-in_ok-push-in-Cycle-clause-explored c =
    let shape = c.args.task.now.shape.now.children in
    let sizes = sizes_of c.args.task.now.sizes.now in
    let d = c.args.self.now.draft in
    let found = rw c.requires.children at c.in_ok-list.ensures.found in
    let cycle = subst (IsFound shape d.ordered d.decided) c.in-Cycle.is found in
    cycle_leaf shape sizes (prices_of c.args.task.now.costs) c.args.self.now.best d.decided c.in-Cycle.cycle c.args.self.now.nodes.items c.push-in-Cycle.new.self.items cycle c.in_ok-push-in-Cycle.ensures.items

pub returns-in_ok-push-in-Open-clause-explored : goal.returns-in_ok-push-in-Open-clause-explored
returns-in_ok-push-in-Open-clause-explored c =
    let shape = c.args.task.now.shape.now.children in
    let d = c.args.self.now.draft in
    let found = rw c.requires.children at c.in_ok-list.ensures.found in
    let opens : OpensCycle shape d.ordered d.decided c.in-Open.couple = subst (IsFound shape d.ordered d.decided) c.in-Open.is found in
    let is_open : IsOpen shape d.decided c.in-Open.couple = opens.2.undecided in (
      is_open,
      c.in_ok-push-in-Open.ensures.items,
      fewer_decided shape d.decided c.in-Open.couple c.child_lists-lists.ensures.shape c.decided-decided.ensures.once (subst (λ z. DecidesCouples z d.decided) c.requires.children c.decided-decided.ensures.couples) is_open,
      (d.ordered, c.requires.ordered, opens),
    )

pub returns-then-self-bound-clause-run : goal.returns-then-self-bound-clause-run
returns-then-self-bound-clause-run c =
    let shape = c.args.task.now.shape.now.children in
    let sizes = sizes_of c.args.task.now.sizes.now in
    let ds = c.args.self.now.draft.decided in
    let bound : c.args.bound ≡ decided_bound_of shape sizes (prices_of c.args.task.now.costs) ds = c.requires.bound in
    let l : c.args.self.now.best ≤ c.args.bound = c.if-self-bound.true in
    cut_run shape sizes (prices_of c.args.task.now.costs) ds c.args.self.now.best c.args.self.now.nodes.items c.push.new.self.items c.in_ok-push.ensures.items (omega arith)

pub returns-in_ok-push-in-Sorted-clause-run : goal.returns-in_ok-push-in-Sorted-clause-run
returns-in_ok-push-in-Sorted-clause-run c =
    let shape = c.args.task.now.shape.now.children in
    let sizes = sizes_of c.args.task.now.sizes.now in
    let d = c.args.self.now.draft in
    let bound : c.args.bound ≡ decided_bound_of shape sizes (prices_of c.args.task.now.costs) d.decided = c.requires.bound in
    let l : c.args.bound < c.args.self.now.best = c.if-self-bound.false in
    let found = rw c.requires.children at c.in_ok-list.ensures.found in
    let sorted = subst (IsFound shape d.ordered d.decided) c.in-Sorted.is found in
    let held = held_completed shape sizes (prices_of c.args.task.now.costs) c.args.bound d.ordered d.decided c.in-Sorted.list c.child_lists-lists.ensures.shape c.requires.ordered c.decided-decided.ensures.once
    (subst (λ z. DecidesCouples z d.decided) c.requires.children c.decided-decided.ensures.couples) sorted bound in
    found_run shape sizes (prices_of c.args.task.now.costs) d.ordered d.decided c.args.self.now.best c.args.bound c.in-Sorted.list c.args.self.now.nodes.items c.push-in-Sorted.new.self.items
    c.in_ok-push-in-Sorted.ensures.items bound l held c.requires.ordered sorted

pub returns-in_ok-push-in-Cycle-clause-run : goal.returns-in_ok-push-in-Cycle-clause-run
returns-in_ok-push-in-Cycle-clause-run c =
    let shape = c.args.task.now.shape.now.children in
    let sizes = sizes_of c.args.task.now.sizes.now in
    let d = c.args.self.now.draft in
    let bound : c.args.bound ≡ decided_bound_of shape sizes (prices_of c.args.task.now.costs) d.decided = c.requires.bound in
    let l : c.args.bound < c.args.self.now.best = c.if-self-bound.false in
    let found = rw c.requires.children at c.in_ok-list.ensures.found in
    let cycle = subst (IsFound shape d.ordered d.decided) c.in-Cycle.is found in
    cycle_run shape sizes (prices_of c.args.task.now.costs) d.decided c.args.self.now.best c.in-Cycle.cycle c.args.self.now.nodes.items c.push-in-Cycle.new.self.items c.in_ok-push-in-Cycle.ensures.items (omega arith) cycle

pub returns-in_ok-push-in-Open-clause-run : goal.returns-in_ok-push-in-Open-clause-run
returns-in_ok-push-in-Open-clause-run c =
    let shape = c.args.task.now.shape.now.children in
    let sizes = sizes_of c.args.task.now.sizes.now in
    let d = c.args.self.now.draft in
    let bound : c.args.bound ≡ decided_bound_of shape sizes (prices_of c.args.task.now.costs) d.decided = c.requires.bound in
    let l : c.args.bound < c.args.self.now.best = c.if-self-bound.false in
    let found = rw c.requires.children at c.in_ok-list.ensures.found in
    let opens : OpensCycle shape d.ordered d.decided c.in-Open.couple = subst (IsFound shape d.ordered d.decided) c.in-Open.is found in
    branch_run shape sizes (prices_of c.args.task.now.costs) d.decided c.args.self.now.best c.in-Open.couple c.args.self.now.nodes.items c.push-in-Open.new.self.items c.in_ok-push-in-Open.ensures.items (omega arith) (d.ordered, c.requires.ordered, opens)
