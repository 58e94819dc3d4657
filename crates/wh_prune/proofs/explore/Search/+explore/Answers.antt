use Rattle.std.proofs.Common.{◌≡◌, ◌≤◌, ◌+◌, ◌-◌, ◌^◌, ◌++◌, ◌∷◌, [], length, refl, ap, ◌∙◌, subst, arith, rules}
use Rattle.std.proofs.lemmas.Result.{err_from_is_err_and}
use Rattle.wh_dag.specs.Siblings.{couples_of}
use Rattle.wh_strategy.specs.Prices.{prices_of}
use Rattle.wh_strategy.specs.Sizes.{sizes_of}
use Rattle.wh_prune.specs.Inner.Searching.{IsExplored}
use Rattle.wh_prune.proofs.Deciding.{open_couple_turned, taken_back}
use Rattle.wh_prune.proofs.Exploring.{fork, some_power}
use Rattle.wh_prune.proofs.Opened.{go_on, no_run, power_twice, stop_on}
use Rattle.wh_prune.proofs.explore.Search.+explore.Goals as goal

pub returns-then-task-opened-clause-err : goal.returns-then-task-opened-clause-err
returns-then-task-opened-clause-err t c =
    let some = some_power c.args.left in
    let full : c.args.task.now.budget ≤ c.len-opened.result = c.if-task-opened.true in
    let len : c.len-opened.result ≡ length c.args.self.now.nodes.items = search rules in
    let within : length c.args.self.now.nodes.items ≤ c.args.task.now.budget = c.requires.budget in
    let many : length c.args.self.now.nodes.items ≡ c.args.task.now.budget = omega arith in (
      omega arith,
      refl,
      omega arith,
      many,
      c.args.self.now.draft.decided,
      [],
      no_run c.args.task.now.shape.now.children (sizes_of c.args.task.now.sizes.now) (prices_of c.args.task.now.costs) c.args.self.now.draft.decided c.args.self.now.best c.args.self.now.nodes.items,
    )

pub returns-then-task-opened-clause-spent : goal.returns-then-task-opened-clause-spent
returns-then-task-opened-clause-spent t c = λ _.
    let full : c.args.task.now.budget ≤ c.len-opened.result = c.if-task-opened.true in
    let len : c.len-opened.result ≡ length c.args.self.now.nodes.items = search rules in
    let within : length c.args.self.now.nodes.items ≤ c.args.task.now.budget = c.requires.budget in
    let opened : c.len-opened.result ≡ c.args.task.now.budget = omega arith in
    cc

pub returns-in_default-clause-nodes : goal.returns-in_default-clause-nodes
returns-in_default-clause-nodes t c =
    let some = some_power c.args.left in
    let one = c.in_ok-couple.ensures.nodes in
    omega arith

pub push-requires-2-clause-couple : goal.push-requires-2-clause-couple
push-requires-2-clause-couple t c =
    let shape = c.args.task.now.shape.now.children in
    let e = rw c.in-Some.is at c.in_ok-couple.ensures.explored in
    let children : c.pop.new.self.children ≡ shape = c.pop.ensures.children ∙ c.in_ok-explore.ensures.children ∙ c.in_ok-push.ensures.children ∙ ap (λ z. z.children) c.in_ok-couple.ensures.draft ∙ c.requires.children in
    rw children (open_couple_turned shape c.args.self.now.draft.decided c.in-Some.couple e.0)

pub returns-clause-explored : goal.returns-clause-explored
returns-clause-explored t c =
    let shape = c.args.task.now.shape.now.children in
    let sizes = sizes_of c.args.task.now.sizes.now in
    let ds = c.args.self.now.draft.decided in
    let couple = c.in-Some.couple in
    let e = rw c.in-Some.is at c.in_ok-couple.ensures.explored in
    let few : length ds + 1 ≤ length (couples_of shape) = e.2 in
    let all = c.requires.left in
    let n : c.args.left - 1 + 1 ≡ c.args.left = omega arith in
    let same = ap (λ z. z.decided) c.in_ok-couple.ensures.draft in
    let first = c.in_ok-push.ensures.ok ∙ ap (λ z. z ++ (couple.lower, couple.higher) ∷ []) same in
    let back = taken_back ds c.explore.new.self.draft.decided c.pop.new.self.decided (couple.lower, couple.higher) (c.in_ok-explore.ensures.kept ∙ first) c.pop.ensures.decided in
    let second = c.in_ok-push-2.ensures.ok ∙ ap (λ z. z ++ (couple.higher, couple.lower) ∷ []) back in
    let on_left = rw first at c.in_ok-explore.ensures.explored in
    let on_right = rw second at c.in_ok-explore-2.ensures.explored in
    subst (λ k. IsExplored shape sizes (prices_of c.args.task.now.costs) c.explore-2.new.self.best (k + 1) ds c.args.self.now.nodes.items c.explore-2.new.self.nodes.items) n
    (fork shape sizes (prices_of c.args.task.now.costs) c.explore.new.self.best c.explore-2.new.self.best (c.args.left - 1 + 1) ds couple c.args.self.now.nodes.items c.open.new.self.nodes.items c.explore.new.self.nodes.items c.explore-2.new.self.nodes.items
    e.0 e.3 c.explore-2.ensures.down e.1 on_left on_right)

pub returns-clause-run : goal.returns-clause-run
returns-clause-run t c =
    let shape = c.args.task.now.shape.now.children in
    let sizes = sizes_of c.args.task.now.sizes.now in
    let prices = prices_of c.args.task.now.costs in
    let ds = c.args.self.now.draft.decided in
    let couple = c.in-Some.couple in
    let same = ap (λ z. z.decided) c.in_ok-couple.ensures.draft in
    let first = c.in_ok-push.ensures.ok ∙ ap (λ z. z ++ (couple.lower, couple.higher) ∷ []) same in
    let back = taken_back ds c.explore.new.self.draft.decided c.pop.new.self.decided (couple.lower, couple.higher) (c.in_ok-explore.ensures.kept ∙ first) c.pop.ensures.decided in
    let second = c.in_ok-push-2.ensures.ok ∙ ap (λ z. z ++ (couple.higher, couple.lower) ∷ []) back in
    let branch = rw c.in-Some.is at c.in_ok-couple.ensures.run in
    let on_left = rw first at c.in_ok-explore.ensures.run in
    let on_right = rw second at c.in_ok-explore-2.ensures.run in
    go_on shape sizes prices ds (ds ++ (couple.higher, couple.lower) ∷ []) [] [] c.args.self.now.best c.explore.new.self.best c.explore-2.new.self.best
    c.args.self.now.nodes.items c.explore.new.self.nodes.items c.explore-2.new.self.nodes.items
    (go_on shape sizes prices ds (ds ++ (couple.lower, couple.higher) ∷ []) ((ds ++ (couple.higher, couple.lower) ∷ []) ∷ []) [] c.args.self.now.best c.open.new.self.best c.explore.new.self.best
    c.args.self.now.nodes.items c.open.new.self.nodes.items c.explore.new.self.nodes.items branch on_left)
    on_right

pub returns-in_err-explore-clause-err : goal.returns-in_err-explore-clause-err
returns-in_err-explore-clause-err t c =
    let shape = c.args.task.now.shape.now.children in
    let sizes = sizes_of c.args.task.now.sizes.now in
    let prices = prices_of c.args.task.now.costs in
    let ds = c.args.self.now.draft.decided in
    let couple = c.in-Some.couple in
    let e = rw c.in-Some.is at c.in_ok-couple.ensures.explored in
    let few : length ds + 1 ≤ length (couples_of shape) = e.2 in
    let all = c.requires.left in
    let some : 1 ≤ c.args.left = omega arith in
    let one = c.in_ok-couple.ensures.nodes in
    let twice = power_twice c.args.left some in
    let more = some_power c.args.left in
    let same = ap (λ z. z.decided) c.in_ok-couple.ensures.draft in
    let first = c.in_ok-push.ensures.ok ∙ ap (λ z. z ++ (couple.lower, couple.higher) ∷ []) same in
    let branch = rw c.in-Some.is at c.in_ok-couple.ensures.run in
    let stopped = rw first at c.in_err-explore.ensures.err in
    let given = err_from_is_err_and c.from_residual-in_err-explore.result c.from_residual-in_err-explore.ensures.1 in
    rw (given.1, given.2)
    (stop_on shape sizes prices c.args.task.now.budget (length c.open.new.self.nodes.items + 2 ^ (c.args.left - 1 + 1)) (length c.args.self.now.nodes.items + 2 ^ (c.args.left + 1)) ds (ds ++ (couple.lower, couple.higher) ∷ []) ((ds ++ (couple.higher, couple.lower) ∷ []) ∷ []) c.args.self.now.best c.open.new.self.best c.explore.new.self.best
    c.args.self.now.nodes.items c.open.new.self.nodes.items c.explore.new.self.nodes.items c.in_err-explore.field-0.0 branch stopped (omega arith))

pub returns-in_err-explore-2-clause-err : goal.returns-in_err-explore-2-clause-err
returns-in_err-explore-2-clause-err t c =
    let shape = c.args.task.now.shape.now.children in
    let sizes = sizes_of c.args.task.now.sizes.now in
    let prices = prices_of c.args.task.now.costs in
    let ds = c.args.self.now.draft.decided in
    let couple = c.in-Some.couple in
    let e = rw c.in-Some.is at c.in_ok-couple.ensures.explored in
    let few : length ds + 1 ≤ length (couples_of shape) = e.2 in
    let all = c.requires.left in
    let some : 1 ≤ c.args.left = omega arith in
    let one = c.in_ok-couple.ensures.nodes in
    let twice = power_twice c.args.left some in
    let many = c.in_ok-explore.ensures.nodes in
    let same = ap (λ z. z.decided) c.in_ok-couple.ensures.draft in
    let first = c.in_ok-push.ensures.ok ∙ ap (λ z. z ++ (couple.lower, couple.higher) ∷ []) same in
    let back = taken_back ds c.explore.new.self.draft.decided c.pop.new.self.decided (couple.lower, couple.higher) (c.in_ok-explore.ensures.kept ∙ first) c.pop.ensures.decided in
    let second = c.in_ok-push-2.ensures.ok ∙ ap (λ z. z ++ (couple.higher, couple.lower) ∷ []) back in
    let branch = rw c.in-Some.is at c.in_ok-couple.ensures.run in
    let on_left = rw first at c.in_ok-explore.ensures.run in
    let stopped = rw second at c.in_err-explore-2.ensures.err in
    let given = err_from_is_err_and c.from_residual-in_err-explore-2.result c.from_residual-in_err-explore-2.ensures.1 in
    rw (given.1, given.2)
    (stop_on shape sizes prices c.args.task.now.budget (length c.explore.new.self.nodes.items + 2 ^ (c.args.left - 1 + 1)) (length c.args.self.now.nodes.items + 2 ^ (c.args.left + 1)) ds (ds ++ (couple.higher, couple.lower) ∷ []) [] c.args.self.now.best c.explore.new.self.best c.explore-2.new.self.best
    c.args.self.now.nodes.items c.explore.new.self.nodes.items c.explore-2.new.self.nodes.items c.in_err-explore-2.field-0.0
    (go_on shape sizes prices ds (ds ++ (couple.lower, couple.higher) ∷ []) ((ds ++ (couple.higher, couple.lower) ∷ []) ∷ []) [] c.args.self.now.best c.open.new.self.best c.explore.new.self.best
    c.args.self.now.nodes.items c.open.new.self.nodes.items c.explore.new.self.nodes.items branch on_left)
    stopped (omega arith))
