use Rattle.std.proofs.Common.{◌≡◌, ◌<◌, ap, ◌∙◌, length, map, subst}
use Rattle.wh_dag.proofs.SiblingLists.{on_err}
use Rattle.wh_minwork.specs.Draft.{completed}
use Rattle.wh_minwork.specs.Inner.Nodes.{expression_of}
use Rattle.wh_minwork.specs.Inner.Sorting.{IsSorting}
use Rattle.wh_minwork.proofs.OpenAlong.{round_to_first}
use Rattle.wh_minwork.proofs.Rounds.{round_is_cycle}
use Rattle.wh_minwork.proofs.Views.{cycle_view, sorted_view}
use Rattle.wh_minwork.proofs.draft.Draft.next_branch.Goals as goal

pub sort-requires : goal.sort-requires
sort-requires c =
    let d = c.self.inside in
    (d.children.now, completed d.ordered d.decided, c.self.invariant.edges)

pub returns-in_err-nodes-clause-some : goal.returns-in_err-nodes-clause-some
returns-in_err-nodes-clause-some c =
    let d = c.self.inside in
    rw (← c.self.view_is) (on_err _ (c.in_err-nodes.ensures.some d.children.now (completed d.ordered d.decided) c.self.invariant.edges))

pub returns-in-Order-clause-found : goal.returns-in-Order-clause-found
returns-in-Order-clause-found c =
    let d = c.self.inside in
    let all = completed d.ordered d.decided in
    let sorted = subst (IsSorting d.children.now all) c.in-Order.is (c.in_ok-nodes.ensures.sort d.children.now all c.self.invariant.edges) in
    let list : c.new.result ≡ map expression_of c.in-Order.nodes.items = c.new.ensures ∙ c.in_ok-expressions-in-Order.ensures.list ∙ ap (map expression_of) c.deref.ensures.value in
    rw (list, ← c.self.view_is) sorted

pub returns-in_err-expressions-in-Order-clause-some : goal.returns-in_err-expressions-in-Order-clause-some
returns-in_err-expressions-in-Order-clause-some c =
    let d = c.self.inside in
    let all = completed d.ordered d.decided in
    let sorted = subst (IsSorting d.children.now all) c.in-Order.is (c.in_ok-nodes.ensures.sort d.children.now all c.self.invariant.edges) in
    let some : 0 < length c.in-Order.nodes.items = subst (λ z. 0 < length z) c.deref.ensures.value c.in_err-expressions-in-Order.ensures.memory in
    rw (← c.self.view_is) (on_err _ (sorted_view d.children.now all c.in-Order.nodes.items sorted some))

pub first_open-requires : goal.first_open-requires
first_open-requires c =
    let d = c.self.inside in
    let all = completed d.ordered d.decided in
    let round = subst (IsSorting d.children.now all) c.in-Round.is (c.in_ok-nodes.ensures.sort d.children.now all c.self.invariant.edges) in
    rw (c.deref-in-Round.ensures.value, ← c.self.view_is) round.round

pub returns-in-Some-clause-found : goal.returns-in-Some-clause-found
returns-in-Some-clause-found c =
    let d = c.self.inside in
    let all = completed d.ordered d.decided in
    let round = subst (IsSorting d.children.now all) c.in-Round.is (c.in_ok-nodes.ensures.sort d.children.now all c.self.invariant.edges) in
    let first = rw c.deref-in-Round.ensures.value at c.in-Some.ensures in
    let a = c.args.self.now in
    (map expression_of c.in-Round.cycle.items, rw (← c.self.view_is) round.simple.cycle, round_to_first a.children a.decided c.in-Some.couple c.in-Round.cycle.items first.0 first.1)

pub returns-clause-found : goal.returns-clause-found
returns-clause-found c =
    let a = c.args.self.now in
    let round = rw c.deref-in-Round.ensures.value at c.in-None.ensures in
    let list : c.new-in-None.result ≡ map expression_of c.in-Round.cycle.items = c.new-in-None.ensures ∙ c.in_ok-expressions-in-None.ensures.list ∙ ap (map expression_of) c.deref-in-None.ensures.value in
    rw list (round_is_cycle a.children a.decided c.in-Round.cycle.items round)

pub returns-in_err-expressions-in-None-clause-some : goal.returns-in_err-expressions-in-None-clause-some
returns-in_err-expressions-in-None-clause-some c =
    let d = c.self.inside in
    let all = completed d.ordered d.decided in
    let round = subst (IsSorting d.children.now all) c.in-Round.is (c.in_ok-nodes.ensures.sort d.children.now all c.self.invariant.edges) in
    rw (← c.self.view_is) (on_err _ (cycle_view d.children.now all (map expression_of c.in-Round.cycle.items) round.simple.cycle))
