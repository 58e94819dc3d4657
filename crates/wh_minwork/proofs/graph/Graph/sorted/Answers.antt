use Rattle.std.proofs.Common.{◌≡◌, ◌<◌, ℕ, List, sym, ap, ◌∙◌, length, map, subst}
use Rattle.wh_dag.proofs.SiblingLists.{on_err}
use Rattle.wh_minwork.specs.Drawn.{Drawn}
use Rattle.wh_minwork.specs.Inner.Left.{AreEdges}
use Rattle.wh_minwork.specs.Inner.Nodes.{expression_of}
use Rattle.wh_minwork.specs.Inner.Sorting.{IsSorting}
use Rattle.wh_minwork.specs.Sorted.{IsSimpleCycle, IsSorted}
use Rattle.wh_minwork.proofs.Sorting.{sorted_has_no_cycle}
use Rattle.wh_minwork.proofs.Views.{cycle_view, sorted_view}
use Rattle.wh_minwork.proofs.graph.Graph.sorted.Goals as goal

pub sort-requires : goal.sort-requires
sort-requires c = (c.self.inside.children.now, c.as_slice.result.now, c.of-edges.ensures)

-- the sets tell of the graph that is seen
drawn : (views : ℕ) (over under before : List ℕ) (children : List (List ℕ)) (list ds : List (ℕ × ℕ)) (seen : Drawn) → AreEdges views over under before children list → list ≡ ds → record { children = children; decided = ds } ≡ seen → AreEdges views over under before seen.children seen.decided
drawn views over under before children list ds seen h same is =
    subst (λ (z : Drawn). AreEdges views over under before z.children z.decided) is (subst (λ z. AreEdges views over under before children z) same h)

pub returns-in_err-nodes-clause-some : goal.returns-in_err-nodes-clause-some
returns-in_err-nodes-clause-some c =
    let e = c.of-edges.result in
    let a = c.args.self.now in
    let h = drawn e.views e.over e.under e.before c.self.inside.children.now _ c.self.inside.decided.now a c.of-edges.ensures c.as_slice.ensures.couples c.self.view_is in
    on_err _ (c.in_err-nodes.ensures.some a.children a.decided h)

pub returns-in_ok-expressions-in-Order-clause-sorted : goal.returns-in_ok-expressions-in-Order-clause-sorted
returns-in_ok-expressions-in-Order-clause-sorted c =
    let e = c.of-edges.result in
    let a = c.args.self.now in
    let h = drawn e.views e.over e.under e.before c.self.inside.children.now _ c.self.inside.decided.now a c.of-edges.ensures c.as_slice.ensures.couples c.self.view_is in
    let sorted = subst (IsSorting a.children a.decided) c.in-Order.is (c.in_ok-nodes.ensures.sort a.children a.decided h) in
    subst (IsSorted a.children a.decided) (sym (c.new.ensures ∙ c.in_ok-expressions-in-Order.ensures.list ∙ ap (map expression_of) c.deref.ensures.value)) sorted

pub returns-in_ok-expressions-in-Order-clause-acyclic : goal.returns-in_ok-expressions-in-Order-clause-acyclic
returns-in_ok-expressions-in-Order-clause-acyclic c =
    let e = c.of-edges.result in
    let a = c.args.self.now in
    let h = drawn e.views e.over e.under e.before c.self.inside.children.now _ c.self.inside.decided.now a c.of-edges.ensures c.as_slice.ensures.couples c.self.view_is in
    let sorted = subst (IsSorting a.children a.decided) c.in-Order.is (c.in_ok-nodes.ensures.sort a.children a.decided h) in
    sorted_has_no_cycle a.children a.decided (map expression_of c.in-Order.nodes.items) sorted

pub returns-in_err-expressions-in-Order-clause-some : goal.returns-in_err-expressions-in-Order-clause-some
returns-in_err-expressions-in-Order-clause-some c =
    let e = c.of-edges.result in
    let a = c.args.self.now in
    let h = drawn e.views e.over e.under e.before c.self.inside.children.now _ c.self.inside.decided.now a c.of-edges.ensures c.as_slice.ensures.couples c.self.view_is in
    let sorted = subst (IsSorting a.children a.decided) c.in-Order.is (c.in_ok-nodes.ensures.sort a.children a.decided h) in
    let some : 0 < length c.in-Order.nodes.items = subst (λ z. 0 < length z) c.deref.ensures.value c.in_err-expressions-in-Order.ensures.memory in
    on_err _ (sorted_view a.children a.decided c.in-Order.nodes.items sorted some)

pub returns-in_ok-expressions-in-Round-clause-err : goal.returns-in_ok-expressions-in-Round-clause-err
returns-in_ok-expressions-in-Round-clause-err c =
    let e = c.of-edges.result in
    let a = c.args.self.now in
    let h = drawn e.views e.over e.under e.before c.self.inside.children.now _ c.self.inside.decided.now a c.of-edges.ensures c.as_slice.ensures.couples c.self.view_is in
    let round = subst (IsSorting a.children a.decided) c.in-Round.is (c.in_ok-nodes.ensures.sort a.children a.decided h) in
    subst (IsSimpleCycle a.children a.decided) (sym (c.in_ok-expressions-in-Round.ensures.list ∙ ap (map expression_of) c.deref-in-Round.ensures.value)) round.simple

pub returns-in_ok-expressions-in-Round-clause-some : goal.returns-in_ok-expressions-in-Round-clause-some
returns-in_ok-expressions-in-Round-clause-some c =
    let e = c.of-edges.result in
    let a = c.args.self.now in
    let h = drawn e.views e.over e.under e.before c.self.inside.children.now _ c.self.inside.decided.now a c.of-edges.ensures c.as_slice.ensures.couples c.self.view_is in
    let round = subst (IsSorting a.children a.decided) c.in-Round.is (c.in_ok-nodes.ensures.sort a.children a.decided h) in
    cycle_view a.children a.decided (map expression_of c.in-Round.nodes.items) round.simple.cycle

pub returns-in_err-expressions-in-Round-clause-some : goal.returns-in_err-expressions-in-Round-clause-some
returns-in_err-expressions-in-Round-clause-some c =
    let e = c.of-edges.result in
    let a = c.args.self.now in
    let h = drawn e.views e.over e.under e.before c.self.inside.children.now _ c.self.inside.decided.now a c.of-edges.ensures c.as_slice.ensures.couples c.self.view_is in
    let round = subst (IsSorting a.children a.decided) c.in-Round.is (c.in_ok-nodes.ensures.sort a.children a.decided h) in
    on_err _ (cycle_view a.children a.decided (map expression_of c.in-Round.nodes.items) round.simple.cycle)
