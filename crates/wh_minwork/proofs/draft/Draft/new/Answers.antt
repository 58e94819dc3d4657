use Rattle.std.proofs.Common.{sym, subst}
use Rattle.wh_minwork.specs.Inner.Left.{AreEdges}
use Rattle.wh_cert.specs.Graph.{DecidesAll}
use Rattle.wh_minwork.proofs.Looking.{sets_start}
use Rattle.wh_minwork.proofs.draft.Draft.new.Goals as goal

pub invariant_of-result : goal.invariant_of-result
invariant_of-result c =
    let e = c.of-edges.result in
    let shape = c.child_lists-children.result.now in
    let ordered = c.in_ok-ordered.ordered in
    rw c.new.ensures
    (sets_start e.views e.over e.under e.before c.none.result shape ordered
    (subst (λ z. AreEdges e.views e.over e.under e.before shape z) c.as_slice.ensures.couples c.of-edges.ensures)
    (subst (λ z. DecidesAll z ordered) (sym c.child_lists-children.ensures.lists) c.in_ok-ordered.ensures.ordered.0)
    c.as_slice.ensures.once c.none.ensures)
