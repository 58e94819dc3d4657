use Rattle.std.proofs.Common.{sym, subst, IfOk}
use Rattle.std.specs.Fn.{FnReturnsAt}
use Rattle.std.specs.List.{All}
use Rattle.wh_threads.specs.Inner.Drawn.{AreDrawn}
use Rattle.wh_threads.proofs.DrawnLaws.{all_answered}
use Rattle.wh_threads.proofs.ThreadBudget.each.Goals as goal

pub in_order-requires-clause-drawn : goal.in_order-requires-clause-drawn
in_order-requires-clause-drawn g c =
    let h = c.in_ok-drawn.ensures in
    let chain = rw (c.map.ensures.base, c.map.ensures.f) at h.1 in
    subst (All (λ each. IfOk each (λ done. AreDrawn (FnReturnsAt g.F.Fn c.args.work) c.args.parts.now done.items))) (sym h.2)
    (all_answered _ (λ each. IfOk each (λ done. AreDrawn (FnReturnsAt g.F.Fn c.args.work) c.args.parts.now done.items)) (λ hand answer met. met) chain.0 h.0 chain.2)

pub returns-clause-answers : goal.returns-clause-answers
returns-clause-answers g c = c.in_order.ensures
