use Rattle.std.proofs.Common.{◌≡◌, ◌-◌, ◌||◌, ◌&&◌, ◌++◌, ◌∷◌, [], not, eqb, length, take, sym, ap, ◌∙◌, subst}
use Rattle.wh_minwork.specs.Decided.{AreDecisions}
use Rattle.wh_minwork.specs.Draft.{Drafted}
use Rattle.wh_minwork.specs.Inner.Draft.{AreDraftSets}
use Rattle.wh_minwork.proofs.Drafting.{sets_turned, sets_kept}
use Rattle.wh_minwork.proofs.draft.Draft.pop.Goals as goal

pub invariant_of-self : goal.invariant_of-self
invariant_of-self c =
    let d = c.self.inside in
    let a = c.last-first.result.0 in
    let b = c.last-first.result.1 in
    let e : d.decided ≡ c.args.self.now.decided = ap (λ (z : Drafted). z.decided) c.self.view_is in
    let kept : c.truncate.new.self ≡ take (length c.args.self.now.decided - 1) c.args.self.now.decided = c.truncate.ensures ∙ ap (λ z. take (length z - 1) d.decided) c.as_slice.ensures.couples ∙ ap (λ z. take (length z - 1) z) e in
    let whole : d.decided ≡ c.truncate.new.self ++ (a, b) ∷ [] = e ∙ c.last-first.ensures.last ∙ ap (λ z. z ++ (a, b) ∷ []) (sym kept) in
    sets_turned d.edges.views d.edges.over d.edges.under d.edges.before c.add.new.rows d.desired d.settled c.remove-2.new.rows d.children.now d.ordered c.truncate.new.self a b
    (subst (λ z. AreDraftSets d.edges.views d.edges.over d.edges.under d.edges.before d.desired d.settled d.children.now d.ordered z) whole c.self.invariant)
    (subst AreDecisions whole c.as_slice.ensures.once)
    (sym c.holds.ensures ∙ c.if-holds.true)
    (λ w u. c.add.ensures w u ∙ ap (λ z. (eqb a w && eqb b u) || z) (c.remove-then-holds.ensures.rest w u))
    (λ u w. c.remove-2.ensures.rest u w ∙ ap (λ z. not (eqb b u && eqb a w) && z) (c.remove.ensures.rest u w))

pub invariant_of-self-else-holds : goal.invariant_of-self-else-holds
invariant_of-self-else-holds c =
    let d = c.self.inside in
    let a = c.last-first.result.0 in
    let b = c.last-first.result.1 in
    let e : d.decided ≡ c.args.self.now.decided = ap (λ (z : Drafted). z.decided) c.self.view_is in
    let kept : c.truncate.new.self ≡ take (length c.args.self.now.decided - 1) c.args.self.now.decided = c.truncate.ensures ∙ ap (λ z. take (length z - 1) d.decided) c.as_slice.ensures.couples ∙ ap (λ z. take (length z - 1) z) e in
    let whole : d.decided ≡ c.truncate.new.self ++ (a, b) ∷ [] = e ∙ c.last-first.ensures.last ∙ ap (λ z. z ++ (a, b) ∷ []) (sym kept) in
    sets_kept d.edges.views d.edges.over d.edges.under d.edges.before d.desired d.settled c.remove-2.new.rows d.children.now d.ordered c.truncate.new.self a b
    (subst (λ z. AreDraftSets d.edges.views d.edges.over d.edges.under d.edges.before d.desired d.settled d.children.now d.ordered z) whole c.self.invariant)
    (subst AreDecisions whole c.as_slice.ensures.once)
    (sym c.holds.ensures ∙ c.if-holds.false)
    (λ u w. c.remove-2.ensures.rest u w ∙ ap (λ z. not (eqb b u && eqb a w) && z) (c.remove.ensures.rest u w))
