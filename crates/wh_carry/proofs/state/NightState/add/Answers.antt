use Rattle.std.proofs.Common.{◌≡◌, ap, subst, ◌∙◌, length, set, [], arith}
use Rattle.std.proofs.lemmas.List.{get_or_read}
use Rattle.wh_maint.specs.Comp.{PendingOf, merged}
use Rattle.wh_maint.specs.Refused.{BringsNothing}
use Rattle.wh_carry.specs.Kept.{KeptLists, pending_at}
use Rattle.wh_carry.proofs.Storing.{on_ok, parts_pending, pending_in, sum_pending}
use Rattle.wh_carry.proofs.state.NightState.add.Goals.{After-merge}
use Rattle.wh_carry.proofs.state.NightState.add.Goals as goal

-- what is pending of the view
pending : (c : After-merge) → c.index_mut.result.now ≡ pending_at c.args.self.now.pendings c.args.added.now.view
pending c =
    let same = ap (λ (z : KeptLists). z.pendings) c.self.view_is in
    let l = c.requires.there in
    let each = ap length same in
    let e = c.view.ensures in
    get_or_read c.self.inside.pendings.items c.view.result c.index_mut.result.now (omega arith) c.index_mut.ensures.value (record { view = 0; columns = [] })
    ∙ (λ i. pending_at (same i) (e i))

pub returns-clause-parts : goal.returns-clause-parts
returns-clause-parts c =
    let to = (goal.at.returns-clause-parts c).After-merge in
    let v = c.args.added.now.view in
    let s : KeptLists = c.args.self.now in
    let inside = c.self.inside in
    let sum : PendingOf = c.merge.new.self in
    let next : KeptLists = record { tables = inside.tables.items; pendings = set inside.pendings.items c.view.result sum; changes = inside.changes.items; known = inside.known.items } in
    on_ok (sum.columns ≡ merged c.index_mut.result.now.columns c.args.added.now.columns) _ c.merge.result
    (λ is cat p q.
    let each = p.each_pending in
    let there = c.requires.there in
    parts_pending cat s next v sum p there
    (sum_pending cat v (pending_at s.pendings v) c.args.added.now sum (pending_in cat s v p (omega arith)) q (c.merge.ensures.view ∙ ap (λ (x : PendingOf). x.view) (pending to) ∙ c.requires.of_view)
    (is ∙ ap (λ (x : PendingOf). merged x.columns c.args.added.now.columns) (pending to)))
    (ap (λ (z : KeptLists). z.tables) c.self.view_is)
    (λ i. set (c.self.view_is i).pendings (c.view.ensures i) sum)
    (ap (λ (z : KeptLists). z.changes) c.self.view_is)
    (ap (λ (z : KeptLists). z.known) c.self.view_is))
    c.merge.ensures.sum

pub returns-clause-memory : goal.returns-clause-memory
returns-clause-memory c = λ e.
    let to = (goal.at.returns-clause-memory c).After-merge in
    subst (λ (x : PendingOf). BringsNothing x.columns c.args.added.now.columns → ⊥) (pending to) (c.merge.ensures.memory e)
