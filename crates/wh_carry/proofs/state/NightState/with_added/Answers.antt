use Rattle.std.proofs.Common.{◌≡◌, sym, ap, subst, ◌∙◌, length, Err, [], arith}
use Rattle.std.proofs.lemmas.List.{get_or_read}
use Rattle.std.proofs.lemmas.Result.{err_from_is_err_and}
use Rattle.wh_maint.specs.Comp.{PendingOf, merged}
use Rattle.wh_maint.specs.Refused.{BringsNothing}
use Rattle.wh_maint.specs.declared.fault.MaintFault.TheVariants.{Memory}
use Rattle.wh_carry.specs.Kept.{KeptLists, pending_at}
use Rattle.wh_carry.proofs.Storing.{merged_swap, same_err, sum_pending, pending_in}
use Rattle.wh_carry.proofs.state.NightState.with_added.Goals.{After-merge}
use Rattle.wh_carry.proofs.state.NightState.with_added.Goals as goal

-- what is pending of the view
pending : (c : After-merge) → c.index.result.now ≡ pending_at c.args.self.now.pendings c.args.added.view
pending c =
    let same = ap (λ (z : KeptLists). z.pendings) c.self.view_is in
    let l = c.requires.there in
    let each = ap length same in
    let e = c.view-view.ensures in
    get_or_read c.self.inside.pendings.items c.view-view.result c.index.result.now (omega arith) c.index.ensures (record { view = 0; columns = [] })
    ∙ (λ i. pending_at (same i) (e i))

pub returns-clause-sum : goal.returns-clause-sum
returns-clause-sum c =
    let to = (goal.at.returns-clause-sum c).After-merge in
    let added : PendingOf = c.args.added in
    let columns = c.in_ok-merge.ensures.sum ∙ ap (λ (x : PendingOf). merged added.columns x.columns) (pending to) ∙ merged_swap added.columns (pending_at c.args.self.now.pendings added.view).columns c.requires.columns in
    λ i. record { view = c.in_ok-merge.ensures.view i; columns = columns i }

pub returns-clause-parts : goal.returns-clause-parts
returns-clause-parts c = λ cat p q.
    let to = (goal.at.returns-clause-parts c).After-merge in
    let added : PendingOf = c.args.added in
    let s : KeptLists = c.args.self.now in
    let each = p.each_pending in
    let there = c.requires.there in
    sum_pending cat added.view (pending_at s.pendings added.view) added c.merge.new.self (pending_in cat s added.view p (omega arith)) q c.in_ok-merge.ensures.view
    (c.in_ok-merge.ensures.sum ∙ ap (λ (x : PendingOf). merged added.columns x.columns) (pending to) ∙ merged_swap added.columns (pending_at s.pendings added.view).columns c.requires.columns)

pub returns-in_err-merge-clause-memory : goal.returns-in_err-merge-clause-memory
returns-in_err-merge-clause-memory c = λ e.
    let to = (goal.at.returns-in_err-merge-clause-memory c).After-merge in
    let same = err_from_is_err_and c.from_residual.result c.from_residual.ensures.1 in
    subst (λ (x : PendingOf). BringsNothing c.args.added.columns x.columns → ⊥) (pending to) (c.in_err-merge.ensures.memory (ap (λ x. Err x) (sym same.2 ∙ same_err c.from_residual.result same.0 Memory same.1 e)))
