use Rattle.std.proofs.Common.{◌≡◌, sym, ap, ◌∙◌, cond, List, ℕ}
use Rattle.wh_dag.specs.Shape.{children_of}
use Rattle.wh_dag.specs.Catalog.{definition_of}
use Rattle.wh_maint.specs.Comp.{comp_columns}
use Rattle.wh_maint.specs.Definition.{view_of}
use Rattle.wh_carry.specs.Kept.{Kept, kept, with_pending}
use Rattle.wh_carry.specs.Inner.Kept.{computed}
use Rattle.wh_carry.proofs.Storing.{added_computes}
use Rattle.wh_carry.proofs.wave.tried.Goals as goal

pub returns-then-keeps-clause-keeps : goal.returns-then-keeps-clause-keeps
returns-then-keeps-clause-keeps g c = λ e.
    let cat = c.args.catalog.now in
    let k : Kept = kept c.args.state.now in
    let v : ℕ = c.args.job.now.view in
    let ys : List ℕ = c.args.job.now.from in
    let value : c.in-Ok.added.columns ≡ comp_columns (view_of (definition_of cat v)) (children_of cat.views.children v) c.as_slice.result.now k.tables k.changes = c.in-Ok.ensures.value in
    let value_so : c.in-Ok.added.columns ≡ comp_columns (view_of (definition_of cat v)) (children_of cat.views.children v) ys k.tables k.changes = value ∙ ap (λ ys. comp_columns (view_of (definition_of cat v)) (children_of cat.views.children v) ys k.tables k.changes) c.as_slice.ensures in
    c.set_pending.ensures.set
    ∙ ap (λ p. with_pending p k) c.in-Ok-with_added.ensures.sum
    ∙ added_computes cat k v ys c.in-Ok.added c.in-Ok.ensures.pending.for_view.of_view value_so
    ∙ ap (λ b. cond b (computed cat v ys k) k) (sym c.if-keeps.true)
