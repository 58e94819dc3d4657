use Rattle.std.proofs.Common.{◌≡◌, sym, subst, ◌∙◌, true}
use Rattle.wh_dag.specs.Shape.{children_of}
use Rattle.wh_dag.specs.Catalog.{is_base}
use Rattle.wh_maint.specs.View.{Joined}
use Rattle.wh_maint.specs.Finishing.{kind_in}
use Rattle.wh_maint.specs.Fit.{IsFitTable}
use Rattle.wh_maint.proofs.FromScratch.{catalogs_are_graphs}
use Rattle.wh_carry.proofs.Agreeing.{a_base}
use Rattle.wh_carry.proofs.fit.is_fit_view.Goals as goal

pub returns-then-is_base-clause-fit : goal.returns-then-is_base-clause-fit
returns-then-is_base-clause-fit g c =
    let cat = c.args.catalog.now in
    let v = c.args.view in
    let base : is_base cat v ≡ true = sym c.is_base.ensures ∙ c.if-is_base.true in
    let joined : kind_in cat v ≡ Joined = (catalogs_are_graphs cat c.shape-shape.ensures.catalog).bases v (a_base (children_of cat.views.children v) base) in
    (λ t. subst (λ k. IsFitTable k c.args.table.now) (sym joined) (c.is_table.ensures.0 t), λ f. c.is_table.ensures.1 (subst (λ k. IsFitTable k c.args.table.now) joined f))
