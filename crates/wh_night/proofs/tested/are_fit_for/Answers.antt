use Rattle.std.proofs.Common.{rules, ◌≡◌, ap, subst, sym, ◌∙◌, List, true, false}
use Rattle.std.proofs.lemmas.Bool.{false≢true}
use Rattle.wh_dag.specs.Catalog.{CatalogOf}
use Rattle.wh_strategy.specs.declared.expression.Expression.{Expression}
use Rattle.wh_strategy.specs.Rules.{IsCorrect}
use Rattle.wh_maint.specs.Comp.{bag_at}
use Rattle.wh_maint.specs.Finishing.{kind_in}
use Rattle.wh_maint.specs.Fit.{IsFitTable}
use Rattle.wh_night.proofs.FitFor.{fit_behind, fit_through, fit_where_refused}
use Rattle.wh_night.proofs.Outs.{if_ok}
use Rattle.wh_night.proofs.tested.are_fit_for.Goals as goal

pub returns-clause-fit : goal.returns-clause-fit
returns-clause-fit g c =
    let cat : CatalogOf = c.args.catalog.now in
    let list : List Expression = c.args.correct.now.list in
    let ok : IsCorrect cat.views.children list = subst (λ shape. IsCorrect shape list) c.requires.judged c.strategy.ensures.rules in
    let fit : c.in_ok-are_all_fit.field-0 ≡ true = search rules in
    if_ok _ _ c.are_all_fit-in-Ok.result
    (λ b h t. fit_through cat list c.args.tables.now (bag_at c.args.changes.now) c.shape.ensures.catalog ok c.requires.tables (c.in_ok-are_all_fit.ensures.fit.0 fit)
    (λ v l. subst (IsFitTable (kind_in cat v)) (ap (λ ts. bag_at ts v) c.deref.ensures.value ∙ c.in-Ok.ensures.carried.tables v l) (h.0 t v l)))
    c.are_all_fit-in-Ok.ensures.fit

pub returns-clause-unfit : goal.returns-clause-unfit
returns-clause-unfit g c =
    let cat : CatalogOf = c.args.catalog.now in
    let list : List Expression = c.args.correct.now.list in
    if_ok _ _ c.are_all_fit-in-Ok.result
    (λ b h unfit fits. false≢true (sym unfit ∙ h.1 (λ v l.
    subst (IsFitTable (kind_in cat v)) (sym (ap (λ ts. bag_at ts v) c.deref.ensures.value ∙ c.in-Ok.ensures.carried.tables v l))
    (fit_behind cat list c.args.tables.now c.args.changes.now c.requires.tables c.requires.changes c.in-Ok.ensures.carried.allowed c.in-Ok.ensures.carried.passed fits v))))
    c.are_all_fit-in-Ok.ensures.fit

pub returns-in_default-clause-fit : goal.returns-in_default-clause-fit
returns-in_default-clause-fit g c = λ t.
    let cat : CatalogOf = c.args.catalog.now in
    let list : List Expression = c.args.correct.now.list in
    let ok : IsCorrect cat.views.children list = subst (λ shape. IsCorrect shape list) c.requires.judged c.strategy.ensures.rules in
    let fit : c.in_ok-are_all_fit.field-0 ≡ true = search rules in
    let started : c.in-Err.refused.started ≡ false = search rules in
    fit_where_refused cat list c.args.tables.now (bag_at c.args.changes.now) c.shape.ensures.catalog ok c.requires.tables (c.in_ok-are_all_fit.ensures.fit.0 fit) c.in-Err.refused started
    (λ e. c.in_default.not-Memory e) c.in-Err.ensures.refused
