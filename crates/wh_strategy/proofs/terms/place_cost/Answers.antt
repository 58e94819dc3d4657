use Rattle.std.proofs.Common.{◌≡◌, ◌*◌, Some, sym, ap, ◌∙◌, subst, length, arith}
use Rattle.std.specs.Prelude.{slice_get}
use Rattle.std.specs.List.{sum_by}
use Rattle.wh_dag.specs.Shape.{Distinct, children_of}
use Rattle.wh_strategy.specs.declared.expression.Expression.TheVariants.{Comp, Inst}
use Rattle.wh_strategy.specs.Prices.{prices_of}
use Rattle.wh_strategy.specs.Sizes.{sizes_of}
use Rattle.wh_strategy.specs.Sums.{parts}
use Rattle.wh_strategy.specs.Work.{term}
use Rattle.wh_strategy.proofs.PlaceCosts.{child_within, few_sources, cost_of_comp, cost_of_inst, stands}
use Rattle.wh_strategy.proofs.terms.place_cost.Goals as goal

pub term_rows-rows-requires-clause-views : goal.term_rows-rows-requires-clause-views
term_rows-rows-requires-clause-views c =
    let at = stands c.args.list.now c.args.place c.index-list-place.result (Comp c.in-Comp.view c.in-Comp.sources) c.requires.there c.index-list-place.is c.in-Comp.is in
    let v = (c.requires.rules.allowed c.args.place c.in-Comp.view c.in-Comp.sources at).0 in
    λ k u g.
    let l = child_within c.args.children.now c.in-Comp.view k u c.of.ensures.shape v (subst (λ z. slice_get z k ≡ Some u) c.of.ensures.children g) in
    omega (arith, l, c.requires.same)

pub term_rows-rows-requires-clause-once : goal.term_rows-rows-requires-clause-once
term_rows-rows-requires-clause-once c =
    let at = stands c.args.list.now c.args.place c.index-list-place.result (Comp c.in-Comp.view c.in-Comp.sources) c.requires.there c.index-list-place.is c.in-Comp.is in
    subst Distinct (sym c.as_slice.ensures) (c.requires.rules.allowed c.args.place c.in-Comp.view c.in-Comp.sources at).2

pub term_rows-rows-requires-clause-some : goal.term_rows-rows-requires-clause-some
term_rows-rows-requires-clause-some c =
    let at = stands c.args.list.now c.args.place c.index-list-place.result (Comp c.in-Comp.view c.in-Comp.sources) c.requires.there c.index-list-place.is c.in-Comp.is in
    let some = (c.requires.rules.allowed c.args.place c.in-Comp.view c.in-Comp.sources at).1 in
    let same = ap length c.as_slice.ensures in
    omega (arith, some, same)

pub term_rows-rows-requires-clause-few : goal.term_rows-rows-requires-clause-few
term_rows-rows-requires-clause-few c =
    let at = stands c.args.list.now c.args.place c.index-list-place.result (Comp c.in-Comp.view c.in-Comp.sources) c.requires.there c.index-list-place.is c.in-Comp.is in
    let few = few_sources c.args.children.now c.args.list.now c.args.place c.in-Comp.view c.in-Comp.sources c.of.ensures.shape c.requires.rules at in
    let same = ap length c.as_slice.ensures in
    omega (arith, few, same)

pub change_rows-requires : goal.change_rows-requires
change_rows-requires c =
    let at = stands c.args.list.now c.args.place c.index-list-place.result (Inst c.in-Inst.view) c.requires.there c.index-list-place.is c.in-Inst.is in
    let v = c.requires.rules.views c.args.place c.in-Inst.view at in
    omega (arith, v, c.requires.same)

pub returns-in-Comp-clause-value : goal.returns-in-Comp-clause-value
returns-in-Comp-clause-value c =
    let at = stands c.args.list.now c.args.place c.index-list-place.result (Comp c.in-Comp.view c.in-Comp.sources) c.requires.there c.index-list-place.is c.in-Comp.is in
    ap (λ n. c.args.costs.comp * n)
    (c.term_rows-rows.ensures.value
    ∙ ap (λ own. sum_by (term (sizes_of c.args.sizes.now) c.args.list.now c.args.place own) (parts c.as_slice.result.now)) c.of.ensures.children
    ∙ ap (λ ys. sum_by (term (sizes_of c.args.sizes.now) c.args.list.now c.args.place (children_of c.args.children.now c.in-Comp.view)) (parts ys)) c.as_slice.ensures)
    ∙ sym (cost_of_comp c.args.children.now (sizes_of c.args.sizes.now) (prices_of c.args.costs) c.args.list.now c.args.place c.in-Comp.view c.in-Comp.sources at)

pub returns-in-Inst-clause-value : goal.returns-in-Inst-clause-value
returns-in-Inst-clause-value c =
    let at = stands c.args.list.now c.args.place c.index-list-place.result (Inst c.in-Inst.view) c.requires.there c.index-list-place.is c.in-Inst.is in
    ap (λ n. c.args.costs.inst * n) c.change_rows.ensures.value
    ∙ sym (cost_of_inst c.args.children.now (sizes_of c.args.sizes.now) (prices_of c.args.costs) c.args.list.now c.args.place c.in-Inst.view at)
