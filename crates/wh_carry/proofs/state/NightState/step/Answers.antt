use Rattle.std.proofs.Common.{◌≡◌, sym, subst, OnOk, IfOk}
use Rattle.wh_dag.specs.Shape.{has, children_of}
use Rattle.wh_maint.specs.Size.{operand_rows_of}
use Rattle.wh_carry.specs.Kept.{kept, finished}
use Rattle.wh_carry.specs.Inner.Kept.{computed, stepped, rows_in}
use Rattle.wh_strategy.specs.declared.expression.Expression.TheVariants.{Comp}
use Rattle.wh_carry.specs.Inner.Refused.{IsPassedIn}
use Rattle.wh_carry.proofs.state.NightState.step.Goals as goal

pub returns-in-Comp-clause-done : goal.returns-in-Comp-clause-done
returns-in-Comp-clause-done g c =
    let cat = c.args.catalog.now in
    let k = kept c.args.self.now in
    subst (λ e. OnOk c.carry_comp.result (kept c.carry_comp.new.self ≡ stepped cat e k)) (sym c.in-Comp.is)
    (subst (λ ys. OnOk c.carry_comp.result (kept c.carry_comp.new.self ≡ computed cat c.in-Comp.view ys (finished cat (has ys) k))) c.as_slice.ensures c.carry_comp.ensures.done)

pub returns-in-Comp-clause-rows : goal.returns-in-Comp-clause-rows
returns-in-Comp-clause-rows g c =
    let cat = c.args.catalog.now in
    let k = kept c.args.self.now in
    subst (λ e. IfOk c.carry_comp.result (λ rows. rows ≡ rows_in cat e k)) (sym c.in-Comp.is)
    (subst (λ ys. IfOk c.carry_comp.result (λ rows. rows ≡ operand_rows_of (children_of cat.views.children c.in-Comp.view) ys k.tables (finished cat (has ys) k).changes)) c.as_slice.ensures c.carry_comp.ensures.rows)

pub returns-in-Comp-clause-passed : goal.returns-in-Comp-clause-passed
returns-in-Comp-clause-passed g c =
    let cat = c.args.catalog.now in
    let k = kept c.args.self.now in
    subst (λ e. OnOk c.carry_comp.result (IsPassedIn cat k e)) (sym c.in-Comp.is)
    (subst (λ ys. OnOk c.carry_comp.result (IsPassedIn cat k (Comp c.in-Comp.view ys))) c.as_slice.ensures c.carry_comp.ensures.passed)
