use Rattle.std.proofs.Common.{◌≡◌, ◌+◌, sym, ap, subst, ◌∙◌, refl, length, List, [], ◌∷◌, ◌++◌, arith}
use Rattle.wh_strategy.proofs.PlaceCosts.{stands}
use Rattle.std.proofs.lemmas.Option.{same_Some}
use Rattle.wh_strategy.specs.declared.expression.Expression.{Expression}
use Rattle.wh_strategy.specs.Expression.{At}
use Rattle.wh_maint.specs.Definition.{graph_of}
use Rattle.wh_carry.specs.Carry.{tables_after}
use Rattle.wh_carry.specs.Inner.Steps.{AreFirstSteps}
use Rattle.wh_carry.specs.Kept.{kept}
use Rattle.wh_carry.specs.Refused.{ArePassedBelow}
use Rattle.wh_carry.proofs.HandedOn.{handed_on}
use Rattle.wh_carry.proofs.Refusals.{told_first, told_next}
use Rattle.wh_carry.proofs.Nights.{expression_of, agrees_next, rows_right, passed_next, refused_next, tables_end, steps_next, steps_end}
use Rattle.wh_carry.proofs.Agreeing.{agrees_first}
use Rattle.wh_carry.proofs.carrying.carry_out.Goals as goal

pub loop-place-init : goal.loop-place-init
loop-place-init g c = record {
  parts = c.requires.parts;
  fit = c.requires.fit;
  agrees = λ old changes f. agrees_first c.args.catalog.now c.args.list.now old changes c.requires.parts.catalogue c.requires.correct _ f;
  told = λ old changes f. told_first c.args.catalog.now c.args.list.now old changes c.requires.parts.catalogue c.requires.correct _ f;
  passed = λ old changes f q e l at. absurd (omega arith);
  steps = λ old changes f. record { each = ap length c.new-steps.ensures.items; rows = λ q e l at. absurd (omega arith) };
}

pub step-requires-clause-expression : goal.step-requires-clause-expression
step-requires-clause-expression g c κs within =
    expression_of c.args.catalog.now c.args.list.now c.requires.correct c.loop-place.place c.index-list-place.result (stands c.args.list.now c.loop-place.place c.index-list-place.result _ (omega arith) c.index-list-place.is refl)

pub returns-in_err-rows-clause-refused : goal.returns-in_err-rows-clause-refused
returns-in_err-rows-clause-refused g c = handed_on _ c.from_residual.result c.in_err-rows.field-0.0 c.from_residual.ensures (λ old changes f.
    refused_next c.args.catalog.now c.args.list.now old changes c.requires.parts.catalogue c.requires.correct c.loop-place.place c.index-list-place.result (kept c.loop-place.state) c.in_err-rows.field-0.0
    (stands c.args.list.now c.loop-place.place c.index-list-place.result _ (omega arith) c.index-list-place.is refl)
    (c.loop-place.invariant.agrees old changes f) (c.loop-place.invariant.told old changes f) (c.loop-place.invariant.passed old changes f) c.in_err-rows.ensures.refused)

pub loop-place-preserved : goal.loop-place-preserved
loop-place-preserved g c =
    let cat = c.args.catalog.now in
    let list : List Expression = c.args.list.now in
    let p = c.loop-place.place in
    let is = c.requires.parts.catalogue in
    let ok = c.requires.correct in
    let e : Expression = c.index-list-place.result in
    let again : Expression = c.index-list-place-in-loop-place.result in
    let at : At list p e = stands list p e e (omega arith) c.index-list-place.is refl in
    let at_again : At list p again = stands list p again again (omega arith) c.index-list-place-in-loop-place.is refl in
    let same : c.in-Ok.expression ≡ e = c.in-Ok.ensures.copy ∙ same_Some again e (sym at_again ∙ at) in
    record {
      parts = c.in_ok-rows.ensures.parts;
      fit = c.in_ok-rows.ensures.fit;
      agrees = λ old changes f. agrees_next cat list old changes is ok p e (kept c.loop-place.state) (kept c.step.new.self) at (c.loop-place.invariant.agrees old changes f) c.in_ok-rows.ensures.done;
      told = λ old changes f. told_next cat list old changes is ok p e (kept c.loop-place.state) (kept c.step.new.self) at (c.loop-place.invariant.agrees old changes f) (c.loop-place.invariant.told old changes f) c.in_ok-rows.ensures.passed c.in_ok-rows.ensures.done;
      passed = λ old changes f. passed_next cat list old changes is ok p e (kept c.loop-place.state) at (c.loop-place.invariant.agrees old changes f) (c.loop-place.invariant.told old changes f) (c.loop-place.invariant.passed old changes f) c.in_ok-rows.ensures.passed;
      steps = λ old changes f. subst (AreFirstSteps cat.views.children list old (tables_after (graph_of cat) changes list old) (p + 1)) (sym (c.in-Ok-push.ensures.items ∙ (λ i. c.loop-place.steps.items ++ (same i, c.in_ok-rows.rows) ∷ [])))
          (steps_next cat.views.children list old (tables_after (graph_of cat) changes list old) p c.loop-place.steps.items e c.in_ok-rows.rows (c.loop-place.invariant.steps old changes f) at
          (rows_right cat list old changes is ok p e (kept c.loop-place.state) c.in_ok-rows.rows at (c.loop-place.invariant.agrees old changes f) c.in_ok-rows.ensures.rows c.in_ok-rows.ensures.few));
    }

pub returns-clause-tables : goal.returns-clause-tables
returns-clause-tables g c = λ old changes f v.
    tables_end c.args.catalog.now c.args.list.now old changes c.requires.parts.catalogue c.requires.correct c.loop-place.place (kept c.loop-place.state) (omega arith) (c.loop-place.invariant.agrees old changes f) v

pub returns-clause-steps : goal.returns-clause-steps
returns-clause-steps g c = λ old changes f.
    steps_end c.args.catalog.now.views.children c.args.list.now old (tables_after (graph_of c.args.catalog.now) changes c.args.list.now old) c.loop-place.place c.loop-place.steps.items (omega arith) (c.loop-place.invariant.steps old changes f)

pub returns-clause-passed : goal.returns-clause-passed
returns-clause-passed g c = λ old changes f.
    let e : c.loop-place.place ≡ length c.args.list.now = omega arith in
    subst (ArePassedBelow c.args.catalog.now c.args.list.now old changes) e (c.loop-place.invariant.passed old changes f)
