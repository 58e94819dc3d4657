use Rattle.std.proofs.Common.{◌≡◌, ap, subst, ◌∙◌, List, ℕ, inr}
use Rattle.wh_dag.specs.Shape.{has, children_of}
use Rattle.wh_dag.specs.Catalog.{definition_of}
use Rattle.wh_maint.specs.View.{View}
use Rattle.wh_maint.specs.Definition.{view_of}
use Rattle.wh_maint.specs.Size.{operand_rows_of}
use Rattle.wh_maint.specs.Comp.{PendingOf, comp_columns}
use Rattle.wh_maint.specs.Refused.{IsMergeFault, MergedFit}
use Rattle.wh_carry.specs.Refused.{CanBeComputed}
use Rattle.wh_strategy.specs.declared.expression.Expression.TheVariants.{Comp}
use Rattle.wh_carry.specs.Inner.Refused.{IsAddFaultIn, IsStepFaultIn}
use Rattle.wh_carry.specs.Kept.{Kept, kept, finished}
use Rattle.wh_carry.specs.Inner.Kept.{computed}
use Rattle.wh_carry.proofs.HandedOn.{handed_on}
use Rattle.wh_carry.proofs.Storing.{sources_known, added_computes, can_finish_computed, merge_refused}
use Rattle.wh_carry.proofs.state.NightState.carry_comp.Given.{Over}
use Rattle.wh_carry.proofs.state.NightState.carry_comp.Goals.{In_ok-add}
use Rattle.wh_carry.proofs.state.NightState.carry_comp.Goals as goal

pub operand_rows-rows-requires-clause-known : goal.operand_rows-rows-requires-clause-known
operand_rows-rows-requires-clause-known g c κs within = sources_known c.args.catalog.now (kept c.args.self.now) (kept c.finish.new.self) c.args.sources.now c.in_ok-finish.ensures.done

pub compute-requires-clause-known : goal.compute-requires-clause-known
compute-requires-clause-known g c κs within = sources_known c.args.catalog.now (kept c.args.self.now) (kept c.finish.new.self) c.args.sources.now c.in_ok-finish.ensures.done

done : (g : Over) (c : In_ok-add g) → kept c.add.new.self ≡ computed c.args.catalog.now c.args.view c.args.sources.now (finished c.args.catalog.now (has c.args.sources.now) (kept c.args.self.now))
done g c =
    let cat = c.args.catalog.now in
    let v = c.args.view in
    let ys = c.args.sources.now in
    c.in_ok-add.ensures.sum
    ∙ added_computes cat (kept c.finish.new.self) v ys c.in_ok-added.added c.in_ok-added.ensures.pending.for_view.of_view c.in_ok-added.ensures.value
    ∙ ap (computed cat v ys) c.in_ok-finish.ensures.done

pub returns-clause-done : goal.returns-clause-done
returns-clause-done g c = done g (goal.at.returns-clause-done g c).In_ok-add

pub returns-clause-fit : goal.returns-clause-fit
returns-clause-fit g c =
    let to = (goal.at.returns-clause-fit g c).In_ok-add in
    can_finish_computed c.args.catalog.now (kept c.args.self.now) (kept c.add.new.self) c.args.view c.args.sources.now (has c.args.sources.now) c.requires.fit (done g to)

pub returns-clause-rows : goal.returns-clause-rows
returns-clause-rows g c =
    let ys = c.args.sources.now in
    let us : List ℕ = children_of c.args.catalog.now.views.children c.args.view in
    c.operand_rows-rows.ensures ∙ ap (λ (k : Kept). operand_rows_of us ys k.tables k.changes) c.in_ok-finish.ensures.done

pub returns-clause-passed : goal.returns-clause-passed
returns-clause-passed g c =
    let v = c.args.view in
    let ys = c.args.sources.now in
    let k : Kept = kept c.finish.new.self in
    let added : PendingOf = c.in_ok-added.added in
    let view : View = view_of (definition_of c.args.catalog.now v) in
    let us : List ℕ = children_of c.args.catalog.now.views.children v in (
      c.in_ok-finish.ensures.passed,
      subst (λ (k : Kept). CanBeComputed view us ys k.tables k.changes) c.in_ok-finish.ensures.done c.in_ok-added.ensures.passed,
      subst (λ (k : Kept). MergedFit (k.pending v) (comp_columns view us ys k.tables k.changes)) c.in_ok-finish.ensures.done
          (subst (λ cols. MergedFit (k.pending v) cols) c.in_ok-added.ensures.value (subst (λ w. MergedFit (k.pending w) added.columns) c.in_ok-added.ensures.pending.for_view.of_view c.in_ok-add.ensures.fits)),
    )

pub returns-in_err-add-clause-refused : goal.returns-in_err-add-clause-refused
returns-in_err-add-clause-refused g c =
    let cat = c.args.catalog.now in
    let v = c.args.view in
    let ys = c.args.sources.now in
    let k : Kept = kept c.finish.new.self in
    let added : PendingOf = c.in_ok-added.added in
    let fault = c.in_err-add.field-0.0 in
    handed_on (IsStepFaultIn cat (kept c.args.self.now) (Comp v ys)) c.from_residual-in_err-add.result fault c.from_residual-in_err-add.ensures (inr (
      c.in_ok-finish.ensures.passed,
      subst (λ (k : Kept). IsAddFaultIn cat k v ys fault) c.in_ok-finish.ensures.done
          (merge_refused cat k v ys fault c.in_ok-added.ensures.passed
          (subst (λ bs. IsMergeFault v (k.pending v) bs fault) c.in_ok-added.ensures.value
          (subst (λ w. IsMergeFault w (k.pending w) added.columns fault) c.in_ok-added.ensures.pending.for_view.of_view c.in_err-add.ensures.refused))),
    ))
