use Rattle.std.proofs.Common.{rules, refl, ap, subst, ◌∙◌, eqb, inr}
use Rattle.std.proofs.lemmas.Bool.{eq-eqb, or_left}
use Rattle.wh_row.specs.Bag.{SumFits, size}
use Rattle.wh_maint.specs.Refused.{IsInstallFault}
use Rattle.wh_carry.specs.Kept.{Kept, kept, installed}
use Rattle.wh_strategy.specs.declared.expression.Expression.TheVariants.{Inst}
use Rattle.wh_carry.specs.Inner.Refused.{IsStepFaultIn}
use Rattle.wh_carry.proofs.HandedOn.{handed_on}
use Rattle.wh_carry.proofs.Storing.{can_finish_installed}
use Rattle.wh_night.proofs.insts.install.Goals as goal

pub change-requires-clause-known : goal.change-requires-clause-known
change-requires-clause-known g c = ap (λ (k : Kept). k.known c.args.view) c.in_ok-finish_one.ensures.done ∙ or_left (eqb c.args.view c.args.view) ((kept c.args.progress.now.state).known c.args.view) (eq-eqb c.args.view c.args.view refl)

pub install-requires-clause-known : goal.install-requires-clause-known
install-requires-clause-known g c = ap (λ (k : Kept). k.known c.args.view) c.in_ok-finish_one.ensures.done ∙ or_left (eqb c.args.view c.args.view) ((kept c.args.progress.now.state).known c.args.view) (eq-eqb c.args.view c.args.view refl)

pub returns-in_err-install-clause-refused : goal.returns-in_err-install-clause-refused
returns-in_err-install-clause-refused g c =
    let v = c.args.view in
    let fault = c.in_err-install.field-0.0 in
    handed_on (IsStepFaultIn c.args.asked.now.catalog.now (kept c.args.progress.now.state) (Inst v)) c.from_residual-in_err-install.result fault c.from_residual-in_err-install.ensures
    (inr (c.in_ok-finish_one.ensures.passed, subst (λ (k : Kept). IsInstallFault v (k.tables v) (k.changes v) fault) c.in_ok-finish_one.ensures.done c.in_err-install.ensures.refused))

pub returns-in_default-clause-refused : goal.returns-in_default-clause-refused
returns-in_default-clause-refused g c =
    let v = c.args.view in
    inr (c.in_ok-finish_one.ensures.passed, subst (λ (k : Kept). SumFits (k.tables v) (k.changes v)) c.in_ok-finish_one.ensures.done c.in_ok-install.ensures.fits)

pub returns-clause-done : goal.returns-clause-done
returns-clause-done g c = c.in_ok-install.ensures.done ∙ ap (installed c.args.view) c.in_ok-finish_one.ensures.done

pub returns-clause-fit : goal.returns-clause-fit
returns-clause-fit g c =
    can_finish_installed c.args.asked.now.catalog.now (kept c.args.progress.now.state) (kept c.install.new.self) c.args.view c.requires.fit (c.in_ok-install.ensures.done ∙ ap (installed c.args.view) c.in_ok-finish_one.ensures.done)

pub returns-clause-passed : goal.returns-clause-passed
returns-clause-passed g c =
    let v = c.args.view in
    (c.in_ok-finish_one.ensures.passed, subst (λ (k : Kept). SumFits (k.tables v) (k.changes v)) c.in_ok-finish_one.ensures.done c.in_ok-install.ensures.fits)

pub returns-clause-reported : goal.returns-clause-reported
returns-clause-reported g c =
    let v = c.args.view in
    record {
      told = c.total-rows.result;
      is = c.total-rows.ensures ∙ ap size c.change.ensures ∙ ap (λ (k : Kept). size (k.changes v)) c.in_ok-finish_one.ensures.done;
      few = search rules;
      steps = c.in-Ok.ensures.items;
    }
