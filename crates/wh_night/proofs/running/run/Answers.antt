use Rattle.std.proofs.Common.{◌≡◌, refl, sym, ap, subst, ◌∙◌, ℕ, List, [], ◌∷◌, length, Option, Some, None, inl, inr, ⊎_elim}
use Rattle.std.proofs.lemmas.Option.{same_Some}
use Rattle.wh_maint.specs.Asked.{AreBags}
use Rattle.wh_maint.specs.Comp.{bag_at}
use Rattle.wh_maint.specs.declared.fault.MaintFault.TheVariants.{Memory}
use Rattle.wh_store.specs.Operations.{Opens}
use Rattle.wh_store.specs.Ledgers.{Ledger}
use Rattle.wh_carry.specs.Kept.{Kept, kept}
use Rattle.wh_carry.proofs.HandedOn.{handed_on}
use Rattle.wh_carry.proofs.Nights.{steps_end, tables_end}
use Rattle.wh_strategy.specs.declared.expression.Expression.{Expression}
use Rattle.wh_carry.specs.Night.{Night}
use Rattle.wh_night.specs.Tonight.{goes_out, made_by, out_below}
use Rattle.wh_night.specs.Inner.Underway.{HasCome, IsAt, IsHalted, IsStopped, behind, night_given}
use Rattle.wh_carry.specs.Steps.{AreSteps}
use Rattle.wh_night.proofs.Puts.{opening_out}
use Rattle.wh_night.proofs.StageByStage.{stopped_so}
use Rattle.wh_night.proofs.Taken.{may_commit}
use Rattle.wh_night.proofs.running.run.Goals as goal

-- a night that has only begun
begun_at : (n : Night) (before : Option Ledger) (old m : Ledger) (k : Kept) (steps : List (Expression × ℕ)) → before ≡ Some old → m ≡ goes_out old (Opens ∷ []) None → HasCome n 0 k steps → IsAt n before 0 k steps (Some m)
begun_at n before old m k steps e out come = record { come = come; out = ap Some (out ∙ (λ i. goes_out old (sym (opening_out n) i) None)) ∙ ap (λ b. behind b (out_below n 0)) (sym e) }

-- what has gone out behind what was published
out_of : (n : Night) (before : Option Ledger) (old m : Ledger) (place : ℕ) (k : Kept) (steps : List (Expression × ℕ)) → before ≡ Some old → IsAt n before place k steps (Some m) → m ≡ goes_out old (out_below n place) None
out_of n before old m place k steps e at = same_Some _ _ (at.out ∙ ap (λ b. behind b (out_below n place)) e)

-- all of it is reported
all_reported : (n : Night) (k : Kept) (steps told : List (Expression × ℕ)) → told ≡ steps → HasCome n (length n.list) k steps → AreSteps n.catalog.views.children n.list n.tables (made_by n) told
all_reported n k steps told e come =
    subst (AreSteps n.catalog.views.children n.list n.tables (made_by n)) (sym e) (steps_end n.catalog.views.children n.list n.tables (made_by n) (length n.list) steps refl come.reported)

pub through-requires-clause-begun : goal.through-requires-clause-begun
through-requires-clause-begun g c κs within =
    let r = c.requires.begins in
    record {
      given = r.given;
      fit = r.fit;
      at = begun_at (night_given c.args.asked.now.catalog.now c.args.asked.now.page_keys r.given) r.given.before (g.P.Publish.kept c.args.writer.now) (g.P.Publish.kept c.begin.new.writer) (kept c.args.progress.state) c.args.progress.steps.items r.before c.in_ok-begin.ensures.ok r.come;
    }

pub commit-requires : goal.commit-requires
commit-requires g c =
    let cat = c.args.asked.now.catalog.now in
    let r = c.requires.begins in
    may_commit cat c.args.asked.now.page_keys r.given c.args.stages.now r.fit c.requires.some (g.P.Publish.kept c.args.writer.now) (g.P.Publish.kept c.through.new.writer) r.before (length r.given.list) (kept c.through.new.progress.state) c.through.new.progress.steps.items
    (c.in_default.ensures.goes r.given r.fit.are
    (begun_at (night_given cat c.args.asked.now.page_keys r.given) r.given.before (g.P.Publish.kept c.args.writer.now) (g.P.Publish.kept c.begin.new.writer) (kept c.args.progress.state) c.args.progress.steps.items r.before c.in_ok-begin.ensures.ok r.come))

pub returns-clause-bags : goal.returns-clause-bags
returns-clause-bags g c = subst (AreBags c.args.asked.now.catalog.now) (sym c.into_tables.ensures) c.in_default.ensures.parts.tables

pub returns-clause-done : goal.returns-clause-done
returns-clause-done g c = λ t before are come.
    let old = g.P.Publish.kept c.args.writer.now in
    let n = night_given c.args.asked.now.catalog.now c.args.asked.now.page_keys t in
    let new = c.through.new.progress in
    let at = c.in_default.ensures.goes t are
    (begun_at n t.before (g.P.Publish.kept c.args.writer.now) (g.P.Publish.kept c.begin.new.writer) (kept c.args.progress.state) c.args.progress.steps.items before c.in_ok-begin.ensures.ok come) in
    let stands = at.come.stands in (
      c.in_ok-report.ensures.done n old (record { passed = at.come.passed; out = out_of n t.before old (g.P.Publish.kept c.through.new.writer) (length n.list) (kept new.state) new.steps.items before at }),
      at.come.passed,
      all_reported n (kept new.state) new.steps.items c.in_ok-report.report.steps.items c.in_ok-report.ensures.steps at.come,
      λ v. ap (λ bs. bag_at bs v) c.into_tables.ensures ∙ tables_end n.catalog n.list n.tables n.changes stands.catalogue stands.correct (length n.list) (kept new.state) refl stands.agrees v,
    )

pub returns-in_err-begin-clause-refused : goal.returns-in_err-begin-clause-refused
returns-in_err-begin-clause-refused g c =
    let f = c.in_err-begin.field-0.0 in
    handed_on _ c.from_residual.result f c.from_residual.ensures (λ t before are come allowed.
    let n = night_given c.args.asked.now.catalog.now c.args.asked.now.page_keys t in (
      c.in_err-begin.ensures.leaves n allowed,
      record { fault = Memory; told = c.in_err-begin.ensures.cause; why = inl refl },
    ))

pub returns-in_err-report-clause-refused : goal.returns-in_err-report-clause-refused
returns-in_err-report-clause-refused g c =
    handed_on _ c.from_residual-in_err-report.result c.in_err-report.field-0.0 c.from_residual-in_err-report.ensures (λ t before are come allowed.
    let n = night_given c.args.asked.now.catalog.now c.args.asked.now.page_keys t in
    let at = c.in_default.ensures.goes t are
    (begun_at n t.before (g.P.Publish.kept c.args.writer.now) (g.P.Publish.kept c.begin.new.writer) (kept c.args.progress.state) c.args.progress.steps.items before c.in_ok-begin.ensures.ok come) in
    let old = g.P.Publish.kept c.args.writer.now in
    let out = out_of n t.before old (g.P.Publish.kept c.through.new.writer) (length n.list) (kept c.through.new.progress.state) c.through.new.progress.steps.items before at in
    (c.in_err-report.ensures.leaves n old allowed (record { passed = at.come.passed; out = out }), record { fault = Memory; told = c.in_err-report.ensures.cause; why = inl refl }))

pub returns-in-Err-clause-refused : goal.returns-in-Err-clause-refused
returns-in-Err-clause-refused g c = λ t before are come allowed.
    let n = night_given c.args.asked.now.catalog.now c.args.asked.now.page_keys t in
    let old = g.P.Publish.kept c.args.writer.now in
    let stopped : IsStopped n old c.in-Err.fault (g.P.Publish.kept c.through.new.writer) = subst (λ b. IsHalted n b c.in-Err.fault (Some (g.P.Publish.kept c.through.new.writer))) before (c.in-Err.ensures.stops t are
    (begun_at n t.before (g.P.Publish.kept c.args.writer.now) (g.P.Publish.kept c.begin.new.writer) (kept c.args.progress.state) c.args.progress.steps.items before c.in_ok-begin.ensures.ok come)) in (
      c.given_up.ensures.leaves n old allowed stopped,
      record { fault = c.in-Err.fault; told = c.given_up.ensures.cause; why = ⊎_elim (λ m. inl m) (λ s. inr (s, c.given_up.ensures.started)) (stopped_so n old (g.P.Publish.kept c.through.new.writer) c.in-Err.fault stopped) },
    )
