-- What is printed of what was decided.
use Rattle.std.proofs.Common.{◌≡◌, ◌∙◌, ◌++◌, ℕ, List, Ok, ap, refl, subst, sym}
use Rattle.std.specs.Prelude.{MatchResult, replicate}
use Rattle.wh_load.specs.ReadingCheck.{Inputs, inputs_of}
use Rattle.wh_load.specs.ReadingCertify.{Claim, claim_of}
use Rattle.wh_load.specs.ReadingNight.{Night}
use Rattle.wh_load.specs.ReadingPlan.{Measured, measured_of}
use Rattle.wh_maint.specs.Comp.{bag_at}
use Rattle.wh_night.specs.Serving.{rows_of}
use Rattle.wh_row.specs.Bag.{Bag}
use Rattle.wh_text_catalogue.specs.Definitions.{ViewOf}
use Rattle.wh_text_catalogue.specs.FormulaKinds.{Texts}
use Rattle.wh_strategy.specs.declared.costs.Costs.{Costs}
use Rattle.wh_strategy.specs.Prices.{Prices, prices_of}
use Rattle.whview.specs.CertifyOutput as certify
use Rattle.whview.specs.CheckOutput as check
use Rattle.whview.specs.NightOutput as night
use Rattle.whview.specs.PlanOutput as plan
use Rattle.whview.specs.Status.{status_number}
use Rattle.whview.specs.declared.certify.Outcome.{Outcome as CertifyOutcome}
use Rattle.whview.specs.declared.certify.Outcome.TheVariants as certified
use Rattle.whview.specs.declared.check.Outcome.{Outcome as CheckOutcome}
use Rattle.whview.specs.declared.check.Outcome.TheVariants as checked
use Rattle.whview.specs.declared.night.Outcome.{Outcome as NightOutcome}
use Rattle.whview.specs.declared.night.Outcome.TheVariants as carried
use Rattle.whview.specs.declared.plan.Outcome.{Outcome as PlanOutcome}
use Rattle.whview.specs.declared.plan.Outcome.TheVariants as planned
use Rattle.whview.specs.declared.status.Status.{Status}
use Rattle.whview.specs.declared.night.shown.Shown.{Shown}
use Rattle.whview.specs.declared.night.shown.Shown.TheVariants.{ChangesOf, NewTables}
use Rattle.whview.specs.declared.night_options.Printed.{Printed}
use Rattle.whview.specs.declared.night_options.Printed.TheVariants.{Changes, Tables}
use Rattle.whview.proofs.ViewsTexts.{same_views_text}

check_told : (costs : Costs) (inputs : Inputs) (o : CheckOutcome) (text : List ℕ) (s : Status) → check.IsDecided costs inputs o → text ≡ check.text_of o → s ≡ check.status_of o
    → check.IsVerdict costs inputs text (status_number s)
check_told costs inputs (checked.Correct work) text s is printed ended = check.correct is.0 (printed ∙ ap check.correct_text is.1) (ap status_number ended)
check_told costs inputs (checked.Broken rule place) text s is printed ended = check.broken rule place is printed (ap status_number ended)

pub check_answered : (costs : Costs) (bytes : List ℕ) (inputs : Inputs) (o : CheckOutcome) (text : List ℕ) (s : Status) → inputs_of bytes ≡ Ok inputs
    → check.IsDecided costs inputs o → text ≡ check.text_of o → s ≡ check.status_of o → check.IsCheckOutput costs bytes text (status_number s)
check_answered costs bytes inputs o text s read is printed ended =
    subst (λ r. MatchResult r (λ i. check.IsVerdict costs i text (status_number s)) (λ fault. check.IsFaultShown fault text (status_number s))) (sym read)
    (check_told costs inputs o text s is printed ended)

plan_told : (prices : Prices) (budget : ℕ) (measured : Measured) (o : PlanOutcome) (text : List ℕ) (s : Status) → plan.IsDecided prices budget measured o
    → text ≡ plan.text_of measured.shape.names o → s ≡ plan.status_of o → plan.IsPlanned prices budget measured text (status_number s)
plan_told prices budget measured (planned.Planned p) text s is printed ended = plan.planned p.work p.scope p.correct.list p.certificate is.0 is.1 is.2 printed (ap status_number ended)
plan_told prices budget measured (planned.Spent opened best) text s is printed ended = plan.spent opened best is.0 is.1 printed (ap status_number ended)

pub plan_answered : (costs : Costs) (budget : ℕ) (bytes : List ℕ) (measured : Measured) (o : PlanOutcome) (text : List ℕ) (s : Status) → measured_of bytes ≡ Ok measured
    → plan.IsDecided (prices_of costs) budget measured o → text ≡ plan.text_of measured.shape.names o → s ≡ plan.status_of o
    → plan.IsPlanOutput costs budget bytes text (status_number s)
plan_answered costs budget bytes measured o text s read is printed ended =
    subst (λ r. MatchResult r (λ m. plan.IsPlanned (prices_of costs) budget m text (status_number s)) (λ fault. check.IsFaultShown fault text (status_number s))) (sym read)
    (plan_told (prices_of costs) budget measured o text s is printed ended)

certify_told : (costs : Costs) (claim : Claim) (o : CertifyOutcome) (text : List ℕ) (s : Status) → certify.IsDecided costs claim o → text ≡ certify.text_of o → s ≡ certify.status_of o
    → certify.IsJudgement costs claim text (status_number s)
certify_told costs claim (certified.Broken rule place) text s is printed ended = certify.broken rule place is printed (ap status_number ended)
certify_told costs claim certified.OtherWork text s is printed ended = certify.other_work is.0 is.1 printed (ap status_number ended)
certify_told costs claim (certified.Judged work verdict) text s is printed ended =
    certify.judged verdict is.0 is.1 is.3 is.4 (printed ∙ ap (λ w. certify.verdict_text w verdict) is.2) (ap status_number ended)

pub certify_answered : (costs : Costs) (bytes : List ℕ) (claim : Claim) (o : CertifyOutcome) (text : List ℕ) (s : Status) → claim_of bytes ≡ Ok claim
    → certify.IsDecided costs claim o → text ≡ certify.text_of o → s ≡ certify.status_of o → certify.IsCertifyOutput costs bytes text (status_number s)
certify_answered costs bytes claim o text s read is printed ended =
    subst (λ r. MatchResult r (λ k. certify.IsJudgement costs k text (status_number s)) (λ fault. check.IsFaultShown fault text (status_number s))) (sym read)
    (certify_told costs claim o text s is printed ended)

-- what is shown of a night is what was to be printed of it
shown_as : (printed : Printed) (texts : Texts) (names : List (List ℕ)) (views : List ViewOf) (old new : List Bag) (shown : Shown) → night.IsShownAs printed views (bag_at old) (bag_at new) shown
    → night.shown_text shown texts names views new ≡ night.views_text (night.word_of printed) texts names 0 views (night.rows_printed printed (bag_at old) (bag_at new))
shown_as Tables texts names views old new NewTables is = refl
shown_as Tables texts names views old new (ChangesOf changes) is = cc
shown_as Changes texts names views old new NewTables is = absurd is
shown_as Changes texts names views old new (ChangesOf changes) is =
    same_views_text (night.word_of Changes) texts names views (bag_at changes.items) (night.rows_printed Changes (bag_at old) (bag_at new)) is

pub night_told : (N : Night) (printed : Printed) (readers : ℕ) (o : NightOutcome) (text : List ℕ) (s : Status) → night.IsDecided N printed readers o → text ≡ night.text_of N.shape.names o → s ≡ night.status_of o
    → night.IsNightTold N printed readers text (status_number s)
night_told N wanted readers (carried.Broken rule place) text s is printed ended = night.broken rule place is printed (ap status_number ended)
night_told N wanted readers (carried.NoContents fault) text s is printed ended = night.no_contents fault is.0 is.1 printed (ap status_number ended)
night_told N wanted readers (carried.Refused fault) text s is printed ended =
    let from = is.1 in
    night.refused from.old fault is.0 from.opened from.told from.why printed (ap status_number ended)
night_told N wanted readers (carried.Carried views texts c shown) text s is printed ended =
    let from = is.1 in
    let steps = c.report.steps.items in
    night.carried from.old c.tables.items steps is.0 from.carried
    (printed
    ∙ ap (λ vs. (night.report_text N.shape.names steps ++ night.shown_text shown texts N.shape.names vs c.tables.items) ++ night.readers_text 0 c.rows.items) from.views_read
    ∙ ap (λ ts. (night.report_text N.shape.names steps ++ night.shown_text shown ts N.shape.names N.opening.views c.tables.items) ++ night.readers_text 0 c.rows.items) from.texts_read
    ∙ ap (λ rows. (night.report_text N.shape.names steps ++ night.shown_text shown N.opening.texts N.shape.names N.opening.views c.tables.items) ++ night.readers_text 0 rows) from.given
    ∙ ap (λ tables. (night.report_text N.shape.names steps ++ tables) ++ night.readers_text 0 (replicate readers (rows_of from.old)))
    (shown_as wanted N.opening.texts N.shape.names N.opening.views from.old c.tables.items shown from.printed_as))
    (ap status_number ended)
