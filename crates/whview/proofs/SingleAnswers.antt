-- The same words and bytes have one answer at most.
use Rattle.std.proofs.Common.{◌≡◌, ◌<◌, ◌≤◌, ℕ, List, [], ◌∷◌, Bool, Option, Some, None, Result, Ok, Err, true, false, refl, sym, ap, subst, ◌∙◌, inl, inr, arith}
use Rattle.std.specs.Prelude.{MatchResult, codes}
use Rattle.std.specs.Str.{bytes_eq}
use Rattle.clap.specs.Words.{IsAmong, Kinds, Row, Text}
use Rattle.clap.specs.declared.error.kind.ErrorKind.{ErrorKind}
use Rattle.wh_dag.specs.Shape.{IsShape}
use Rattle.wh_text.specs.declared.fault.LoadFault.{LoadFault}
use Rattle.wh_text_catalogue.specs.Catalogue.{shape_of}
use Rattle.wh_text_tables.specs.SizesText.{sizes_of_text}
use Rattle.wh_text_lines.specs.StrategyText.{strategy_of}
use Rattle.wh_load.specs.ReadingCheck.{Inputs, check_texts_of, inputs_in, inputs_of}
use Rattle.wh_load.specs.ReadingCertify.{Claim, claim_in, claim_of, claim_texts_of}
use Rattle.wh_load.specs.ReadingPlan.{measured_in}
use Rattle.wh_strategy.specs.declared.costs.Costs.{Costs}
use Rattle.wh_strategy.specs.declared.expression.Expression.{Expression}
use Rattle.wh_strategy.specs.Prices.{prices_of}
use Rattle.wh_strategy.specs.Sizes.{sizes_of}
use Rattle.wh_strategy.specs.Work.{work_of}
use Rattle.wh_strategy.proofs.Agreeing.{refused as refused_list}
use Rattle.wh_cert.specs.Certificate.{IsJudged}
use Rattle.wh_cert.specs.declared.certificate.Verdict.{Verdict}
use Rattle.wh_cert.specs.declared.certificate.Verdict.TheVariants.{All, OneWay, Rejected}
use Rattle.wh_cert.proofs.OneVerdict.{verdicts_same}
use Rattle.wh_text_lines.specs.PlanText.{plan_of}
use Rattle.whview.specs.CertifyOutput.{IsCertifyOutput, IsJudgement, IsLeastBy, broken as broken_claim, judged, other_work, verdict_status, verdict_text, work_at}
use Rattle.whview.specs.Status.{status_number}
use Rattle.whview.specs.CheckOutput.{IsCheckOutput, IsFaultShown, IsVerdict, broken, correct, correct_text}
use Rattle.whview.specs.CommandLine.{IsAsked, shown, usual_limit, words_fault}
use Rattle.whview.specs.FirstLine.{after_first_line, first_line_of, words_in}
use Rattle.whview.specs.NightOutput.{IsNightOutput}
use Rattle.whview.proofs.ShownCommands.{Shown, file_in, limit_in, number_at, prices_alike, print_in, shown_alike}
use Rattle.whview.proofs.SingleFaults.{one_broken, one_shown}
use Rattle.whview.proofs.SingleNights.{one_night}
use Rattle.whview.proofs.SingleReplays.{one_replay}
use Rattle.whview.proofs.SinglePlans.{as_planning, one_plan}
use Rattle.whview.specs.OneAnswer.{AreOneAnswer, AreOneAnswerTo, AreOneLineAnswer, AreSame, OneCertifyOutput, OneCheckOutput, OneHandedOutput, OneInputOutput, one_text}
use Rattle.whview.specs.Inner.Output.{is_live}
use Rattle.whview.specs.Output.{AskFor, Bytes, Failed, IsAskedOutput, IsCommandOutput, IsHandedOutput, IsInputWanted, IsLineAnswer, IsReadAnswer, IsRefused, IsSourceAnswer, IsUnopened, IsWordsAnswer, Reading, answered, file_of, limit_of, names_a_file, names_a_limit, not_text, refused, of_words, too_long, within}
use Rattle.whview.specs.declared.command_line.Asked.{Asked}
use Rattle.whview.specs.declared.command_line.Asked.TheVariants as asked
use Rattle.wh_text_catalogue.proofs.ShapesRead.{from_step, is_shape, same_Ok}

-- ---- one verdict

one_verdict : (costs : Costs) (inputs : Inputs) (text other : List ℕ) (status ended : ℕ) → IsShape inputs.measured.shape.children
    → IsVerdict costs inputs text status → IsVerdict costs inputs other ended → AreSame text status other ended
one_verdict costs inputs text other status ended sh (correct is t s) (correct is' u e) = record { texts = t ∙ sym u; statuses = s ∙ sym e }
one_verdict costs inputs text other status ended sh (correct is t s) (broken rule place f u e) = absurd (refused_list rule _ _ place sh f is)
one_verdict costs inputs text other status ended sh (broken rule place f t s) (correct is u e) = absurd (refused_list rule _ _ place sh f is)
one_verdict costs inputs text other status ended sh (broken rule place f t s) (broken rule' place' g u e) =
    record { texts = t ∙ one_broken _ _ rule rule' place place' f g ∙ sym u; statuses = s ∙ sym e }

-- ---- one output of a check

-- what is read of a bundle has a shape
shape_read : (bytes : List ℕ) (inputs : Inputs) → inputs_of bytes ≡ Ok inputs → IsShape inputs.measured.shape.children
shape_read bytes inputs e =
    let texts = from_step (check_texts_of bytes) inputs_in inputs e in
    let shape = from_step (shape_of texts.0.measured.catalogue) _ inputs texts.2 in
    let list = from_step (strategy_of shape.0.names texts.0.strategy) _ inputs shape.2 in
    let sizes = from_step (sizes_of_text shape.0.names texts.0.measured.sizes) _ inputs list.2 in
    let same = same_Ok _ _ _ refl sizes.2 in
    subst (λ i. IsShape i.measured.shape.children) same (is_shape texts.0.measured.catalogue shape.0 shape.1)

pub one_check : OneCheckOutput
one_check costs bytes text other status ended = go (inputs_of bytes) (shape_read bytes)
  where
    go : (r : Result Inputs LoadFault) → ((inputs : Inputs) → r ≡ Ok inputs → IsShape inputs.measured.shape.children)
        → MatchResult r (λ inputs. IsVerdict costs inputs text status) (λ fault. IsFaultShown fault text status)
        → MatchResult r (λ inputs. IsVerdict costs inputs other ended) (λ fault. IsFaultShown fault other ended)
        → AreSame text status other ended
    go (Ok inputs) sh f g = one_verdict costs inputs text other status ended (sh inputs refl) f g
    go (Err fault) sh f g = one_shown fault text other status ended f g

-- ---- one output of a certification

one_judgement : (costs : Costs) (claim : Claim) (text other : List ℕ) (status ended : ℕ) → IsShape claim.measured.shape.children
    → IsJudgement costs claim text status → IsJudgement costs claim other ended → AreSame text status other ended
one_judgement costs claim text other status ended sh (broken_claim rule place f t s) (broken_claim rule' place' f' t' s') = record { texts = t ∙ one_broken _ _ rule rule' place place' f f' ∙ sym t'; statuses = s ∙ sym s' }
one_judgement costs claim text other status ended sh (broken_claim rule place f t s) (other_work is' n' t' s') = absurd (refused_list rule _ _ place sh f is')
one_judgement costs claim text other status ended sh (broken_claim rule place f t s) (judged verdict' is' w' j' l' t' s') = absurd (refused_list rule _ _ place sh f is')
one_judgement costs claim text other status ended sh (other_work is n t s) (broken_claim rule' place' f' t' s') = absurd (refused_list rule' _ _ place' sh f' is)
one_judgement costs claim text other status ended sh (other_work is n t s) (other_work is' n' t' s') = record { texts = t ∙ sym t'; statuses = s ∙ sym s' }
one_judgement costs claim text other status ended sh (other_work is n t s) (judged verdict' is' w' j' l' t' s') = absurd (n w')
one_judgement costs claim text other status ended sh (judged verdict is w j l t s) (broken_claim rule' place' f' t' s') = absurd (refused_list rule' _ _ place' sh f' is)
one_judgement costs claim text other status ended sh (judged verdict is w j l t s) (other_work is' n' t' s') = absurd (n' w)
one_judgement costs claim text other status ended sh (judged verdict is w j l t s) (judged verdict' is' w' j' l' t' s') =
    let same : verdict ≡ verdict' = verdicts_same _ _ (prices_of costs) _ claim.plan.certificate verdict verdict' j j' in
    record { texts = t ∙ ap (verdict_text claim.plan.work) same ∙ sym t'; statuses = s ∙ ap (λ v. status_number (verdict_status v)) same ∙ sym s' }

-- what is read of a claim has a shape
claim_shape_read : (bytes : List ℕ) (claim : Claim) → claim_of bytes ≡ Ok claim → IsShape claim.measured.shape.children
claim_shape_read bytes claim e =
    let texts = from_step (claim_texts_of bytes) claim_in claim e in
    let measured = from_step (measured_in texts.0.measured) _ claim texts.2 in
    let shape = from_step (shape_of texts.0.measured.catalogue) _ measured.0 measured.1 in
    let sizes = from_step (sizes_of_text shape.0.names texts.0.measured.sizes) _ measured.0 shape.2 in
    let plan = from_step (plan_of measured.0.shape.names texts.0.plan) _ claim measured.2 in
    let read = same_Ok _ _ _ refl sizes.2 in
    let same = same_Ok _ _ _ refl plan.2 in
    subst (λ c. IsShape c.measured.shape.children) same
    (subst (λ m. IsShape m.shape.children) read (is_shape texts.0.measured.catalogue shape.0 shape.1))

pub one_certification : OneCertifyOutput
one_certification costs bytes text other status ended = go (claim_of bytes) (claim_shape_read bytes)
  where
    go : (r : Result Claim LoadFault) → ((claim : Claim) → r ≡ Ok claim → IsShape claim.measured.shape.children)
        → MatchResult r (λ claim. IsJudgement costs claim text status) (λ fault. IsFaultShown fault text status)
        → MatchResult r (λ claim. IsJudgement costs claim other ended) (λ fault. IsFaultShown fault other ended)
        → AreSame text status other ended
    go (Ok claim) sh f g = one_judgement costs claim text other status ended (sh claim refl) f g
    go (Err fault) sh f g = one_shown fault text other status ended f g

-- ---- one command

-- the same work at the same prices
same_work_of : (costs other : Costs) (claim : Claim) (list : List Expression) → prices_of other ≡ prices_of costs
    → work_of claim.measured.shape.children (sizes_of claim.measured.sizes) (prices_of other) list ≡ work_of claim.measured.shape.children (sizes_of claim.measured.sizes) (prices_of costs) list
same_work_of costs other claim list e = ap (λ prices. work_of claim.measured.shape.children (sizes_of claim.measured.sizes) prices list) e

same_work : (costs other : Costs) (claim : Claim) → prices_of other ≡ prices_of costs → work_at other claim ≡ work_at costs claim
same_work costs other claim e = same_work_of costs other claim claim.plan.strategy e

judged_at : (costs other : Costs) (claim : Claim) (verdict : Verdict) → prices_of other ≡ prices_of costs
    → IsJudged claim.measured.shape.children (sizes_of claim.measured.sizes) (prices_of other) (work_at other claim) claim.plan.certificate verdict
    → IsJudged claim.measured.shape.children (sizes_of claim.measured.sizes) (prices_of costs) (work_at costs claim) claim.plan.certificate verdict
judged_at costs other claim verdict e j =
    subst (λ w. IsJudged claim.measured.shape.children (sizes_of claim.measured.sizes) (prices_of costs) w claim.plan.certificate verdict) (same_work costs other claim e)
    (subst (λ prices. IsJudged claim.measured.shape.children (sizes_of claim.measured.sizes) prices (work_at other claim) claim.plan.certificate verdict) e j)

least_at : (costs other : Costs) (claim : Claim) (verdict : Verdict) → prices_of other ≡ prices_of costs → IsLeastBy other claim verdict → IsLeastBy costs claim verdict
least_at costs other claim All e least = λ list is. subst (λ work. claim.plan.work ≤ work) (same_work_of costs other claim list e) (least list is)
least_at costs other claim OneWay e least = λ list is one_way. subst (λ work. claim.plan.work ≤ work) (same_work_of costs other claim list e) (least list is one_way)
least_at costs other claim (Rejected place) e least = least

judgement_at : (costs other : Costs) (claim : Claim) (text : List ℕ) (status : ℕ) → prices_of other ≡ prices_of costs
    → IsJudgement other claim text status → IsJudgement costs claim text status
judgement_at costs other claim text status e (broken_claim rule place is t s) = broken_claim rule place is t s
judgement_at costs other claim text status e (other_work is n t s) = other_work is (λ w. n (same_work costs other claim e ∙ w)) t s
judgement_at costs other claim text status e (judged verdict is w j l t s) =
    judged verdict is (sym (same_work costs other claim e) ∙ w) (judged_at costs other claim verdict e j) (least_at costs other claim verdict e l) t s

as_certification : (costs other : Costs) (bytes text : List ℕ) (status : ℕ) → prices_of other ≡ prices_of costs
    → IsCertifyOutput other bytes text status → IsCertifyOutput costs bytes text status
as_certification costs other bytes text status e = go (claim_of bytes)
  where
    go : (r : Result Claim LoadFault) → MatchResult r (λ claim. IsJudgement other claim text status) (λ fault. IsFaultShown fault text status)
        → MatchResult r (λ claim. IsJudgement costs claim text status) (λ fault. IsFaultShown fault text status)
    go (Ok claim) is = judgement_at costs other claim text status e is
    go (Err fault) is = is

-- a verdict asks of the costs their prices alone
as_costs : (costs other : Costs) (inputs : Inputs) (text : List ℕ) (status : ℕ) → prices_of other ≡ prices_of costs
    → IsVerdict other inputs text status → IsVerdict costs inputs text status
as_costs costs other inputs text status e (correct is t s) =
    correct is (t ∙ ap (λ prices. correct_text (work_of inputs.measured.shape.children (sizes_of inputs.measured.sizes) prices inputs.list)) e) s
as_costs costs other inputs text status e (broken rule place is t s) = broken rule place is t s

as_check : (costs other : Costs) (bytes text : List ℕ) (status : ℕ) → prices_of other ≡ prices_of costs
    → IsCheckOutput other bytes text status → IsCheckOutput costs bytes text status
as_check costs other bytes text status e = go (inputs_of bytes)
  where
    go : (r : Result Inputs LoadFault) → MatchResult r (λ inputs. IsVerdict other inputs text status) (λ fault. IsFaultShown fault text status)
        → MatchResult r (λ inputs. IsVerdict costs inputs text status) (λ fault. IsFaultShown fault text status)
    go (Ok inputs) is = as_costs costs other inputs text status e is
    go (Err fault) is = is

abbrev first_letter : List ℕ → ℕ
first_letter [] = 0
first_letter (letter ∷ letters) = letter

begin_apart : (word again : List ℕ) (m n : ℕ) → first_letter word ≡ m → first_letter again ≡ n → m < n → word ≡ again → ⊥
begin_apart word again m n f g l e = let same : m ≡ n = sym f ∙ ap first_letter e ∙ g in omega arith

check_is_not_night : codes "check" ≡ codes "night" → ⊥
check_is_not_night e = begin_apart (codes "check") (codes "night") 99 110 refl refl (omega arith) e

plan_is_not_night : codes "plan" ≡ codes "night" → ⊥
plan_is_not_night e = begin_apart (codes "night") (codes "plan") 110 112 refl refl (omega arith) (sym e)

certify_is_not_night : codes "certify" ≡ codes "night" → ⊥
certify_is_not_night e = begin_apart (codes "certify") (codes "night") 99 110 refl refl (omega arith) e

check_is_not_replay : codes "check" ≡ codes "replay" → ⊥
check_is_not_replay e = begin_apart (codes "check") (codes "replay") 99 114 refl refl (omega arith) e

plan_is_not_replay : codes "plan" ≡ codes "replay" → ⊥
plan_is_not_replay e = begin_apart (codes "plan") (codes "replay") 112 114 refl refl (omega arith) e

certify_is_not_replay : codes "certify" ≡ codes "replay" → ⊥
certify_is_not_replay e = begin_apart (codes "certify") (codes "replay") 99 114 refl refl (omega arith) e

night_is_not_replay : codes "night" ≡ codes "replay" → ⊥
night_is_not_replay e = begin_apart (codes "night") (codes "replay") 110 114 refl refl (omega arith) e

check_is_not_live : codes "check" ≡ codes "live" → ⊥
check_is_not_live e = begin_apart (codes "check") (codes "live") 99 108 refl refl (omega arith) e

plan_is_not_live : codes "plan" ≡ codes "live" → ⊥
plan_is_not_live e = begin_apart (codes "live") (codes "plan") 108 112 refl refl (omega arith) (sym e)

certify_is_not_live : codes "certify" ≡ codes "live" → ⊥
certify_is_not_live e = begin_apart (codes "certify") (codes "live") 99 108 refl refl (omega arith) e

night_is_not_live : codes "night" ≡ codes "live" → ⊥
night_is_not_live e = begin_apart (codes "live") (codes "night") 108 110 refl refl (omega arith) (sym e)

replay_is_not_live : codes "replay" ≡ codes "live" → ⊥
replay_is_not_live e = begin_apart (codes "live") (codes "replay") 108 114 refl refl (omega arith) (sym e)

-- two commands that are shown alike print the same
alike_asked : (command other : Asked) → shown other ≡ shown command
    → (bytes text : List ℕ) (status : ℕ) → IsCommandOutput other bytes text status → IsCommandOutput command bytes text status
alike_asked (asked.Check costs input) (asked.Check costs' input') same bytes text status is =
    as_check costs costs' bytes text status (prices_alike costs costs' (ap (λ (s : Shown). number_at 0 s.1) same) (ap (λ (s : Shown). number_at 1 s.1) same)) is
alike_asked (asked.Certify costs input) (asked.Certify costs' input') same bytes text status is =
    as_certification costs costs' bytes text status (prices_alike costs costs' (ap (λ (s : Shown). number_at 0 s.1) same) (ap (λ (s : Shown). number_at 1 s.1) same)) is
alike_asked (asked.Plan costs budget input) (asked.Plan costs' budget' input') same bytes text status is =
    as_planning costs costs' budget.nodes budget'.nodes bytes text status
    (prices_alike costs costs' (ap (λ (s : Shown). number_at 0 s.1) same) (ap (λ (s : Shown). number_at 1 s.1) same)) (ap (λ (s : Shown). number_at 3 s.1) same) is
alike_asked (asked.Night how input) (asked.Night how' input') same bytes text status is =
    subst (λ printed. IsNightOutput printed how.readers bytes text status) (ap (λ (s : Shown). print_in s.1) same)
    (subst (λ readers. IsNightOutput how'.print readers bytes text status) (ap (λ (s : Shown). number_at 1 s.1) same) is)
alike_asked (asked.Replay input) (asked.Replay input') same bytes text status is = is
alike_asked (asked.Check costs input) (asked.Plan costs' budget' input') same bytes text status is =
    let bad : codes "plan" ≡ codes "check" = ap (λ (s : Shown). s.0) same in cc
alike_asked (asked.Check costs input) (asked.Certify costs' input') same bytes text status is =
    let bad : codes "certify" ≡ codes "check" = ap (λ (s : Shown). s.0) same in cc
alike_asked (asked.Check costs input) (asked.Night how' input') same bytes text status is = absurd (check_is_not_night (sym (ap (λ (s : Shown). s.0) same)))
alike_asked (asked.Check costs input) (asked.Replay input') same bytes text status is = absurd (check_is_not_replay (sym (ap (λ (s : Shown). s.0) same)))
alike_asked (asked.Plan costs budget input) (asked.Check costs' input') same bytes text status is =
    let bad : codes "check" ≡ codes "plan" = ap (λ (s : Shown). s.0) same in cc
alike_asked (asked.Plan costs budget input) (asked.Certify costs' input') same bytes text status is =
    let bad : codes "certify" ≡ codes "plan" = ap (λ (s : Shown). s.0) same in cc
alike_asked (asked.Plan costs budget input) (asked.Night how' input') same bytes text status is = absurd (plan_is_not_night (sym (ap (λ (s : Shown). s.0) same)))
alike_asked (asked.Plan costs budget input) (asked.Replay input') same bytes text status is = absurd (plan_is_not_replay (sym (ap (λ (s : Shown). s.0) same)))
alike_asked (asked.Certify costs input) (asked.Check costs' input') same bytes text status is =
    let bad : codes "check" ≡ codes "certify" = ap (λ (s : Shown). s.0) same in cc
alike_asked (asked.Certify costs input) (asked.Plan costs' budget' input') same bytes text status is =
    let bad : codes "plan" ≡ codes "certify" = ap (λ (s : Shown). s.0) same in cc
alike_asked (asked.Certify costs input) (asked.Night how' input') same bytes text status is = absurd (certify_is_not_night (sym (ap (λ (s : Shown). s.0) same)))
alike_asked (asked.Certify costs input) (asked.Replay input') same bytes text status is = absurd (certify_is_not_replay (sym (ap (λ (s : Shown). s.0) same)))
alike_asked (asked.Night how input) (asked.Check costs' input') same bytes text status is = absurd (check_is_not_night (ap (λ (s : Shown). s.0) same))
alike_asked (asked.Night how input) (asked.Plan costs' budget' input') same bytes text status is = absurd (plan_is_not_night (ap (λ (s : Shown). s.0) same))
alike_asked (asked.Night how input) (asked.Certify costs' input') same bytes text status is = absurd (certify_is_not_night (ap (λ (s : Shown). s.0) same))
alike_asked (asked.Night how input) (asked.Replay input') same bytes text status is = absurd (night_is_not_replay (sym (ap (λ (s : Shown). s.0) same)))
alike_asked (asked.Replay input) (asked.Check costs' input') same bytes text status is = absurd (check_is_not_replay (ap (λ (s : Shown). s.0) same))
alike_asked (asked.Replay input) (asked.Plan costs' budget' input') same bytes text status is = absurd (plan_is_not_replay (ap (λ (s : Shown). s.0) same))
alike_asked (asked.Replay input) (asked.Certify costs' input') same bytes text status is = absurd (certify_is_not_replay (ap (λ (s : Shown). s.0) same))
alike_asked (asked.Replay input) (asked.Night how' input') same bytes text status is = absurd (night_is_not_replay (ap (λ (s : Shown). s.0) same))
alike_asked (asked.Live how input) (asked.Live how' input') same bytes text status is = is
alike_asked (asked.Check costs input) (asked.Live how' input') same bytes text status is = absurd (check_is_not_live (sym (ap (λ (s : Shown). s.0) same)))
alike_asked (asked.Live how input) (asked.Check costs' input') same bytes text status is = absurd (check_is_not_live (ap (λ (s : Shown). s.0) same))
alike_asked (asked.Plan costs budget input) (asked.Live how' input') same bytes text status is = absurd (plan_is_not_live (sym (ap (λ (s : Shown). s.0) same)))
alike_asked (asked.Live how input) (asked.Plan costs' budget' input') same bytes text status is = absurd (plan_is_not_live (ap (λ (s : Shown). s.0) same))
alike_asked (asked.Certify costs input) (asked.Live how' input') same bytes text status is = absurd (certify_is_not_live (sym (ap (λ (s : Shown). s.0) same)))
alike_asked (asked.Live how input) (asked.Certify costs' input') same bytes text status is = absurd (certify_is_not_live (ap (λ (s : Shown). s.0) same))
alike_asked (asked.Night how input) (asked.Live how' input') same bytes text status is = absurd (night_is_not_live (sym (ap (λ (s : Shown). s.0) same)))
alike_asked (asked.Live how input) (asked.Night how' input') same bytes text status is = absurd (night_is_not_live (ap (λ (s : Shown). s.0) same))
alike_asked (asked.Replay input) (asked.Live how' input') same bytes text status is = absurd (replay_is_not_live (sym (ap (λ (s : Shown). s.0) same)))
alike_asked (asked.Live how input) (asked.Replay input') same bytes text status is = absurd (replay_is_not_live (ap (λ (s : Shown). s.0) same))

-- two commands that the same words ask for print the same
one_asked : (found : Option (Text × List Row)) (command other : Asked) → IsAsked found command → IsAsked found other
    → (bytes text : List ℕ) (status : ℕ) → IsCommandOutput other bytes text status → IsCommandOutput command bytes text status
one_asked found command other f g = alike_asked command other (shown_alike found command other f g)

-- what has one text and one status is one answer
as_one : (command : Asked) (bytes text other : List ℕ) (status ended : ℕ) → AreSame text status other ended → AreOneAnswer command bytes text status other ended
as_one (asked.Check costs input) bytes text other status ended same = same
as_one (asked.Plan costs budget input) bytes text other status ended same = one_text same
as_one (asked.Certify costs input) bytes text other status ended same = same
as_one (asked.Night how input) bytes text other status ended same = same
as_one (asked.Replay input) bytes text other status ended same = same
as_one (asked.Live how input) bytes text other status ended same = same

-- that `live` needs a file is told by one text
one_wanted : (text other : List ℕ) (status ended : ℕ) → IsInputWanted text status → IsInputWanted other ended → AreSame text status other ended
one_wanted text other status ended f g = record { texts = f.printed ∙ sym g.printed; statuses = f.ended ∙ sym g.ended }

one_output : (command : Asked) (bytes text other : List ℕ) (status ended : ℕ) → IsCommandOutput command bytes text status → IsCommandOutput command bytes other ended → AreOneAnswer command bytes text status other ended
one_output (asked.Check costs input) bytes text other status ended f g = one_check costs bytes text other status ended f g
one_output (asked.Plan costs budget input) bytes text other status ended f g = one_plan costs budget.nodes bytes text other status ended f g
one_output (asked.Certify costs input) bytes text other status ended f g = one_certification costs bytes text other status ended f g
one_output (asked.Night how input) bytes text other status ended f g = one_night how.print how.readers bytes text other status ended f g
one_output (asked.Replay input) bytes text other status ended f g = one_replay bytes text other status ended f g
one_output (asked.Live how input) bytes text other status ended f g = one_wanted text other status ended f g

file_shown : (command : Asked) → file_of command ≡ file_in (shown command).1
file_shown (asked.Check costs input) = refl
file_shown (asked.Plan costs budget input) = refl
file_shown (asked.Certify costs input) = refl
file_shown (asked.Night how input) = refl
file_shown (asked.Replay input) = refl
file_shown (asked.Live how input) = refl

-- two commands that the same words ask for read the same
one_file : (found : Option (Text × List Row)) (command other : Asked) → IsAsked found command → IsAsked found other → file_of other ≡ file_of command
one_file found command other f g =
    file_shown other ∙ ap (λ (s : Shown). file_in s.1) (shown_alike found command other f g) ∙ sym (file_shown command)

limit_shown : (command : Asked) → limit_of command ≡ limit_in (shown command)
limit_shown (asked.Check costs input) = refl
limit_shown (asked.Plan costs budget input) = refl
limit_shown (asked.Certify costs input) = refl
limit_shown (asked.Night how input) = refl
limit_shown (asked.Replay input) = refl
limit_shown (asked.Live how input) = refl

-- up to the same limit
one_limit : (found : Option (Text × List Row)) (command other : Asked) → IsAsked found command → IsAsked found other → limit_of other ≡ limit_of command
one_limit found command other f g = limit_shown other ∙ ap limit_in (shown_alike found command other f g) ∙ sym (limit_shown command)

-- ---- one answer to what was read

one_read : (limit : ℕ) (reading : Reading) (of : List ℕ → List ℕ → ℕ → Type 0) (one : List ℕ → List ℕ → ℕ → List ℕ → ℕ → Type 0) (text other : List ℕ) (status ended : ℕ)
    → ((bytes : List ℕ) → AreSame text status other ended → one bytes text status other ended)
    → ((bytes : List ℕ) → of bytes text status → of bytes other ended → one bytes text status other ended)
    → IsReadAnswer limit reading of text status → IsReadAnswer limit reading of other ended → AreOneAnswerTo reading one text status other ended
one_read limit Failed of one text other status ended same both f g = one_shown _ text other status ended f g
one_read limit (Bytes bytes) of one text other status ended same both (too_long l f) (too_long m g) = same bytes (one_shown _ text other status ended f g)
one_read limit (Bytes bytes) of one text other status ended same both (too_long l f) (within m g) = let bad : ⊥ = omega arith in absurd bad
one_read limit (Bytes bytes) of one text other status ended same both (within l f) (too_long m g) = let bad : ⊥ = omega arith in absurd bad
one_read limit (Bytes bytes) of one text other status ended same both (within l f) (within m g) = both bytes f g

read_as : (limit : ℕ) (reading : Reading) (of to : List ℕ → List ℕ → ℕ → Type 0) (text : List ℕ) (status : ℕ) → ((bytes : List ℕ) → of bytes text status → to bytes text status)
    → IsReadAnswer limit reading of text status → IsReadAnswer limit reading to text status
read_as limit Failed of to text status turn f = f
read_as limit (Bytes bytes) of to text status turn (too_long l f) = too_long l f
read_as limit (Bytes bytes) of to text status turn (within l f) = within l (turn bytes f)

-- ---- words that were handed in

none_refused : (kinds : Kinds) (k : ErrorKind) → kinds ≡ [] → IsAmong k kinds → ⊥
none_refused [] k e among = among
none_refused (x ∷ xs) k e among = cc

not_refused : (words : List (List ℕ)) (status : ℕ) → words_fault words ≡ [] → IsRefused words status → ⊥
not_refused words status taken is = none_refused _ is.kind taken is.found

from_reader : (command : Asked) (file : Option (List ℕ)) (reading : Reading) (text : List ℕ) (status : ℕ) → file ≡ None
    → IsSourceAnswer command file reading text status → IsReadAnswer (limit_of command) reading (IsCommandOutput command) text status
from_reader command None reading text status e is = is
from_reader command (Some path) reading text status e is = let bad : ⊥ = cc in absurd bad

-- what is printed of a command other than `live`, where this was read of a reader or a file
once : (command : Asked) (reading : Reading) (text : List ℕ) (status : ℕ) → is_live command ≡ false
    → IsAskedOutput command reading text status → IsSourceAnswer command (file_of command) reading text status
once (asked.Check costs input) reading text status e is = is
once (asked.Plan costs budget input) reading text status e is = is
once (asked.Certify costs input) reading text status e is = is
once (asked.Night how input) reading text status e is = is
once (asked.Replay input) reading text status e is = is
once (asked.Live how input) reading text status e is = let bad : true ≡ false = e in cc

unopened : (file : Option (List ℕ)) (text : List ℕ) (status : ℕ) → file ≡ None → IsUnopened file text status → IsInputWanted text status
unopened None text status e is = is
unopened (Some path) text status e is = absurd is

-- and what is printed of `live` where it names no file
wanted : (command : Asked) (reading : Reading) (text : List ℕ) (status : ℕ) → is_live command ≡ true → file_of command ≡ None
    → IsAskedOutput command reading text status → IsInputWanted text status
wanted (asked.Live how input) reading text status e none is = unopened (file_of (asked.Live how input)) text status none is
wanted (asked.Check costs input) reading text status e none is = let bad : false ≡ true = e in cc
wanted (asked.Plan costs budget input) reading text status e none is = let bad : false ≡ true = e in cc
wanted (asked.Certify costs input) reading text status e none is = let bad : false ≡ true = e in cc
wanted (asked.Night how input) reading text status e none is = let bad : false ≡ true = e in cc
wanted (asked.Replay input) reading text status e none is = let bad : false ≡ true = e in cc

live_shown : (command : Asked) → is_live command ≡ bytes_eq (shown command).0 (codes "live")
live_shown (asked.Check costs input) = refl
live_shown (asked.Plan costs budget input) = refl
live_shown (asked.Certify costs input) = refl
live_shown (asked.Night how input) = refl
live_shown (asked.Replay input) = refl
live_shown (asked.Live how input) = refl

-- two commands that the same words ask for are `live`, or neither is
one_kind : (found : Option (Text × List Row)) (command other : Asked) → IsAsked found command → IsAsked found other → is_live other ≡ is_live command
one_kind found command other f g =
    live_shown other ∙ ap (λ (s : Shown). bytes_eq s.0 (codes "live")) (shown_alike found command other f g) ∙ sym (live_shown command)

-- the command that the words ask for, of which this is printed
handed : (words : List (List ℕ)) (reading : Reading) (text : List ℕ) (status : ℕ) → words_fault words ≡ [] → IsHandedOutput words reading text status
    → (command : Asked) × AskFor words command × IsAskedOutput command reading text status
handed words reading text status taken (refused refusal) = absurd (not_refused words status taken refusal)
handed words reading text status taken (answered command ask is) = (command, ask, is)

-- the answer is that of the command that the words ask for
handed_once : (words : List (List ℕ)) (command : Asked) (reading : Reading) (text : List ℕ) (status : ℕ) → AskFor words command → file_of command ≡ None → is_live command ≡ false
    → IsHandedOutput words reading text status → IsReadAnswer (limit_of command) reading (IsCommandOutput command) text status
handed_once words command reading text status ask none other f =
    let own = handed words reading text status ask.taken f in
    read_as (limit_of command) reading (IsCommandOutput own.0) (IsCommandOutput command) text status (λ bytes. one_asked _ command own.0 ask.asked own.1.asked bytes text status)
    (subst (λ limit. IsReadAnswer limit reading (IsCommandOutput own.0) text status) (one_limit _ command own.0 ask.asked own.1.asked)
    (from_reader own.0 (file_of own.0) reading text status (one_file _ command own.0 ask.asked own.1.asked ∙ none)
    (once own.0 reading text status (one_kind _ command own.0 ask.asked own.1.asked ∙ other) own.2)))

handed_live : (words : List (List ℕ)) (command : Asked) (reading : Reading) (text : List ℕ) (status : ℕ) → AskFor words command → file_of command ≡ None → is_live command ≡ true
    → IsHandedOutput words reading text status → IsInputWanted text status
handed_live words command reading text status ask none same f =
    let own = handed words reading text status ask.taken f in
    wanted own.0 reading text status (one_kind _ command own.0 ask.asked own.1.asked ∙ same) (one_file _ command own.0 ask.asked own.1.asked ∙ none) own.2

same_to : (command : Asked) (reading : Reading) (text other : List ℕ) (status ended : ℕ) → AreSame text status other ended
    → AreOneAnswerTo reading (AreOneAnswer command) text status other ended
same_to command Failed text other status ended same = same
same_to command (Bytes bytes) text other status ended same = as_one command bytes text other status ended same

pub one_handed : OneHandedOutput
one_handed words command reading text other status ended ask none f g = by (is_live command) refl
  where
    by : (b : Bool) → is_live command ≡ b → AreOneAnswerTo reading (AreOneAnswer command) text status other ended
    by true e =
        same_to command reading text other status ended
        (one_wanted text other status ended (handed_live words command reading text status ask none e f) (handed_live words command reading other ended ask none e g))
    by false e =
        one_read (limit_of command) reading (IsCommandOutput command) (AreOneAnswer command) text other status ended
        (λ bytes. as_one command bytes text other status ended)
        (λ bytes. one_output command bytes text other status ended)
        (handed_once words command reading text status ask none e f)
        (handed_once words command reading other ended ask none e g)

-- ---- an input whose first line gives the words

one_words : (input text other : List ℕ) (status ended : ℕ)
    → IsWordsAnswer (words_in (first_line_of input)) (λ command. IsCommandOutput command (after_first_line input)) text status
    → IsWordsAnswer (words_in (first_line_of input)) (λ command. IsCommandOutput command (after_first_line input)) other ended
    → AreOneLineAnswer input text status other ended
one_words input text other status ended (refused f) (refused g) = inr (inr (f, g))
one_words input text other status ended (refused f) (answered c ask g) = absurd (not_refused _ status ask.taken f)
one_words input text other status ended (answered c ask f) (refused g) = absurd (not_refused _ ended ask.taken g)
one_words input text other status ended (answered c ask f) (answered d again g) =
    inr (inl (c, ask, one_output c _ text other status ended f (one_asked _ c d ask.asked again.asked _ other ended g)))

one_line_answer : (input text other : List ℕ) (status ended : ℕ) → IsLineAnswer input text status → IsLineAnswer input other ended → AreOneLineAnswer input text status other ended
one_line_answer input text other status ended (not_text u f s) (not_text u' g e) = inl (record { texts = f ∙ sym g; statuses = s ∙ sym e })
one_line_answer input text other status ended (not_text u f s) (names_a_file u' n' g e) = let bad : false ≡ true = sym u ∙ u' in cc
one_line_answer input text other status ended (not_text u f s) (names_a_limit u' n' m' g e) = let bad : false ≡ true = sym u ∙ u' in cc
one_line_answer input text other status ended (not_text u f s) (of_words u' n' m' g) = let bad : false ≡ true = sym u ∙ u' in cc
one_line_answer input text other status ended (names_a_file u n f s) (not_text u' g e) = let bad : false ≡ true = sym u' ∙ u in cc
one_line_answer input text other status ended (names_a_file u n f s) (names_a_file u' n' g e) = inl (record { texts = f ∙ sym g; statuses = s ∙ sym e })
one_line_answer input text other status ended (names_a_file u n f s) (names_a_limit u' n' m' g e) = let bad : true ≡ false = sym n ∙ n' in cc
one_line_answer input text other status ended (names_a_file u n f s) (of_words u' n' m' g) = let bad : true ≡ false = sym n ∙ n' in cc
one_line_answer input text other status ended (names_a_limit u n m f s) (not_text u' g e) = let bad : false ≡ true = sym u' ∙ u in cc
one_line_answer input text other status ended (names_a_limit u n m f s) (names_a_file u' n' g e) = let bad : true ≡ false = sym n' ∙ n in cc
one_line_answer input text other status ended (names_a_limit u n m f s) (names_a_limit u' n' m' g e) = inl (record { texts = f ∙ sym g; statuses = s ∙ sym e })
one_line_answer input text other status ended (names_a_limit u n m f s) (of_words u' n' m' g) = let bad : true ≡ false = sym m ∙ m' in cc
one_line_answer input text other status ended (of_words u n m f) (not_text u' g e) = let bad : false ≡ true = sym u' ∙ u in cc
one_line_answer input text other status ended (of_words u n m f) (names_a_file u' n' g e) = let bad : true ≡ false = sym n' ∙ n in cc
one_line_answer input text other status ended (of_words u n m f) (names_a_limit u' n' m' g e) = let bad : true ≡ false = sym m' ∙ m in cc
one_line_answer input text other status ended (of_words u n m f) (of_words u' n' m' g) = one_words input text other status ended f g

pub one_line : OneInputOutput
one_line reading text other status ended f g =
    one_read usual_limit reading IsLineAnswer AreOneLineAnswer text other status ended (λ bytes same. inl same) (λ bytes. one_line_answer bytes text other status ended) f g
