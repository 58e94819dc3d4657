-- The same bytes have one answer of `replay`.
use Rattle.std.proofs.Common.{◌≡◌, ◌∙◌, ◌||◌, ℕ, List, [], ◌∷◌, Bool, true, false, Result, Ok, Err, ap, refl, subst, sym, ⊎_elim}
use Rattle.std.specs.Prelude.{MatchResult}
use Rattle.std.specs.List.{list_any}
use Rattle.wh_dag.specs.Shape.{IsShape}
use Rattle.wh_text.specs.declared.fault.LoadFault.{LoadFault}
use Rattle.wh_text_bundle.specs.declared.bundle.fault.Nights.TheVariants as nights
use Rattle.wh_text_bundle.specs.declared.bundle.heading.Heading.TheVariants as heading
use Rattle.wh_text_bundle.specs.declared.bundle.part.Part.{Part}
use Rattle.wh_text_catalogue.proofs.DefinitionsFit.{are-definitions}
use Rattle.wh_text_catalogue.proofs.ShapesRead.{from_step, same_Ok}
use Rattle.wh_text_catalogue.specs.Catalogue.{shape_of}
use Rattle.wh_text_catalogue.specs.Definitions.{ViewOf, definitions_of}
use Rattle.wh_text_catalogue.specs.FormulaKinds.{Texts}
use Rattle.wh_core.proofs.Ones.{replies_are_one}
use Rattle.wh_core.specs.Log.{Log, logged}
use Rattle.wh_core.specs.Nights.{Setup}
use Rattle.wh_core.specs.Replies.{IsMemory, IsRunFrom}
use Rattle.wh_core.specs.declared.event.Event.{Event}
use Rattle.wh_core.specs.declared.reply.Reply.{Reply}
use Rattle.wh_dag.specs.Shape.{Views}
use Rattle.wh_load.specs.ReadingNight.{GivenNight, tables_of}
use Rattle.wh_load.specs.ReadingParts.{parts_in, text_in}
use Rattle.wh_load.specs.ReadingReplay.{Replay, nights_after, replay_in, replay_of, replay_over, strategies_in}
use Rattle.wh_text_lines.specs.ScheduleText.{schedule_of}
use Rattle.wh_strategy.proofs.Agreeing.{refused as not_correct}
use Rattle.wh_strategy.specs.declared.rule.Rule.{Rule}
use Rattle.whview.proofs.SingleFaults.{one_broken, one_shown}
use Rattle.whview.proofs.SingleNights.{never_opened, one_lack, same_opening}
use Rattle.whview.specs.CheckOutput.{IsFaultShown, broken_text}
use Rattle.whview.specs.NightOutput.{graph_over, refused_text}
use Rattle.whview.specs.OneAnswer.{AreSame, OneReplayOutput}
use Rattle.whview.specs.ReplayOutput.{AreCorrect, IsFirstBrokenNight, IsReplayTold, broken, events_of, is_memory, no_contents, replayed, setup_of}
use Rattle.wh_replies.specs.ReplyText.{replies_text}
use Rattle.wh_maint.specs.Comp.{bag_at}

-- ---- one run

or_first : (a b : Bool) → a || b ≡ false → a ≡ false
or_first false b e = refl
or_first true b e = let bad : true ≡ false = e in cc

or_second : (a b : Bool) → a || b ≡ false → b ≡ false
or_second false b e = e
or_second true b e = let bad : true ≡ false = e in cc

not_told : (r : Reply) → IsMemory r → is_memory r ≡ false → ⊥
not_told r m e = let bad : true ≡ false = sym (ap is_memory m) ∙ e in cc

one_run : (s : Setup) (log : Log) (events : List Event) (replies others : List Reply) → IsRunFrom s log events replies → IsRunFrom s log events others
    → list_any is_memory replies ≡ false → list_any is_memory others ≡ false → replies ≡ others
unfolding IsRunFrom
one_run s log [] [] [] a b m n = refl
one_run s log [] [] (o ∷ others) a b m n = absurd b
one_run s log [] (r ∷ replies) others a b m n = absurd a
one_run s log (event ∷ events) [] others a b m n = absurd a
one_run s log (event ∷ events) (r ∷ replies) [] a b m n = absurd b
one_run s log (event ∷ events) (r ∷ replies) (o ∷ others) a b m n =
    ⊎_elim
    (λ same. ap (λ x. x ∷ replies) same
    ∙ ap (λ xs. o ∷ xs) (one_run s (logged log event o) events replies others (subst (λ x. IsRunFrom s (logged log event x) events replies) same a.1) b.1
    (or_second (is_memory r) (list_any is_memory replies) m) (or_second (is_memory o) (list_any is_memory others) n)))
    (λ lacks. ⊎_elim
    (λ l. absurd (not_told r l (or_first (is_memory r) (list_any is_memory replies) m)))
    (λ l. absurd (not_told o l (or_first (is_memory o) (list_any is_memory others) n)))
    lacks)
    (replies_are_one s log event r o a.0 b.0)

-- ---- one night that is broken first

broken_night : (children : List (List ℕ)) → IsShape children → (nights : List GivenNight) (rule other : Rule) (place ended : ℕ) → IsFirstBrokenNight children nights rule place → IsFirstBrokenNight children nights other ended
    → broken_text rule place ≡ broken_text other ended
broken_night children is [] rule other place ended f g = absurd f
broken_night children is (night ∷ nights) rule other place ended f g =
    ⊎_elim
    (λ a. ⊎_elim
    (λ b. one_broken children night.list rule other place ended a b)
    (λ b. absurd (not_correct rule children night.list place is a b.0)) g)
    (λ a. ⊎_elim
    (λ b. absurd (not_correct other children night.list ended is b a.0))
    (λ b. broken_night children is nights rule other place ended a.1 b.1) g)
    f

none_broken : (children : List (List ℕ)) → IsShape children → (nights : List GivenNight) (rule : Rule) (place : ℕ) → IsFirstBrokenNight children nights rule place → AreCorrect children nights → ⊥
none_broken children is [] rule place f ok = f
none_broken children is (night ∷ nights) rule place f ok =
    ⊎_elim (λ a. not_correct rule children night.list place is a ok.0) (λ a. none_broken children is nights rule place a.1 ok.1) f

-- ---- one answer

one_told : (r : Replay) (text other : List ℕ) (status ended : ℕ) → IsShape r.shape.children → IsReplayTold r text status → IsReplayTold r other ended → AreSame text status other ended
one_told r text other status ended is (broken rule place f t s) (broken rule' place' f' t' s') =
    record { texts = t ∙ broken_night r.shape.children is r.nights rule rule' place place' f f' ∙ sym t'; statuses = s ∙ sym s' }
one_told r text other status ended is (broken rule place f t s) (no_contents fault' ok' h' t' s') = absurd (none_broken r.shape.children is r.nights rule place f ok')
one_told r text other status ended is (broken rule place f t s) (replayed tables' replies' ok' o' fits' run' comes' m' t' s') = absurd (none_broken r.shape.children is r.nights rule place f ok')
one_told r text other status ended is (no_contents fault ok h t s) (broken rule' place' f' t' s') = absurd (none_broken r.shape.children is r.nights rule' place' f' ok)
one_told r text other status ended is (no_contents fault ok h t s) (no_contents fault' ok' h' t' s') =
    record { texts = t ∙ ap (refused_text r.shape.names) (one_lack (graph_over r.shape r.opening) (bag_at r.opening.tables) fault fault' h h') ∙ sym t'; statuses = s ∙ sym s' }
one_told r text other status ended is (no_contents fault ok h t s) (replayed tables' replies' ok' o' fits' run' comes' m' t' s') = absurd (never_opened r.shape r.opening fault tables' h o')
one_told r text other status ended is (replayed tables replies ok o fits run comes m t s) (broken rule' place' f' t' s') = absurd (none_broken r.shape.children is r.nights rule' place' f' ok)
one_told r text other status ended is (replayed tables replies ok o fits run comes m t s) (no_contents fault' ok' h' t' s') = absurd (never_opened r.shape r.opening fault' tables h' o)
one_told r text other status ended is (replayed tables replies ok o fits run comes m t s) (replayed tables' replies' ok' o' fits' run' comes' m' t' s') =
    let opened : tables' ≡ tables = same_opening r.shape r.opening tables' tables o' o in
    let again = subst (λ ts. IsRunFrom (setup_of r ts) [] (events_of r) replies') opened run' in
    record { texts = t ∙ ap replies_text (one_run (setup_of r tables) [] (events_of r) replies replies' run again m m') ∙ sym t'; statuses = s ∙ sym s' }

over_shape : (parts : List Part) (shape : Views) (views : List ViewOf) (texts : Texts) (strategies : List (List ℕ)) (schedule : List ℕ) (r : Replay) → replay_over parts shape views texts strategies schedule ≡ Ok r → r.shape ≡ shape
over_shape parts shape views texts strategies schedule r e =
    let tables = from_step (tables_of parts shape.names views texts) _ r e in
    let given = from_step (nights_after parts shape.names views [] strategies tables.0.1) _ r tables.2 in
    let scheduled = from_step (schedule_of shape.names schedule) _ r given.2 in
    let same = same_Ok _ _ _ refl scheduled.2 in
    ap (λ n. n.shape) (sym same)

read_shape : (bytes : List ℕ) (r : Replay) → replay_of bytes ≡ Ok r → IsShape r.shape.children
read_shape bytes r e =
    let parts = from_step (parts_in nights.All bytes) replay_in r e in
    let catalogue = from_step (text_in parts.0 heading.Catalogue 0) _ r parts.2 in
    let strategies = from_step (strategies_in parts.0) _ r catalogue.2 in
    let schedule = from_step (text_in parts.0 heading.Schedule 0) _ r strategies.2 in
    let shape = from_step (shape_of catalogue.0) _ r schedule.2 in
    let written = from_step (definitions_of shape.0 catalogue.0 []) _ r shape.2 in
    let definitions = are-definitions catalogue.0 shape.0 [] written.0.1 written.0.0 shape.1 written.1 in
    subst (λ s. IsShape s.children) (sym (over_shape parts.0 shape.0 written.0.0 written.0.1 strategies.0 schedule.0 r written.2)) definitions.catalog.shape

pub one_replay : OneReplayOutput
one_replay bytes text other status ended = go (replay_of bytes) (read_shape bytes)
  where
    go : (o : Result Replay LoadFault) → ((r : Replay) → o ≡ Ok r → IsShape r.shape.children)
        → MatchResult o (λ r. IsReplayTold r text status) (λ fault. IsFaultShown fault text status)
        → MatchResult o (λ r. IsReplayTold r other ended) (λ fault. IsFaultShown fault other ended)
        → AreSame text status other ended
    go (Ok r) read f g = one_told r text other status ended (read r refl) f g
    go (Err fault) read f g = one_shown fault text other status ended f g
