-- What is decided of a replay, from what its parts answer.
use Rattle.std.proofs.Common.{◌≡◌, ◌≢◌, ◌⊎◌, ⊎_elim, ℕ, zero, suc, ◌≤◌, ◌∷◌, ◌++◌, List, [], length, map, false, Some, Vec, refl, sym, subst, ap, ◌∙◌, slice_get, arith}
use mathlib.Core.Logic.{inl, inr}
use Rattle.std.proofs.lemmas.List.{map-append}
use Rattle.std.proofs.lemmas.List.Elements.{All-append, All-cons, All-nil}
use Rattle.std.proofs.lemmas.Option.{none-some, same_Some}
use Rattle.std.specs.List.{list_any}
use Rattle.std.specs.declared.alloc.Global.{Global}
use Rattle.wh_core.specs.Headline.{ComesTrue}
use Rattle.wh_core.specs.Laws.{IsGivenNight, IsSetup}
use Rattle.wh_core.specs.Nights.{GivenNight as NightOfMachine, Setup}
use Rattle.wh_core.specs.Replies.{IsLegalRun}
use Rattle.wh_core.specs.Standing.{AreJudged, given_of, nights_of}
use Rattle.wh_core.specs.declared.reply.Reply.{Reply}
use Rattle.wh_text_catalogue.specs.Definitions.{ViewOf}
use Rattle.wh_text_catalogue.specs.ReadCatalog.{catalog_of}
use Rattle.wh_dag.specs.Catalog.{CatalogOf, IsCatalog}
use Rattle.wh_dag.specs.Shape.{Views}
use Rattle.wh_load.specs.ReadingNight.{ChangeRows, GivenNight, Opening}
use Rattle.wh_load.specs.ReadingReplay.{AreReadForNights, AreReadNights, Replay}
use Rattle.wh_load.specs.ReadingShown.{shown_given}
use Rattle.wh_load.specs.declared.reading.inputs.GivenNight.{GivenNight as ReadNight}
use Rattle.wh_maint.specs.Asked.{AreBags}
use Rattle.wh_maint.specs.Comp.{bag_at}
use Rattle.wh_maint.specs.Contents.{contents}
use Rattle.wh_maint.specs.Definition.{graph_of}
use Rattle.wh_maint.specs.Opening.{HasNoContents, HaveContentsBelow}
use Rattle.wh_maint.specs.declared.fault.MaintFault.{MaintFault}
use Rattle.wh_maint.specs.declared.fault.MaintFault.TheVariants.{Memory as MaintMemory}
use Rattle.wh_text_lines.specs.ScheduleText.{ScheduleOf}
use Rattle.wh_row.specs.Bag.{Bag}
use Rattle.wh_strategy.specs.Rules.{IsCorrect, IsFirstBroken, IsReason, Judged}
use Rattle.wh_strategy.specs.declared.correct.CheckFault.{CheckFault}
use Rattle.wh_strategy.specs.declared.correct.CheckFault.TheVariants.{Broken, Memory}
use Rattle.wh_strategy.specs.declared.expression.Expression.{Expression}
use Rattle.wh_strategy.specs.declared.rule.Rule.{Rule}
use Rattle.whview.specs.CheckOutput.{broken_text}
use Rattle.whview.specs.Inner.FitNight.{AreReadTables}
use Rattle.whview.specs.Inner.FitReplay.{AreChangesOf, AreJudgedRightly, IsFitForNights, IsJudgedRightly, IsNightsFault, IsReady}
use Rattle.whview.specs.NightOutput.{refused_text}
use Rattle.wh_replies.specs.Events.{event_of}
use Rattle.whview.specs.ReplayOutput.{AreCorrect, IsFirstBrokenNight, IsReplayTold, broken, is_memory, machine_of, night_of_machine, no_contents, replayed}
use Rattle.wh_replies.specs.ReplyText.{replies_text}
use Rattle.whview.proofs.NightDecided.{AreOpenedBy, are_contents, opened_by}
use Rattle.whview.proofs.ReadRows.{read_bags, read_tables}

-- ---- strategies

broken_after : (children : List (List ℕ)) (before after : List GivenNight) (night : GivenNight) (rule : Rule) (place : ℕ)
    → AreCorrect children before → IsFirstBroken children night.list rule place → IsFirstBrokenNight children (before ++ night ∷ after) rule place
broken_after children [] after night rule place ok why = inl why
broken_after children (earlier ∷ before) after night rule place ok why = inr (ok.0, broken_after children before after night rule place ok.1 why)

-- why nights cannot be judged rightly, where those before this one are correct
pub nights_fault : (children : List (List ℕ)) (before after : List ReadNight) (night : ReadNight) (fault : CheckFault) → AreCorrect children (map shown_given before)
    → IsReason children night.strategy fault → IsNightsFault children (map shown_given (before ++ night ∷ after)) fault
nights_fault children before after night (Broken rule place) ok why =
    subst (λ ns. IsFirstBrokenNight children ns rule place) (sym (map-append shown_given before (night ∷ after)))
    (broken_after children (map shown_given before) (map shown_given after) (shown_given night) rule place ok why)
nights_fault children before after night Memory ok why = tt

correct_after : (children : List (List ℕ)) (before : List GivenNight) (night : GivenNight) → AreCorrect children before → IsCorrect children night.list
    → AreCorrect children (before ++ night ∷ [])
correct_after children [] night ok is = (is, tt)
correct_after children (earlier ∷ before) night ok is = (ok.0, correct_after children before night ok.1 is)

-- what has been judged of the nights so far
pub record AreJudgedSoFar (children : List (List ℕ)) (done : List (Vec Bag Global × Judged)) (given : List ReadNight) : Type 0 where
  pub nights : nights_of done ≡ map night_of_machine (map shown_given given)
  pub judged : AreJudgedRightly children done
  pub correct : AreCorrect children (map shown_given given)

pub judged_more : (children : List (List ℕ)) (judged : List (Vec Bag Global × Judged)) (nights : List ReadNight) (night : ReadNight) (correct : Judged)
    → nights_of judged ≡ map night_of_machine (map shown_given nights) → AreJudgedRightly children judged → AreCorrect children (map shown_given nights)
    → (correct.children ≡ children) × (correct.list ≡ night.strategy) × IsCorrect children night.strategy
    → AreJudgedSoFar children (judged ++ (night.changes, correct) ∷ []) (nights ++ night ∷ [])
judged_more children judged nights night correct same right ok is =
    let own : given_of (night.changes, correct) ≡ night_of_machine (shown_given night) = ap (λ (l : List Expression). record { changes = night.changes.items; list = l }) is.1 in
    let last : IsCorrect children correct.list = subst (IsCorrect children) (sym is.1) is.2 in
    record {
      nights = map-append given_of judged ((night.changes, correct) ∷ []) ∙ ap (λ ns. ns ++ given_of (night.changes, correct) ∷ []) same
          ∙ ap (λ n. map night_of_machine (map shown_given nights) ++ n ∷ []) own
          ∙ sym (map-append night_of_machine (map shown_given nights) (shown_given night ∷ []))
          ∙ ap (map night_of_machine) (sym (map-append shown_given nights (night ∷ [])));
      judged = All-append (IsJudgedRightly children) judged ((night.changes, correct) ∷ []) right
          (All-cons (IsJudgedRightly children) (night.changes, correct) [] (is.0, last) (All-nil (IsJudgedRightly children)));
      correct = subst (AreCorrect children) (sym (map-append shown_given nights (night ∷ []))) (correct_after children (map shown_given nights) (shown_given night) ok is.2);
    }

-- what was judged rightly was judged over the catalogue's shape
pub judged_over : (cat : CatalogOf) (judged : List (Vec Bag Global × Judged)) → AreJudgedRightly cat.views.children judged → AreJudged cat judged
judged_over cat [] right n given e = absurd (none-some given e)
judged_over cat (night ∷ nights) right zero given e =
    subst (λ (g : Vec Bag Global × Judged). g.1.children ≡ cat.views.children) (same_Some night given e) ((right 0 night (omega arith)).0)
judged_over cat (night ∷ nights) right (suc n) given e = judged_over cat nights (λ k d l. right (suc k) d (omega arith)) n given e

-- ---- nights

given_nights : (cat : CatalogOf) (nights : List GivenNight) → AreCorrect cat.views.children nights → AreChangesOf cat nights
    → (n : ℕ) (given : NightOfMachine) → slice_get (map night_of_machine nights) n ≡ Some given → IsGivenNight cat given
given_nights cat [] ok changes n given e = absurd (none-some given e)
given_nights cat (night ∷ nights) ok changes zero given e =
    subst (IsGivenNight cat) (same_Some (night_of_machine night) given e) (record { changes = changes 0 night (omega arith); list = ok.0 })
given_nights cat (night ∷ nights) ok changes (suc n) given e = given_nights cat nights ok.1 (λ k d l. changes (suc k) d (omega arith)) n given e

changes_read : (shape : Views) (views : List ViewOf) (nights : List GivenNight) → IsCatalog (catalog_of shape views) → AreReadNights views nights → AreChangesOf (catalog_of shape views) nights
changes_read shape views nights is read k d l = read_bags (ChangeRows 0) shape views _ is (read k d l)

-- what was read to be replayed fits the catalogue of its views
pub read_fit_for_nights : (shape : Views) (views : List ViewOf) (tables : List Bag) (nights : List GivenNight) → AreReadForNights shape views tables nights
    → IsFitForNights shape views tables nights
read_fit_for_nights shape views tables nights are = record {
  definitions = are.definitions;
  tables_read = read_tables shape views tables are.definitions.catalog are.before;
  changes = changes_read shape views nights are.definitions.catalog are.brought;
}

-- ---- a machine that can begin

pub is_ready : (cat : CatalogOf) → IsCatalog cat → (base old : List Bag) → AreReadTables cat base → AreBags cat old
    → ((v : ℕ) → bag_at old v ≡ contents (graph_of cat) (bag_at base) v) → HaveContentsBelow (graph_of cat) (bag_at base) (length cat.views.children)
    → (nights : List GivenNight) → AreCorrect cat.views.children nights → AreChangesOf cat nights
    → (of : List NightOfMachine) → of ≡ map night_of_machine nights → IsReady cat old of
is_ready cat is base old read bags opened valued nights ok changes of same = record {
  catalogue = is;
  opening = are_contents cat is base old opened read valued;
  tables_fit = bags;
  nights_fit = λ n given e. given_nights cat nights ok changes n given (ap (λ ns. slice_get ns n) (sym same) ∙ e);
}

pub ready_setup : (cat : CatalogOf) (schedule : ScheduleOf) (tables : List Bag) (nights : List NightOfMachine) → IsReady cat tables nights
    → (desks : ℕ) → desks ≡ schedule.desks → 1 ≤ desks → desks ≤ 16 → (workers : ℕ) → workers ≡ schedule.workers → 1 ≤ workers → workers ≤ 16
    → (keys : ℕ) → keys ≡ schedule.keys → 1 ≤ keys → keys ≤ 256 → (versions : ℕ) → versions ≡ schedule.versions → 2 ≤ versions → versions ≤ 4
    → IsSetup (machine_of cat schedule tables nights)
ready_setup cat schedule tables nights ready desks said some_desks few_desks workers told some_workers few_workers keys same some few versions kept least most = record {
  catalogue = ready.catalogue;
  opening = ready.opening;
  tables = ready.tables_fit;
  nights = ready.nights_fit;
  some_desks = subst (λ n. 1 ≤ n) said some_desks;
  few_desks = subst (λ n. n ≤ 16) said few_desks;
  some_workers = subst (λ n. 1 ≤ n) told some_workers;
  few_workers = subst (λ n. n ≤ 16) told few_workers;
  some_keys = subst (λ k. 1 ≤ k) same some;
  few_keys = subst (λ k. k ≤ 256) same few;
  versions = subst (λ n. 2 ≤ n) kept least;
  few_versions = subst (λ n. n ≤ 4) kept most;
}

-- the setup of a machine in which each number is the schedule's
pub of_schedule : (cat : CatalogOf) (schedule : ScheduleOf) (tables : List Bag) (nights : List NightOfMachine) (desks workers keys versions : ℕ)
    → desks ≡ schedule.desks → workers ≡ schedule.workers → keys ≡ schedule.keys → versions ≡ schedule.versions → (P : Setup → Type 0)
    → P (record { catalog = cat; desks = desks; workers = workers; versions = versions; keys = keys; opening = tables; nights = nights }) → P (machine_of cat schedule tables nights)
of_schedule cat schedule tables nights desks workers keys versions d w k n P p =
    subst (λ x. P (record { catalog = cat; desks = schedule.desks; workers = schedule.workers; versions = x; keys = schedule.keys; opening = tables; nights = nights })) n
    (subst (λ x. P (record { catalog = cat; desks = schedule.desks; workers = schedule.workers; versions = versions; keys = x; opening = tables; nights = nights })) k
    (subst (λ x. P (record { catalog = cat; desks = schedule.desks; workers = x; versions = versions; keys = keys; opening = tables; nights = nights })) w
    (subst (λ x. P (record { catalog = cat; desks = x; workers = workers; versions = versions; keys = keys; opening = tables; nights = nights })) d p)))

-- ---- what is told

abbrev pub over : CatalogOf → Opening → List GivenNight → ScheduleOf → Replay
over cat opening nights schedule = record { shape = cat.views; opening = opening; nights = nights; schedule = schedule }

pub told_broken : (cat : CatalogOf) (opening : Opening) (nights : List GivenNight) (schedule : ScheduleOf) (rule : Rule) (place : ℕ) (fault : CheckFault) (text : List ℕ) (status : ℕ)
    → fault ≡ Broken rule place → IsNightsFault cat.views.children nights fault → text ≡ broken_text rule place → status ≡ 1 → IsReplayTold (over cat opening nights schedule) text status
told_broken cat opening nights schedule rule place fault text status is why printed ended =
    broken rule place (subst (IsNightsFault cat.views.children nights) is why) printed ended

pub told_no_contents : (cat : CatalogOf) (opening : Opening) (nights : List GivenNight) (schedule : ScheduleOf) → cat ≡ catalog_of cat.views opening.views
    → (fault : MaintFault) (text : List ℕ) (status : ℕ) → AreCorrect cat.views.children nights → (fault ≡ MaintMemory) ⊎ HasNoContents (graph_of cat) (bag_at opening.tables) fault
    → fault ≢ MaintMemory → text ≡ refused_text cat.views.names fault → status ≡ 1 → IsReplayTold (over cat opening nights schedule) text status
told_no_contents cat opening nights schedule shown fault text status ok why not printed ended =
    no_contents fault ok
    (⊎_elim (λ m. absurd (not m)) (λ h. subst (λ (k : CatalogOf). HasNoContents (graph_of k) (bag_at opening.tables) fault) shown h) why)
    printed ended

pub told_replayed : (cat : CatalogOf) (opening : Opening) (nights : List GivenNight) (schedule : ScheduleOf) → cat ≡ catalog_of cat.views opening.views
    → (tables : List Bag) (of : List NightOfMachine) (replies : List Reply) (text : List ℕ) → AreCorrect cat.views.children nights
    → length tables ≡ length cat.views.children → ((v : ℕ) → bag_at tables v ≡ contents (graph_of cat) (bag_at opening.tables) v)
    → HaveContentsBelow (graph_of cat) (bag_at opening.tables) (length cat.views.children) → of ≡ map night_of_machine nights
    → IsSetup (machine_of cat schedule tables of) → IsLegalRun (machine_of cat schedule tables of) (map (event_of (length cat.views.children)) schedule.events) replies
    → ComesTrue (machine_of cat schedule tables of) (map (event_of (length cat.views.children)) schedule.events) replies → list_any is_memory replies ≡ false
    → text ≡ replies_text replies → IsReplayTold (over cat opening nights schedule) text 0
told_replayed cat opening nights schedule shown tables of replies text ok each opened valued same is legal comes told printed =
    let events = map (event_of (length cat.views.children)) schedule.events in
    replayed tables replies ok
    (opened_by cat.views opening tables (subst (AreOpenedBy opening tables) shown (record { each = each; opened = opened; valued = valued })))
    (moved IsSetup is) (moved (λ s. IsLegalRun s events replies) legal) (moved (λ s. ComesTrue s events replies) comes)
    told printed refl
  where
    moved : (P : Setup → Type 0) → P (machine_of cat schedule tables of) → P (machine_of (catalog_of cat.views opening.views) schedule tables (map night_of_machine nights))
    moved P p = subst (λ (k : CatalogOf). P (machine_of k schedule tables (map night_of_machine nights))) shown (subst (λ ns. P (machine_of cat schedule tables ns)) same p)
