-- What `live` comes to, from what its parts answer.
use Rattle.std.proofs.Common.{◌≡◌, ◌≢◌, ◌<◌, ◌↔◌, ◌⊎◌, ℕ, List, [], length, Option, None, Some, Result, Ok, Err, inl, inr, refl, sym, ap, subst, ◌∙◌, ⊎_elim, append-nil}
use Rattle.std.specs.Prelude.{IfOk, MatchResult, OnOk}
use Rattle.std.specs.Io.KnownBytes.{Appends}
use Rattle.std.proofs.lemmas.List.Elements.{All-nil}
use Rattle.wh_core.specs.Laws.{IsSetup}
use Rattle.wh_core.specs.Log.{Log}
use Rattle.wh_core.specs.Nights.{Setup}
use Rattle.wh_dag.specs.Catalog.{CatalogOf, IsCatalog}
use Rattle.wh_dialogue.specs.Dialogue.{IsTalk}
use Rattle.wh_dialogue.specs.declared.talking.TalkEnd.{TalkEnd}
use Rattle.wh_dialogue.specs.declared.talking.TalkEnd.TheVariants as ends
use Rattle.wh_load.specs.ReadingNight.{GivenNight, Opening}
use Rattle.wh_maint.specs.Asked.{AreBags}
use Rattle.wh_maint.specs.Comp.{bag_at}
use Rattle.wh_maint.specs.Contents.{contents}
use Rattle.wh_maint.specs.Definition.{graph_of}
use Rattle.wh_maint.specs.Opening.{HasNoContents, HaveContentsBelow}
use Rattle.wh_maint.specs.declared.fault.MaintFault.{MaintFault}
use Rattle.wh_maint.specs.declared.fault.MaintFault.TheVariants.{Memory as MaintMemory}
use Rattle.wh_opening.specs.OpeningRead.{OpeningOf, opening_of}
use Rattle.wh_row.specs.Bag.{Bag}
use Rattle.wh_stay.specs.Standing.{StandingOf}
use Rattle.wh_text.specs.declared.fault.LoadFault.{LoadFault}
use Rattle.wh_text.specs.declared.fault.LoadFault.TheVariants as fault
use Rattle.wh_text_catalogue.specs.ReadCatalog.{catalog_of}
use Rattle.whview.specs.BundleFiles.{AreFilled}
use Rattle.whview.specs.CheckOutput.{IsFaultShown}
use Rattle.whview.specs.Inner.BundleFiles.{IsBundleFault, IsFileFaultShown}
use Rattle.whview.specs.Inner.FitNight.{AreReadTables}
use Rattle.whview.specs.Inner.FitReplay.{IsReady}
use Rattle.whview.specs.Inner.LiveOutput.{IsFaultOfOpening, IsLiveAnswer, IsOpenedAnswer, IsOpeningWithin, no_contents, talks, wants_memory}
use Rattle.whview.specs.Inner.Output.{IsTold}
use Rattle.whview.specs.LiveOutput.{IsEndedWith, IsNotOpened, IsTalkTold, IsWithoutContents, end_text, not_opened, setup_of_live, standing_in, talked}
use Rattle.whview.specs.NightOutput.{refused_text}
use Rattle.whview.specs.Status.{status_number}
use Rattle.whview.specs.declared.answer.Answer.{Answer}
use Rattle.whview.specs.declared.files.FileFault.{FileFault}
use Rattle.whview.specs.declared.files.FileFault.TheVariants.{Input}
use Rattle.whview.specs.declared.live_options.LiveOptions.{LiveOptions}
use Rattle.whview.specs.declared.status.Status.TheVariants.{Negative}
use Rattle.whview.proofs.NightDecided.{AreOpenedBy, opened_by}
use Rattle.whview.proofs.Outputs.{bundle_fault, filled_answer}
use Rattle.whview.proofs.ReplayDecided.{is_ready}

-- ---- the machine

-- the machine over this catalogue, of this size, from these contents
abbrev pub machine_over : CatalogOf → LiveOptions → List Bag → Setup
machine_over cat how tables = record {
  catalog = cat;
  desks = how.desks;
  workers = how.workers;
  versions = how.versions;
  keys = how.page_keys;
  opening = tables;
  nights = [];
}

pub opened_setup : (cat : CatalogOf) → IsCatalog cat → (base old : List Bag) → AreReadTables cat base → AreBags cat old
    → ((v : ℕ) → bag_at old v ≡ contents (graph_of cat) (bag_at base) v) → HaveContentsBelow (graph_of cat) (bag_at base) (length cat.views.children)
    → (how : LiveOptions) → IsSetup (machine_over cat how old)
opened_setup cat is base old read bags opened valued how =
    let ready : IsReady cat old [] = is_ready cat is base old read bags opened valued [] tt (All-nil (λ (night : GivenNight). AreBags cat night.changes)) [] refl in
    record {
      catalogue = ready.catalogue;
      opening = ready.opening;
      tables = ready.tables_fit;
      nights = ready.nights_fit;
      some_desks = how.some_desks;
      few_desks = how.few_desks;
      some_workers = how.some;
      few_workers = how.few;
      some_keys = how.least;
      few_keys = how.most;
      versions = how.some_versions;
      few_versions = how.few_versions;
    }

-- ---- a talk

-- nothing is written behind what was written
pub nothing_more : (known : Option (List ℕ)) → Appends known known []
nothing_more None = tt
nothing_more (Some xs) = sym (append-nil xs)

is_write : (end : TalkEnd) → (end ≡ ends.Write) ⊎ (end ≢ ends.Write)
is_write ends.Done = inr (λ e. cc)
is_write ends.Read = inr (λ e. cc)
is_write ends.Memory = inr (λ e. cc)
is_write ends.Write = inl refl

-- the status is 5 exactly where a write failed, in the talk or behind it
pub counted : (end : TalkEnd) (status before amid after : ℕ) → ((end ≡ ends.Write) ↔ (before < amid)) → (end ≢ ends.Write → amid ≡ before)
    → (end ≢ ends.Write → ((status ≡ 5) ↔ (amid < after))) → (end ≡ ends.Write → (status ≡ 5) × (after ≡ amid)) → (status ≡ 5) ↔ (before < after)
counted end status before amid after failed kept told wrote =
    ⊎_elim
    (λ e. (λ s. subst (λ n. before < n) (sym (wrote e).1) (failed.0 e), λ l. (wrote e).0))
    (λ e. (λ s. subst (λ n. n < after) (kept e) ((told e).0 s), λ l. (told e).1 (subst (λ n. n < after) (sym (kept e)) l)))
    (is_write end)

-- a talk with what is printed at its end
pub told_to_end : (s : Setup) (log : Log) (w : StandingOf) (known : Option (List ℕ)) (faults failed : ℕ) (before middle after : Option (List ℕ)) (end : TalkEnd) (status : ℕ)
    → (end ≢ ends.Write → IsTalk s log w known before middle end) → ((end ≡ ends.Read) ↔ (faults < failed)) → Appends middle after (end_text end) → IsEndedWith end status
    → IsTalkTold s log w known faults failed before after status
told_to_end s log w known faults failed before middle after end status talk read told ended =
    ⊎_elim
    (λ e. absurd (subst (λ x. IsEndedWith x status) e ended))
    (λ e. record { end = end; middle = middle; talk = talk e; read = read; told = told; ended = ended })
    (is_write end)

-- ---- what is opened

module _ (how : LiveOptions) (cat : CatalogOf) (opening : Opening) (strategy : Option (List ℕ)) (shown : cat ≡ catalog_of cat.views opening.views) where
  abbrev pub over : OpeningOf
  over = record { shape = cat.views; opening = opening; strategy = strategy }

  moved : (tables : List Bag) (P : Setup → Type 0) → P (machine_over cat how tables) → P (setup_of_live how over tables)
  moved tables P p = subst (λ (k : CatalogOf). P (machine_over k how tables)) shown p

  pub opened_talk : (tables : List Bag) (known : Option (List ℕ)) (faults failed : ℕ) (before after : Option (List ℕ)) (status : ℕ)
      → length tables ≡ length cat.views.children → ((v : ℕ) → bag_at tables v ≡ contents (graph_of cat) (bag_at opening.tables) v)
      → HaveContentsBelow (graph_of cat) (bag_at opening.tables) (length cat.views.children) → IsSetup (machine_over cat how tables)
      → IsTalkTold (machine_over cat how tables) [] (standing_in over) known faults failed before after status
      → IsOpenedAnswer how over known faults failed before after status
  opened_talk tables known faults failed before after status each opened valued is told =
      talks tables
      (opened_by cat.views opening tables (subst (AreOpenedBy opening tables) shown (record { each = each; opened = opened; valued = valued })))
      (moved tables IsSetup is)
      (moved tables (λ s. IsTalkTold s [] (standing_in over) known faults failed before after status) told)

  -- the base has no contents, which is told, or memory was refused
  pub opened_none : {E : Type 0} (why : MaintFault) (answer : Result Answer E) (known : Option (List ℕ)) (faults : ℕ) (before after : Option (List ℕ)) (status : ℕ)
      → (why ≡ MaintMemory) ⊎ HasNoContents (graph_of cat) (bag_at opening.tables) why
      → IfOk answer (λ a. a.text ≡ refused_text cat.views.names why) → IfOk answer (λ a. a.status ≡ Negative) → IfOk answer (λ a. why ≢ MaintMemory)
      → (text : List ℕ) → Appends before after text → IsTold answer text status → IsOpenedAnswer how over known faults faults before after status
  opened_none why (Ok a) known faults before after status none printed ended told text written is =
      let fact : HasNoContents (graph_of cat) (bag_at opening.tables) why = ⊎_elim (λ m. absurd (told m)) (λ h. h) none in
      no_contents text written refl (record {
        fault = why;
        none = subst (λ (k : CatalogOf). HasNoContents (graph_of k) (bag_at opening.tables) why) shown fact;
        printed = is.0 ∙ printed;
        ended = is.1 ∙ ap status_number ended;
      })
  opened_none why (Err e) known faults before after status none printed ended told text written is = wants_memory (record { text = text; written = written; told = is })

-- ---- a file

-- why a file and those that it names cannot be had
pub files_fault : (limit : ℕ) (f : FileFault) → IsBundleFault limit f → IsFaultOfOpening limit f
files_fault limit f why told text status shown = bundle_fault limit IsNotOpened f why told text status shown

-- the bytes do not give an opening
pub opening_fault : (limit : ℕ) (bytes : List ℕ) (f : LoadFault) → AreFilled limit bytes → (f ≡ fault.Memory) ⊎ (opening_of bytes ≡ Err f) → IsFaultOfOpening limit (Input f)
opening_fault limit bytes f had why told text status shown =
    ⊎_elim
    (λ memory. absurd (told (ap Input memory)))
    (λ e. filled_answer limit IsNotOpened bytes text status had
    (subst (λ r. MatchResult r (λ o. IsWithoutContents o text status) (λ x. IsFaultShown x text status)) (sym e) shown))
    why

-- ---- all of it

-- what was opened from a file
pub live_opened : (how : LiveOptions) (limit : ℕ) (o : OpeningOf) (known : Option (List ℕ)) (faults failed : ℕ) (before after : Option (List ℕ)) (status : ℕ)
    → IsOpeningWithin limit o → IsOpenedAnswer how o known faults failed before after status → IsLiveAnswer how limit known faults failed before after status
live_opened how limit o known faults failed before after status from (wants_memory memory) = inl memory
live_opened how limit o known faults failed before after status from (no_contents text written kept none) =
    inr (not_opened text written kept (filled_answer limit IsNotOpened from.bytes text status from.had
    (subst (λ r. MatchResult r (λ x. IsWithoutContents x text status) (λ x. IsFaultShown x text status)) (sym from.read) none)))
live_opened how limit o known faults failed before after status from (talks tables opened is told) = inr (talked from.bytes o tables from.had from.read opened is told)

-- a file that does not open
pub live_fault : {E : Type 0} (how : LiveOptions) (limit : ℕ) (f : FileFault) (answer : Result Answer E) (known : Option (List ℕ)) (faults : ℕ) (before after : Option (List ℕ)) (status : ℕ)
    → IsFaultOfOpening limit f → IfOk answer (λ a. IsFileFaultShown f a.text (status_number a.status)) → OnOk answer (f ≢ Input fault.Memory)
    → (text : List ℕ) → Appends before after text → IsTold answer text status → IsLiveAnswer how limit known faults faults before after status
live_fault how limit f (Ok a) known faults before after status why shown told text written is =
    inr (not_opened text written refl
    (why told text status (subst (λ n. IsFileFaultShown f text n) (sym is.1) (subst (λ t. IsFileFaultShown f t (status_number a.status)) (sym is.0) shown))))
live_fault how limit f (Err e) known faults before after status why shown told text written is = inl (record { text = text; written = written; told = is })
