-- Well-formed lists of operations, and those of which none is refused.
use Rattle.std.proofs.Common.{◌≡◌, refl, sym, ap, ◌∙◌, subst, ℕ, ◌+◌, ◌^◌, List, [], ◌∷◌, ◌++◌, length, Bool, true, false, Option, Some, None, ◌⊎◌, inl, inr}
use Rattle.std.specs.Prelude.{IsTrue, ◌&&◌, ◌==◌, is_some, nat_lt, option_map, unwrap_or, if◌then◌else◌}
use Rattle.std.proofs.lemmas.List.{length-set}
use Rattle.std.proofs.lemmas.Option.{same_Some}
use Rattle.wh_row.specs.Weigh.{Counted}
use Rattle.wh_store.specs.Laws.{NoneIsRefused, WellFormedAreAccepted, WellFormedGoesOn}
use Rattle.wh_store.specs.Operations.{Operation, Opens, Writes, Commits, Gives_up}
use Rattle.wh_store.specs.Pages.{Contents, is_page}
use Rattle.wh_store.specs.Slots.{Paired}
use Rattle.wh_store.specs.Refusals.{refusal}
use Rattle.wh_store.specs.Versions.{Versions, after, number, versions_from, opened, is_active, may_come, opens, is_well_formed, is_well_formed_from, versions_of, written_over}
use Rattle.wh_store.specs.Windows.{Window, window}
use Rattle.wh_store.specs.declared.fault.StoreFault.{StoreFault}
use Rattle.wh_store.specs.declared.fault.StoreFault.TheVariants.{NoView, BadPage, LastVersion}
use Rattle.wh_store.proofs.WriteLaws.{first_true, second_true}

abbrev IsFree : Option StoreFault → Type 0
IsFree r = (r ≡ None) ⊎ (r ≡ Some LastVersion)

-- what is being written has so many views
abbrev IsOver : ℕ → Option Contents → Type 0
IsOver views draft = (contents : Contents) → draft ≡ Some contents → length contents ≡ views

last_or_none : (b : Bool) → IsFree (if b then Some LastVersion else None)
last_or_none true = inr refl
last_or_none false = inl refl

page_free : (has page : Bool) → IsTrue (has && page) → IsFree (if has then (if page then None else Some BadPage) else Some NoView)
page_free true true h = inl refl
page_free true false h = cc
page_free false page h = cc

page_comes : (has page : Bool) → IsFree (if has then (if page then None else Some BadPage) else Some NoView) → IsTrue (has && page)
page_comes true true h = refl
page_comes true false (inl e) = cc e
page_comes true false (inr e) = cc e
page_comes false page (inl e) = cc e
page_comes false page (inr e) = cc e

-- what may come is not refused
free : (views limit number : ℕ) (kept : List Contents) (draft : Option Contents) (rows : List Paired) (op : Operation) → IsOver views draft → IsTrue (may_come views (is_some draft) op)
    → IsFree (refusal (record { limit = limit; number = number; kept = kept; draft = draft; rows = rows }) op)
free views limit number kept None rows Opens over h = last_or_none (number + 1 == 2 ^ 64)
free views limit number kept None rows (Writes view page) over h = cc h
free views limit number kept None rows Commits over h = cc h
free views limit number kept None rows Gives_up over h = cc h
free views limit number kept (Some d) rows Opens over h = cc h
free views limit number kept (Some d) rows (Writes view page) over h =
    let P : ℕ → Type 0 = λ n. IsTrue (nat_lt view n && is_page page) in
    page_free (nat_lt view (length d)) (is_page page) (subst P (sym (over d refl)) h)
free views limit number kept (Some d) rows Commits over h = inl refl
free views limit number kept (Some d) rows Gives_up over h = inl refl

-- what is not refused may come
comes : (views limit number : ℕ) (kept : List Contents) (draft : Option Contents) (rows : List Paired) (op : Operation) → IsOver views draft
    → IsFree (refusal (record { limit = limit; number = number; kept = kept; draft = draft; rows = rows }) op) → IsTrue (may_come views (is_some draft) op)
comes views limit number kept None rows Opens over h = refl
comes views limit number kept None rows (Writes view page) over (inl e) = cc e
comes views limit number kept None rows (Writes view page) over (inr e) = cc e
comes views limit number kept None rows Commits over (inl e) = cc e
comes views limit number kept None rows Commits over (inr e) = cc e
comes views limit number kept None rows Gives_up over (inl e) = cc e
comes views limit number kept None rows Gives_up over (inr e) = cc e
comes views limit number kept (Some d) rows Opens over (inl e) = cc e
comes views limit number kept (Some d) rows Opens over (inr e) = cc e
comes views limit number kept (Some d) rows (Writes view page) over h =
    let P : ℕ → Type 0 = λ n. IsTrue (nat_lt view n && is_page page) in
    subst P (over d refl) (page_comes (nat_lt view (length d)) (is_page page) h)
comes views limit number kept (Some d) rows Commits over h = refl
comes views limit number kept (Some d) rows Gives_up over h = refl

-- versions of contents of so many views
record AreOver (views : ℕ) (v : Versions) : Type 0 where
  newest : length v.newest ≡ views
  draft : IsOver views v.draft

length-written_over : (contents : Contents) (view : ℕ) (rows : Counted) → length (written_over view rows contents) ≡ length contents
length-written_over contents view rows = length-set contents view _

over_written : (views view : ℕ) (rows : Counted) (draft : Option Contents) → IsOver views draft → IsOver views (option_map (written_over view rows) draft)
over_written views view rows None over contents e = cc e
over_written views view rows (Some d) over contents e = ap length (sym (same_Some _ _ e)) ∙ length-written_over d view rows ∙ over d refl

over_newest : (views : ℕ) (newest : Contents) (draft : Option Contents) → length newest ≡ views → IsOver views draft → length (unwrap_or draft newest) ≡ views
over_newest views newest None e over = e
over_newest views newest (Some d) e over = over d refl

over_after : (views : ℕ) (v : Versions) (op : Operation) → AreOver views v → AreOver views (after v op)
over_after views v Opens are = record { newest = are.newest; draft = λ contents e. ap length (sym (same_Some _ _ e)) ∙ are.newest }
over_after views v (Writes view rows) are = record { newest = are.newest; draft = over_written views view rows v.draft are.draft }
over_after views v Commits are = record { newest = over_newest views v.newest v.draft are.newest are.draft; draft = λ contents e. cc e }
over_after views v Gives_up are = record { newest = are.newest; draft = λ contents e. cc e }

-- whether a night is open after an operation
pub open_after : (v : Versions) (op : Operation) → opens (is_active v) op ≡ is_active (after v op)
open_after v Opens = refl
open_after v (Writes view rows) = written v.draft
  where
    written : (draft : Option Contents) → is_some draft ≡ is_some (option_map (written_over view rows) draft)
    written None = refl
    written (Some d) = refl
open_after v Commits = refl
open_after v Gives_up = refl

both_true : (a b : Bool) → IsTrue a → IsTrue b → IsTrue (a && b)
both_true true b h k = k
both_true false b h k = cc h

accepted : (views limit : ℕ) (shown : List Paired) (v : Versions) (before rest : List Operation) (op : Operation) → AreOver views v → IsTrue (is_well_formed_from views (is_active v) (before ++ op ∷ rest))
    → IsFree (refusal (window limit shown (versions_from v before)) op)
accepted views limit shown v [] rest op are h = free views limit (number v) ((window limit shown v).kept) v.draft shown op are.draft (first_true (may_come views (is_active v) op) (is_well_formed_from views (opens (is_active v) op) rest) h)
accepted views limit shown v (b ∷ before) rest op are h =
    let P : Bool → Type 0 = λ active. IsTrue (is_well_formed_from views active (before ++ op ∷ rest)) in
    let later = second_true (may_come views (is_active v) b) (is_well_formed_from views (opens (is_active v) b) (before ++ op ∷ rest)) h in
    accepted views limit shown (after v b) before rest op (over_after views v b are) (subst P (open_after v b) later)

formed : (views limit : ℕ) (v : Versions) (ops : List Operation) → AreOver views v
    → ((before rest : List Operation) (op : Operation) → ops ≡ before ++ op ∷ rest → IsFree (refusal (window limit [] (versions_from v before)) op)) → IsTrue (is_well_formed_from views (is_active v) ops)
formed views limit v [] are f = refl
formed views limit v (op ∷ ops) are f =
    let P : Bool → Type 0 = λ active. IsTrue (is_well_formed_from views active ops) in
    let later = formed views limit (after v op) ops (over_after views v op are) (λ before rest o e. f (op ∷ before) rest o (ap (λ xs. op ∷ xs) e)) in
    both_true (may_come views (is_active v) op) (is_well_formed_from views (opens (is_active v) op) ops)
    (comes views limit (number v) ((window limit [] v).kept) v.draft [] op are.draft (f [] ops op refl)) (subst P (sym (open_after v op)) later)

opened_over : (opening : Contents) → AreOver (length opening) (opened opening)
opened_over opening = record { newest = refl; draft = λ contents e. cc e }

pub well_formed_are_accepted : WellFormedAreAccepted
well_formed_are_accepted opening ops = (each, λ f. formed (length opening) 2 (opened opening) ops (opened_over opening) (λ before rest op e. f before rest op (window 2 [] (versions_of opening before)) e refl))
  where
    each : IsTrue (is_well_formed (length opening) ops) → NoneIsRefused opening ops
    each h before rest op w e shows =
        let P : List Operation → Type 0 = λ xs. IsTrue (is_well_formed (length opening) xs) in
        let Q : Window → Type 0 = λ x. IsFree (refusal x op) in
        subst Q (sym shows) (accepted (length opening) w.limit w.rows (opened opening) before rest op (opened_over opening) (subst P e h))

went_on : (views limit : ℕ) (shown : List Paired) (v : Versions) (ops : List Operation) (op : Operation) → AreOver views v → IsTrue (is_well_formed_from views (is_active v) ops) → refusal (window limit shown (versions_from v ops)) op ≡ None
    → IsTrue (is_well_formed_from views (is_active v) (ops ++ op ∷ []))
went_on views limit shown v [] op are h free =
    both_true (may_come views (is_active v) op) true (comes views limit (number v) ((window limit shown v).kept) v.draft shown op are.draft (inl free)) refl
went_on views limit shown v (o ∷ ops) op are h free =
    let P : Bool → Type 0 = λ active. IsTrue (is_well_formed_from views active ops) in
    let Q : Bool → Type 0 = λ active. IsTrue (is_well_formed_from views active (ops ++ op ∷ [])) in
    let later = second_true (may_come views (is_active v) o) (is_well_formed_from views (opens (is_active v) o) ops) h in
    both_true (may_come views (is_active v) o) (is_well_formed_from views (opens (is_active v) o) (ops ++ op ∷ []))
    (first_true (may_come views (is_active v) o) (is_well_formed_from views (opens (is_active v) o) ops) h)
    (subst Q (sym (open_after v o)) (went_on views limit shown (after v o) ops op (over_after views v o are) (subst P (open_after v o) later) free))

pub well_formed_goes_on : WellFormedGoesOn
well_formed_goes_on w opening ops op h shows free =
    went_on (length opening) w.limit w.rows (opened opening) ops op (opened_over opening) h (ap (λ x. refusal x op) (sym shows) ∙ free)
