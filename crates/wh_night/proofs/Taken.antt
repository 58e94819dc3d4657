-- What a night publishes may come where it stands.
use Rattle.std.proofs.Common.{◌≡◌, ◌≢◌, refl, sym, ap, subst, ◌∙◌, eqb, ℕ, zero, suc, ◌≤◌, List, [], ◌∷◌, ◌++◌, map, length, cond, true, Option, Some, None, arith}
use Rattle.std.specs.Prelude.{IfSome, is_some, option_map, slice_set, if◌then◌else◌}
use Rattle.std.specs.List.{All}
use Rattle.std.proofs.lemmas.Bool.{eq-eqb, lt-ltb}
use Rattle.std.proofs.lemmas.Option.{same_Some}
use Rattle.std.proofs.lemmas.List.Elements.{All-head, All-tail}
use Rattle.wh_dag.specs.Catalog.{CatalogOf}
use Rattle.wh_row.specs.Bag.{Bag, IsTable, sum_of}
use Rattle.wh_row.specs.Weigh.{Counted}
use Rattle.wh_strategy.specs.declared.expression.Expression.{Expression}
use Rattle.wh_strategy.specs.declared.expression.Expression.TheVariants.{Inst}
use Rattle.wh_strategy.specs.Expression.{At}
use Rattle.wh_strategy.specs.Rules.{IsCorrect}
use Rattle.wh_maint.specs.Definition.{graph_of}
use Rattle.wh_maint.specs.Finishing.{kind_in}
use Rattle.wh_maint.specs.Fit.{IsFitTable}
use Rattle.wh_maint.specs.View.{Kind, Joined, Summed, ViewGraph}
use Rattle.wh_store.specs.Operations.{Writes, Commits}
use Rattle.wh_store.specs.Pages.{Contents, is_page, with_counts}
use Rattle.wh_store.specs.Refusals.{page_refusal}
use Rattle.wh_store.specs.Versions.{Versions, after, table_in, versions_from, versions_of, written_over}
use Rattle.wh_store.specs.declared.fault.StoreFault.TheVariants.{BadPage, NoNight, NoView}
use Rattle.wh_store.specs.Faults.{fault_of, publish_refusal}
use Rattle.wh_store.specs.Ledgers.{Ledger, versions_in}
use Rattle.wh_store.specs.declared.publish_fault.PublishFault.TheVariants as publish
use Rattle.wh_carry.specs.Carry.{State, change_in}
use Rattle.wh_carry.specs.Kept.{Kept, finished}
use Rattle.wh_carry.specs.NightList.{pages_of}
use Rattle.wh_carry.specs.Refused.{HaveValuesBelow}
use Rattle.wh_carry.specs.declared.stages.Stage.{Stage}
use Rattle.wh_carry.specs.declared.stages.Stage.TheVariants as stage
use Rattle.wh_carry.proofs.Agreeing.{inst_done}
use Rattle.wh_carry.proofs.NewValues.{passed_have_values}
use Rattle.wh_carry.proofs.NightLists.{night_lists_write_tables}
use Rattle.wh_carry.proofs.Nights.{passed_next}
use Rattle.wh_carry.proofs.Prefixes.{before_next}
use Rattle.wh_carry.specs.Night.{Night, state_at}
use Rattle.wh_carry.specs.Stages.{place_behind}
use Rattle.wh_carry.proofs.Pages.{full_page, last_page}
use Rattle.wh_carry.proofs.Parts.{inst_at}
use Rattle.wh_night.specs.Tonight.{goes_out, out_below}
use Rattle.wh_night.specs.Inner.Underway.{AreFitStages, AreGoodPages, CanPublish, Given, IsAt, IsFitBehind, TakesPages, behind, night_given}
use Rattle.wh_night.proofs.Ends.{versions_append}

-- ---- pages, one after another

length_set : (c : Contents) (v : ℕ) (t : Bag) → length (slice_set c v t) ≡ length c
length_set [] v t = refl
length_set (x ∷ c) zero t = refl
length_set (x ∷ c) (suc v) t = ap suc (length_set c v t)

-- what is written stays open, and has its views
writes_keep : (v : Versions) (c : Contents) (view : ℕ) (pages : List Counted) → v.draft ≡ Some c → (d : Contents) × ((versions_from v (map (Writes view) pages)).draft ≡ Some d) × (length d ≡ length c)
writes_keep v c view [] e = (c, e, refl)
writes_keep v c view (p ∷ pages) e =
    let r = writes_keep (after v (Writes view p)) (written_over view p c) view pages (ap (option_map (written_over view p)) e) in
    (r.0, r.1, r.2 ∙ length_set c view (with_counts (table_in c view) p))

pub takes_more : (l m : Ledger) (view : ℕ) (pages : List Counted) → TakesPages l view → m ≡ goes_out l (map (Writes view) pages) None → TakesPages m view
takes_more l m view pages t out =
    let r = writes_keep (versions_in l.of l.list) t.draft view pages t.open_night in
    record {
      free = ap (λ (x : Ledger). x.held) out;
      draft = r.0;
      open_night = ap (λ (x : Ledger). (versions_in x.of x.list).draft) out ∙ ap (λ (v : Versions). v.draft) (versions_append (versions_of l.of.opening []) l.list (map (Writes view) pages)) ∙ r.1;
      has = let h = t.has in let k = r.2 in omega (arith, h, k);
    }

pub may_put : (l : Ledger) (view : ℕ) (rows : Counted) → TakesPages l view → is_page rows ≡ true → publish_refusal l (Writes view rows) ≡ None
may_put l view rows t good =
    (λ i. if is_some (t.free i) then Some publish.Held else option_map fault_of (page_refusal (versions_in l.of l.list).draft view rows))
    ∙ (λ i. option_map fault_of (page_refusal (t.open_night i) view rows))
    ∙ (λ i. option_map fault_of (if lt-ltb view (length t.draft) t.has i then (if good i then None else Some BadPage) else Some NoView))

-- ---- pages that may be written

all_behind : (P : Counted → Type 0) (xs ys : List Counted) → All P (xs ++ ys) → All P ys
all_behind P [] ys h = h
all_behind P (x ∷ xs) ys h = all_behind P xs ys (All-tail P x (xs ++ ys) h)

-- a page that is full
pub full_good : (keys : ℕ) (done : List Counted) (page rest all : Counted) → 1 ≤ keys → AreGoodPages keys all → done ++ pages_of keys (page ++ rest) ≡ pages_of keys all → length page ≡ keys → is_page page ≡ true
full_good keys done page rest all some good split full =
    All-head (λ p. is_page p ≡ true) page (pages_of keys rest)
    (subst (All (λ p. is_page p ≡ true)) (sym (full_page keys page rest some full)) (all_behind (λ p. is_page p ≡ true) done (pages_of keys (page ++ rest)) (subst (All (λ p. is_page p ≡ true)) (sym split) good)))

-- the last one
pub last_good : (keys : ℕ) (done : List Counted) (page all : Counted) → AreGoodPages keys all → done ++ pages_of keys page ≡ pages_of keys all → length page ≤ keys → page ≢ [] → is_page page ≡ true
last_good keys done page all good split few some =
    All-head (λ p. is_page p ≡ true) page []
    (subst (All (λ p. is_page p ≡ true)) (last_page keys page few some) (all_behind (λ p. is_page p ≡ true) done (pages_of keys page) (subst (All (λ p. is_page p ≡ true)) (sym split) good)))

-- ---- where a night stands

is_table : (kind : Kind) (table : Bag) → IsFitTable kind table → IsTable table
is_table Joined table fit = fit
is_table (Summed sums) table fit = fit.0

module _ (catalog : CatalogOf) (keys : ℕ) (t : Given) (stages : List Stage) (fit : AreFitStages catalog keys t stages) (some : 1 ≤ keys) where
  abbrev n : Night
  n = night_given catalog keys t

  abbrev g : ViewGraph
  g = graph_of catalog

  -- a night is open, and each view is written
  draft_at : (l : Ledger) (place : ℕ) → IsFitBehind catalog keys t l → IsCorrect catalog.views.children t.list
      → (draft : Contents) × ((versions_in l.of (l.list ++ out_below n place)).draft ≡ Some draft) × (length draft ≡ length catalog.views.children)
  draft_at l place f ok =
      let w = night_lists_write_tables catalog t.list t.tables t.changes keys (versions_in l.of l.list) ok some f.tables place in (
        w.0,
        ap (λ (v : Versions). v.draft) (versions_append (versions_of l.of.opening []) l.list (out_below n place) ∙ w.1),
        w.2.each,
      )

  -- so it may end
  pub may_commit : (l m : Ledger) → t.before ≡ Some l → (place : ℕ) (k : Kept) (steps : List (Expression × ℕ)) → IsAt n t.before place k steps (Some m) → publish_refusal m Commits ≡ None
  may_commit l m is place k steps at =
      let f : IsFitBehind catalog keys t l = subst (λ b. IfSome b (IsFitBehind catalog keys t)) is fit.fit in
      let out : m ≡ goes_out l (out_below n place) None = same_Some _ _ (at.out ∙ ap (λ b. behind b (out_below n place)) is) in
      let d = draft_at l place f at.come.stands.correct in
      subst (λ m. publish_refusal m Commits ≡ None) (sym out) (λ i. option_map fault_of (if is_some (d.1 i) then None else Some NoNight))

  module _ (before after : List Stage) (k : Kept) (steps : List (Expression × ℕ)) (m : Option Ledger) (at : IsAt n t.before (place_behind before) k steps m) where
    abbrev p : ℕ
    p = place_behind before

    -- an Inst makes the table that stands behind it
    made_there : (v : ℕ) → At t.list p (Inst v) → sum_of (k.tables v) ((finished catalog (λ u. eqb v u) k).changes v) ≡ (state_at n (suc p)).tables v
    made_there v there =
        let s = at.come.stands in
        let change = (inst_done catalog t.list t.tables t.changes s.catalogue s.correct p v k there s.agrees).1 in
        (λ i. sum_of (s.agrees.tables v i) (change i))
        ∙ sym (ap (λ (s : State). s.tables v) (before_next g t.changes t.list t.tables p (Inst v) there)
        ∙ ap (λ b. cond b (sum_of ((state_at n p).tables v) (change_in g t.changes (state_at n p) v)) ((state_at n p).tables v)) (eq-eqb v v refl))

    can_behind : (l : Ledger) → IsFitBehind catalog keys t l → (x : Stage) → stages ≡ before ++ x ∷ after → CanPublish catalog x k (goes_out l (out_below n p) None)
    can_behind l f (stage.Wave jobs) split = tt
    can_behind l f (stage.Inst v) split =
        let s = at.come.stands in
        let there : At t.list p (Inst v) = inst_at n before after v k s (sym fit.are ∙ split) in
        let d = draft_at l p f s.correct in
        let inside = s.correct.views p v there in
        let long = d.2 in (
          record { free = refl; draft = d.0; open_night = d.1; has = omega (arith, inside, long) },
          λ passed.
              let more = passed_next catalog t.list t.tables t.changes s.catalogue s.correct p (Inst v) k there s.agrees s.told at.come.passed passed in
              let values : HaveValuesBelow catalog t.list t.tables t.changes (suc p) = λ q e l r. passed_have_values catalog t.changes (state_at n q) e (more q e (omega (arith, l)) r) in
              subst IsTable (sym (made_there v there)) (is_table (kind_in catalog v) ((state_at n (suc p)).tables v) (f.fit (suc p) values v)),
        )

    pub can_publish : (x : Stage) → stages ≡ before ++ x ∷ after → IfSome m (CanPublish catalog x k)
    can_publish x split = subst (λ m. IfSome m (CanPublish catalog x k)) (sym at.out) (from t.before fit.fit)
      where
        from : (l : Option Ledger) → IfSome l (IsFitBehind catalog keys t) → IfSome (behind l (out_below n p)) (CanPublish catalog x k)
        from None f = tt
        from (Some l) f = can_behind l f x split
