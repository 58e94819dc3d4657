-- Each published operation may come where it stands.
use Rattle.std.proofs.Common.{◌≡◌, refl, sym, ap, ◌∙◌, subst, ℕ, suc, ◌-◌, ◌<◌, ◌≤◌, List, [], ◌∷◌, ◌++◌, map, length, take, drop, Bool, true, false, not, ◌&&◌, arith, cond}
use Rattle.std.specs.Prelude.{nat_lt, slice_index_or}
use Rattle.std.specs.List.{All}
use Rattle.std.proofs.lemmas.Bool.{and_from, and_parts, eq-eqb, lt-ltb, not-true}
use Rattle.std.proofs.lemmas.List.{take-append-drop}
use Rattle.std.proofs.lemmas.List.Elements.{All-head, All-tail}
use Rattle.wh_dag.specs.Catalog.{CatalogOf, IsCatalog}
use Rattle.wh_strategy.specs.declared.expression.Expression.{Expression}
use Rattle.wh_strategy.specs.declared.expression.Expression.TheVariants.{Comp, Inst}
use Rattle.wh_strategy.specs.Expression.{At, is_new}
use Rattle.wh_strategy.specs.Rules.{IsCorrect}
use Rattle.wh_row.specs.Bag.{Bag, IsTable, sum_of}
use Rattle.wh_row.specs.Weigh.{Counted}
use Rattle.wh_maint.specs.Asked.{AreBags}
use Rattle.wh_maint.specs.Comp.{bag_at}
use Rattle.wh_maint.specs.Contents.{AreContents, contents}
use Rattle.wh_maint.specs.Definition.{graph_of}
use Rattle.wh_maint.specs.Laws.{changed}
use Rattle.wh_maint.specs.View.{IsViewGraph, ViewGraph}
use Rattle.wh_maint.proofs.FromScratch.{catalogs_are_graphs, contents_are_values, values_are_tables}
use Rattle.wh_carry.specs.Carry.{State, at_first, before, carried, change_in, step, tables_after}
use Rattle.wh_carry.specs.NightList.{inst_pages, night_below, puts_of}
use Rattle.wh_carry.specs.Refused.{AreAllowedBelow}
use Rattle.wh_carry.proofs.NewCounts.{new_counts_make_tables}
use Rattle.wh_carry.proofs.NewValues.{changed_base, passed_have_values}
use Rattle.wh_carry.proofs.Prefixes.{place_within}
use Rattle.wh_carry.proofs.Stands.{strategies_end_in_views}
use Rattle.wh_carry.proofs.StepRows.{table_at}
use Rattle.wh_store.specs.Laws.{VersionsStay}
use Rattle.wh_store.specs.Operations.{Operation, Opens, Writes, Commits, Gives_up}
use Rattle.wh_store.specs.Pages.{is_page}
use Rattle.wh_store.specs.Versions.{is_well_formed, is_well_formed_from, may_come, opens}
use Rattle.wh_carry.specs.Legs.{Turn, In_wave, At_page, Over}
use Rattle.wh_core.specs.Laws.{IsSetup, PublishedAreWellFormed}
use Rattle.wh_core.specs.Log.{Log, Began, Drew, Finished, Paged_in, Committed, Gave_up, Sat_down, Turned, Left, last_begun, is_open, pages, holding}
use Rattle.wh_core.specs.Nights.{GivenNight, Setup, night, last_night, page_in_turn, published, remaining, turn_in, versions}
use Rattle.wh_core.proofs.Deeds.{AreDeeds, deeds_of, none, one_more}
use Rattle.wh_core.proofs.Nights.{beginning, last_is}
use Rattle.wh_core.proofs.Puts.{puts-append}
use Rattle.wh_core.proofs.Sound.{given_night, newest_sound, sound}
use Rattle.wh_core.proofs.Underway.{Underway, ops_of, start_of, underway}

-- ---- operations, one after another

-- a night is open after these operations
abbrev open_after : Bool → List Operation → Bool
open_after active [] = active
open_after active (op ∷ ops) = open_after (opens active op) ops

open-append : (active : Bool) (a b : List Operation) → open_after active (a ++ b) ≡ open_after (open_after active a) b
open-append active [] b = refl
open-append active (op ∷ a) b = open-append (opens active op) a b

module _ (n : ℕ) where
  abbrev Come : Bool → List Operation → Type 0
  Come active ops = is_well_formed_from n active ops ≡ true

  joined : (active : Bool) (a b : List Operation) → Come active a → Come (open_after active a) b → Come active (a ++ b)
  joined active [] b first then = then
  joined active (op ∷ a) b first then =
      let parts = and_parts (may_come n active op) (is_well_formed_from n (opens active op) a) first in
      and_from (may_come n active op) (is_well_formed_from n (opens active op) (a ++ b)) parts.0 (joined (opens active op) a b parts.1 then)

  parted : (active : Bool) (a b : List Operation) → Come active (a ++ b) → Come active a × Come (open_after active a) b
  parted active [] b all = (refl, all)
  parted active (op ∷ a) b all =
      let parts = and_parts (may_come n active op) (is_well_formed_from n (opens active op) (a ++ b)) all in
      let rest = parted (opens active op) a b parts.1 in
      (and_from (may_come n active op) (is_well_formed_from n (opens active op) a) parts.0 rest.0, rest.1)

  -- ---- pages

  pages_come : (v : ℕ) (pages : List Counted) → v < n → All (λ page. is_page page ≡ true) pages → Come true (map (Writes v) pages)
  pages_come v [] l good = refl
  pages_come v (page ∷ pages) l good =
      and_from (nat_lt v n && is_page page) (is_well_formed_from n true (map (Writes v) pages))
      (and_from (nat_lt v n) (is_page page) (lt-ltb v n l) (All-head (λ page. is_page page ≡ true) page pages good))
      (pages_come v pages l (All-tail (λ page. is_page page ≡ true) page pages good))

  stay_open : (v : ℕ) (pages : List Counted) → open_after true (map (Writes v) pages) ≡ true
  stay_open v [] = refl
  stay_open v (page ∷ pages) = stay_open v pages

  puts_come : (g : ViewGraph) (changes : ℕ → Bag) (keys : ℕ) → 1 ≤ keys → keys ≤ 256 → (list : List Expression) (s : State)
      → ((p v : ℕ) → At list p (Inst v) → (v < n) × IsTable ((carried g changes (take (suc p) list) s).tables v)) → Come true (puts_of g changes keys list s)
  unfolding carried puts_of
  puts_come g changes keys some few [] s tables = refl
  puts_come g changes keys some few (Comp v ys ∷ list) s tables = puts_come g changes keys some few list (step g changes (Comp v ys) s) (λ p w at. tables (suc p) w at)
  puts_come g changes keys some few (Inst v ∷ list) s tables =
      let here = tables 0 v refl in
      let pages : List Counted = inst_pages g changes keys s v in
      let later : List Operation = puts_of g changes keys list (step g changes (Inst v) s) in
      let table : IsTable (sum_of (s.tables v) (change_in g changes s v)) = subst IsTable (λ i. cond (eq-eqb v v refl i) (sum_of (s.tables v) (change_in g changes s v)) (s.tables v)) here.1 in
      joined true (map (Writes v) pages) later
      (pages_come v pages here.0 ((new_counts_make_tables keys (s.tables v) (change_in g changes s v) some).good few table))
      (subst (λ active. Come active later) (sym (stay_open v pages)) (puts_come g changes keys some few list (step g changes (Inst v) s) (λ p w at. tables (suc p) w at)))

-- ---- a night

either_table : (t : Bool) (a b : Bag) → IsTable a → IsTable b → IsTable (cond t a b)
either_table true a b x y = x
either_table false a b x y = y

module _ (catalog : CatalogOf) (list : List Expression) (tables changes : List Bag) (keys : ℕ) (is : IsCatalog catalog) (ok : IsCorrect catalog.views.children list) (some : 1 ≤ keys) (few : keys ≤ 256) where
  abbrev g : ViewGraph
  g = graph_of catalog

  isg : IsViewGraph g
  isg = catalogs_are_graphs catalog is

  -- where the base changes are allowed, each view's table is a table once the list is carried out
  new_table : AreBags catalog tables → AreBags catalog changes → AreContents g (bag_at tables) → AreAllowedBelow catalog (bag_at tables) (bag_at changes) (length catalog.views.children)
      → (v : ℕ) → v < length catalog.views.children → IsTable (tables_after g (bag_at changes) list (bag_at tables) v)
  new_table are given old allowed v l =
      let scratch = contents_are_values g (changed (bag_at tables) (bag_at changes)) isg in
      subst IsTable (sym (strategies_end_in_views catalog list (bag_at tables) (bag_at changes) is ok old.counts old.values v l))
      (values_are_tables g (contents g (changed (bag_at tables) (bag_at changes))) isg (λ b e. subst IsTable (sym (scratch.bases b e)) (changed_base catalog tables changes are given allowed b e)) scratch.values v)

  -- so what is published up to any place may come
  night_comes : AreBags catalog tables → AreBags catalog changes → AreContents g (bag_at tables) → AreAllowedBelow catalog (bag_at tables) (bag_at changes) (length catalog.views.children)
      → (place : ℕ) → is_well_formed (length catalog.views.children) (night_below g (bag_at changes) keys list (bag_at tables) place) ≡ true
  night_comes are given old allowed place =
      let n : ℕ = length catalog.views.children in
      let front : List Operation = puts_of g (bag_at changes) keys (take place list) (at_first (bag_at tables)) in
      let back : List Operation = puts_of g (bag_at changes) keys (drop place list) (carried g (bag_at changes) (take place list) (at_first (bag_at tables))) in
      let whole : puts_of g (bag_at changes) keys list (at_first (bag_at tables)) ≡ front ++ back =
      ap (λ es. puts_of g (bag_at changes) keys es (at_first (bag_at tables))) (sym (take-append-drop place list)) ∙ puts-append g (bag_at changes) keys (take place list) (drop place list) (at_first (bag_at tables)) in
      let all : Come n true (puts_of g (bag_at changes) keys list (at_first (bag_at tables))) =
      puts_come n g (bag_at changes) keys some few list (at_first (bag_at tables)) (λ p v at.
      let inside : v < n = ok.views p v at in
      let in_list = place_within list p (Inst v) at in (
        inside,
        subst IsTable (sym (table_at catalog.views.children g.views list (bag_at tables) (bag_at changes) ok (suc p) v (omega arith) inside))
            (either_table (is_new list (suc p) v) (tables_after g (bag_at changes) list (bag_at tables) v) (bag_at tables v) (new_table are given old allowed v inside) (values_are_tables g (bag_at tables) isg old.counts old.values v)),
      )) in
      (parted n true front back (subst (Come n true) whole all)).0

-- ---- the log

still_open : (active : Bool) (t : Turn) → open_after active (page_in_turn t) ≡ active
still_open active (In_wave place jobs drawn) = refl
still_open active (At_page place view rows) = refl
still_open active Over = refl

-- a night is open by the published list exactly where it is by the log
open_so : (s : Setup) (log : Log) → open_after false (published s log) ≡ is_open log
unfolding published
open_so s [] = refl
open_so s (Began ∷ log) = open-append false (published s log) (Opens ∷ [])
open_so s (Drew w k ∷ log) = open_so s log
open_so s (Finished w ∷ log) = open_so s log
open_so s (Paged_in ∷ log) =
    let t : Turn = turn_in (last_night s log (published s log)) log in
    open-append false (published s log) (page_in_turn t) ∙ still_open (open_after false (published s log)) t ∙ open_so s log
open_so s (Committed ∷ log) = open-append false (published s log) (Commits ∷ [])
open_so s (Gave_up ∷ log) = open-append false (published s log) (Gives_up ∷ [])
open_so s (Sat_down d v ∷ log) = open_so s log
open_so s (Turned d v page ∷ log) = open_so s log
open_so s (Left d ∷ log) = open_so s log

module _ (stay : VersionsStay) (s : Setup) (setup : IsSetup s) where
  -- of an open night
  open_night_comes : (log : Log) (deeds : AreDeeds s log) → is_open log ≡ true → (a : Underway s log) → Come (length s.opening) true (ops_of a.over)
  open_night_comes log deeds opened a =
      let r = sound stay s setup log deeds in
      let given : GivenNight = slice_index_or s.nights (last_begun log) (record { changes = []; list = [] }) in
      let fits = given_night stay s setup (versions s log).newest (last_begun log) (let b = r.begun in let once = last_is s log deeds opened in omega (arith, b, once)) in
      let from = newest_sound stay s setup log r in
      let so_far = beginning passed_have_values (night s log) (start_of s log) (published s log) (remaining s log) (pages log) (holding log) _ _ a in
      let comes : Come (length s.catalog.views.children) false (night_below (graph_of s.catalog) (bag_at given.changes) s.keys given.list (bag_at (versions s log).newest) so_far.place) =
      night_comes s.catalog given.list (versions s log).newest given.changes s.keys setup.catalogue fits.list setup.some_keys setup.few_keys from.1 fits.changes from.0 (r.allowed opened) so_far.place in
      subst (λ n. Come n true (ops_of a.over)) (sym setup.tables.each)
      (parted (length s.catalog.views.children) false (Opens ∷ ops_of a.over) so_far.rest (subst (Come (length s.catalog.views.children) false) so_far.begins comes)).0

  -- with the end of the open night
  ends_so : (log : Log) (op : Operation) → may_come (length s.opening) true op ≡ true → is_open log ≡ true → Come (length s.opening) false (published s log) → Come (length s.opening) false (published s log ++ op ∷ [])
  ends_so log op may opened earlier =
      joined (length s.opening) false (published s log) (op ∷ []) earlier
      (subst (λ active. Come (length s.opening) active (op ∷ [])) (sym (open_so s log ∙ opened)) (and_from (may_come (length s.opening) true op) true may refl))

  all_come : (log : Log) → AreDeeds s log → Come (length s.opening) false (published s log)
  unfolding published
  all_come _ none = refl
  all_come _ (one_more log Began before deed) =
      joined (length s.opening) false (published s log) (Opens ∷ []) (all_come log before) (subst (λ active. Come (length s.opening) active (Opens ∷ [])) (sym (open_so s log ∙ deed.0)) refl)
  all_come _ (one_more log (Drew w k) before deed) = all_come log before
  all_come _ (one_more log (Finished w) before deed) = all_come log before
  all_come _ (one_more log Paged_in before deed) =
      let n : ℕ = length s.opening in
      let was = underway s log before deed.0 in
      let a = underway s (Paged_in ∷ log) (one_more log Paged_in before deed) deed.0 in
      let earlier = parted n false (start_of s log) (Opens ∷ ops_of was.over) (subst (Come n false) was.whole (all_come log before)) in
      let shut : open_after false (start_of s log) ≡ false = not-true _ (and_parts (not (open_after false (start_of s log))) (is_well_formed_from n true (ops_of was.over)) earlier.1).0 in
      subst (Come n false) (sym a.whole)
      (joined n false (start_of s log) (Opens ∷ ops_of a.over) earlier.0
      (subst (λ active. Come n active (Opens ∷ ops_of a.over)) (sym shut) (open_night_comes (Paged_in ∷ log) (one_more log Paged_in before deed) deed.0 a)))
  all_come _ (one_more log Committed before deed) = ends_so log Commits refl deed.0 (all_come log before)
  all_come _ (one_more log Gave_up before deed) = ends_so log Gives_up refl deed (all_come log before)
  all_come _ (one_more log (Sat_down d v) before deed) = all_come log before
  all_come _ (one_more log (Turned d v page) before deed) = all_come log before
  all_come _ (one_more log (Left d) before deed) = all_come log before

pub are_well_formed : VersionsStay → PublishedAreWellFormed
are_well_formed stay s log setup legal = all_come stay s setup log (deeds_of s log legal)
