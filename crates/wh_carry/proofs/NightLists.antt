-- Night lists, written over contents.
use Rattle.std.proofs.Common.{◌≡◌, ℕ, zero, suc, ◌<◌, ◌≤◌, refl, sym, ap, subst, ◌∙◌, Bool, true, false, cond, eqb, ◌&&◌, List, [], ◌∷◌, ◌++◌, map, length, take, Some, arith}
use Rattle.std.specs.Prelude.{nat_lt}
use Rattle.std.specs.List.{All}
use Rattle.std.proofs.lemmas.List.{append_assoc, length-set}
use Rattle.std.proofs.lemmas.List.Elements.{All-head, All-tail}
use Rattle.std.proofs.lemmas.Option.{none-some}
use Rattle.std.proofs.lemmas.Bool.{eqb-true, eq-eqb, and_from, lt-ltb}
use Rattle.wh_strategy.specs.declared.expression.Expression.{Expression}
use Rattle.wh_strategy.specs.declared.expression.Expression.TheVariants.{Comp, Inst}
use Rattle.wh_strategy.specs.Expression.{At, is_new}
use Rattle.wh_row.specs.Bag.{Bag, IsTable, empty, sum_of}
use Rattle.wh_row.specs.Weigh.{Counted}
use Rattle.wh_maint.specs.View.{ViewGraph, IsViewGraph}
use Rattle.wh_maint.specs.Laws.{changed}
use Rattle.wh_maint.specs.Definition.{graph_of}
use Rattle.wh_maint.specs.Contents.{contents}
use Rattle.wh_maint.proofs.FromScratch.{contents_are_values, values_are_tables, catalogs_are_graphs}
use Rattle.wh_store.specs.Operations.{Operation, Opens, Writes, Commits}
use Rattle.wh_store.specs.Pages.{Contents, is_page, with_counts}
use Rattle.wh_store.specs.Versions.{Versions, after as next_version, is_well_formed_from, table_in, versions_from, written_over}
use Rattle.wh_carry.specs.Carry.{State, at_first, carried, change_in, step, tables_after}
use Rattle.wh_carry.specs.NightList.{inst_pages, night_below, puts_at, puts_of}
use Rattle.wh_carry.specs.NightLaws.{HaveTables, NightListsEndInContents, NightListsWriteTables, with_pages}
use Rattle.wh_carry.proofs.Prefixes.{take_whole, place_within}
use Rattle.wh_carry.proofs.StepRows.{table_at}
use Rattle.wh_carry.proofs.Storing.{set_at}
use Rattle.wh_carry.proofs.NewValues.{strategies_end_in_contents}
use Rattle.wh_carry.proofs.NewCounts.{new_counts_make_tables}

-- versions in a night that writes these contents
abbrev in_night : List Bag → List Contents → Contents → Versions
in_night newest older draft = record { newest = newest; older = older; draft = Some draft }

from_on : (v : Versions) (xs ys : List Operation) → versions_from v (xs ++ ys) ≡ versions_from (versions_from v xs) ys
from_on v [] ys = refl
from_on v (x ∷ xs) ys = from_on (next_version v x) xs ys

module _ (newest : Contents) (older : List Contents) where
  -- pages of a view's new counts are written one after another
  pages_written : (v : ℕ) (pages : List Counted) (draft : Contents) → v < length draft → (after : Contents)
      × (versions_from (in_night newest older draft) (map (Writes v) pages) ≡ in_night newest older after)
      × (length after ≡ length draft)
      × ((u : ℕ) → table_in after u ≡ cond (eqb v u) (with_pages (table_in draft v) pages) (table_in draft u))
  pages_written v [] draft l = (
    draft,
    refl,
    refl,
    λ u.
        elim (eqb v u) as (λ t. eqb v u ≡ t → table_in draft u ≡ cond t (table_in draft v) (table_in draft u)) [ true ↦ λ t. ap (table_in draft) (sym (eqb-true v u t)) | false ↦ λ t. refl ] refl,
  )
  pages_written v (page ∷ pages) draft l =
      let next : Contents = written_over v page draft in
      let long : length next ≡ length draft = length-set draft v (with_counts (table_in draft v) page) in
      let at : (u : ℕ) → table_in next u ≡ cond (eqb v u) (with_counts (table_in draft v) page) (table_in draft u) = λ u. set_at draft v u (with_counts (table_in draft v) page) empty l in
      let r = pages_written v pages next (omega arith) in (
        r.0,
        r.1,
        r.2 ∙ long,
        λ u. r.3 u ∙ elim (eqb v u) as (λ t. eqb v u ≡ t → cond t (with_pages (table_in next v) pages) (table_in next u) ≡ cond t (with_pages (with_counts (table_in draft v) page) pages) (table_in draft u)) [
          | true ↦ λ t. ap (λ b. with_pages b pages) (at v ∙ (λ i. cond (own v i) (with_counts (table_in draft v) page) (table_in draft v)))
          | false ↦ λ t. at u ∙ (λ i. cond (t i) (with_counts (table_in draft v) page) (table_in draft u))
        ] refl,
      )
    where
      own : (v : ℕ) → eqb v v ≡ true
      own v = eq-eqb v v refl

  module _ (g : ViewGraph) (changes : ℕ → Bag) (keys n : ℕ) (k : 1 ≤ keys) where
    -- an expression's operations write what it makes of the tables
    abbrev Writes_tables : List Operation → Contents → (ℕ → Bag) → Type 0
    Writes_tables ops draft tables = (after : Contents) × (versions_from (in_night newest older draft) ops ≡ in_night newest older after) × HaveTables after n tables

    one_written : (e : Expression) (s : State) (draft : Contents) → ((v : ℕ) → e ≡ Inst v → v < n) → HaveTables draft n s.tables → Writes_tables (puts_at g changes keys s e) draft (step g changes e s).tables
    one_written (Comp v ys) s draft within h = (draft, refl, h)
    one_written (Inst v) s draft within h =
        let l : v < n = within v refl in
        let each = h.each in
        let r = pages_written v (inst_pages g changes keys s v) draft (omega arith) in
        let made = (new_counts_make_tables keys (s.tables v) (change_in g changes s v) k).made in (
          r.0,
          r.1,
          record {
            each = r.2 ∙ h.each;
            are = λ u m. r.3 u ∙ (λ i. cond (eqb v u) ((ap (λ b. with_pages b (inst_pages g changes keys s v)) (h.are v l) ∙ made) i) (h.are u m i));
          },
        )

    all_written : (list : List Expression) (s : State) (draft : Contents) → ((p v : ℕ) → At list p (Inst v) → v < n) → HaveTables draft n s.tables
        → Writes_tables (puts_of g changes keys list s) draft (carried g changes list s).tables
    unfolding carried puts_of
    all_written [] s draft within h = (draft, refl, h)
    all_written (e ∷ list) s draft within h =
        let one = one_written e s draft (λ v is. within 0 v (ap Some is)) h in
        let rest = all_written list (step g changes e s) one.0 (λ p v at. within (suc p) v at) one.2 in (
          rest.0,
          from_on (in_night newest older draft) (puts_at g changes keys s e) (puts_of g changes keys list (step g changes e s)) ∙ ap (λ v. versions_from v (puts_of g changes keys list (step g changes e s))) one.1 ∙ rest.1,
          rest.2,
        )

at_first_part : (n : ℕ) (list : List Expression) (p : ℕ) (e : Expression) → At (take n list) p e → At list p e
at_first_part zero list p e at = absurd (none-some e at)
at_first_part (suc n) [] p e at = absurd (none-some e at)
at_first_part (suc n) (x ∷ list) zero e at = at
at_first_part (suc n) (x ∷ list) (suc p) e at = at_first_part n list p e at

pub night_lists_write_tables : NightListsWriteTables
night_lists_write_tables = λ catalog list tables changes keys versions ok k h place.
    all_written versions.newest versions.older (graph_of catalog) changes keys (length catalog.views.children) k (take place list) (at_first tables) versions.newest
    (λ p v at. ok.views p v (at_first_part place list p (Inst v) at)) h

-- ---- each operation may come where it stands

module _ (n : ℕ) where
  pages_may_come : (v : ℕ) (pages : List Counted) (rest : List Operation) → v < n → All (λ page. is_page page ≡ true) pages → is_well_formed_from n true rest ≡ true
      → is_well_formed_from n true (map (Writes v) pages ++ rest) ≡ true
  pages_may_come v [] rest l good h = h
  pages_may_come v (page ∷ pages) rest l good h =
      and_from (nat_lt v n && is_page page) (is_well_formed_from n true (map (Writes v) pages ++ rest))
      (and_from (nat_lt v n) (is_page page) (lt-ltb v n l) (All-head (λ page. is_page page ≡ true) page pages good))
      (pages_may_come v pages rest l (All-tail (λ page. is_page page ≡ true) page pages good) h)

  puts_may_come : (g : ViewGraph) (changes : ℕ → Bag) (keys : ℕ) → 1 ≤ keys → keys ≤ 256 → (list : List Expression) (s : State) (rest : List Operation)
      → ((p v : ℕ) → At list p (Inst v) → (v < n) × IsTable ((carried g changes (take (suc p) list) s).tables v))
      → is_well_formed_from n true rest ≡ true → is_well_formed_from n true (puts_of g changes keys list s ++ rest) ≡ true
  unfolding carried puts_of
  puts_may_come g changes keys k l [] s rest tables h = h
  puts_may_come g changes keys k l (Comp v ys ∷ list) s rest tables h = puts_may_come g changes keys k l list (step g changes (Comp v ys) s) rest (λ p w at. tables (suc p) w at) h
  puts_may_come g changes keys k l (Inst v ∷ list) s rest tables h =
      let here = tables 0 v refl in
      let table : IsTable (sum_of (s.tables v) (change_in g changes s v)) = subst IsTable (λ i. cond (eq-eqb v v refl i) (sum_of (s.tables v) (change_in g changes s v)) (s.tables v)) here.1 in
      ap (is_well_formed_from n true) (append_assoc (map (Writes v) (inst_pages g changes keys s v)) (puts_of g changes keys list (step g changes (Inst v) s)) rest)
      ∙ pages_may_come v (inst_pages g changes keys s v) (puts_of g changes keys list (step g changes (Inst v) s) ++ rest) here.0
      ((new_counts_make_tables keys (s.tables v) (change_in g changes s v) k).good l table)
      (puts_may_come g changes keys k l list (step g changes (Inst v) s) rest (λ p w at. tables (suc p) w at) h)

either_table : (t : Bool) (a b : Bag) → IsTable a → IsTable b → IsTable (cond t a b)
either_table true a b x y = x
either_table false a b x y = y

pub night_lists_end_in_contents : NightListsEndInContents
night_lists_end_in_contents = λ catalog list tables changes keys versions is ok k l h are counts valued.
    let g : ViewGraph = graph_of catalog in
    let n : ℕ = length catalog.views.children in
    let isg : IsViewGraph g = catalogs_are_graphs catalog is in
    let end = strategies_end_in_contents catalog list tables changes is ok are counts valued in
    let whole = take_whole list in
    let puts : List Operation = puts_of g changes keys list (at_first tables) in
    let night : night_below g changes keys list tables (length list) ≡ Opens ∷ puts = ap (λ es. Opens ∷ puts_of g changes keys es (at_first tables)) whole in
    let w = all_written versions.newest versions.older g changes keys n k list (at_first tables) versions.newest ok.views h in
    let old_table : (v : ℕ) → IsTable (tables v) = values_are_tables g tables isg are.counts are.values in
    let new_table : (v : ℕ) → IsTable (contents g (changed tables changes) v) = values_are_tables g (contents g (changed tables changes)) isg
    (λ b e. subst IsTable (sym ((contents_are_values g (changed tables changes) isg).bases b e)) (counts b e)) (contents_are_values g (changed tables changes) isg).values in
    record {
      well_formed = ap (λ ops. is_well_formed_from n false (ops ++ Commits ∷ [])) night ∙ puts_may_come n g changes keys k l list (at_first tables) (Commits ∷ [])
          (λ p v at. let inside : v < n = ok.views p v at in let in_list = place_within list p (Inst v) at in (
            inside,
            subst IsTable (sym (table_at catalog.views.children g.views list tables changes ok (suc p) v (omega arith) inside))
                (either_table (is_new list (suc p) v) (tables_after g changes list tables v) (tables v) (subst IsTable (sym (end.1 v inside)) (new_table v)) (old_table v)),
          ))
          refl;
      newest = w.0;
      published = ap (λ ops. versions_from versions (ops ++ Commits ∷ [])) night ∙ from_on (in_night versions.newest versions.older versions.newest) puts (Commits ∷ []) ∙ ap (λ v. versions_from v (Commits ∷ [])) w.1;
      are_contents = record { each = w.2.each; are = λ v m. w.2.are v m ∙ end.1 v m };
    }
