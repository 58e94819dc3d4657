-- The new counts of a night, written over the contents that it began from, are the tables that carrying out makes.
use Rattle.std.proofs.Common.{◌≡◌, refl, sym, ap, ◌∙◌, subst, ℕ, zero, suc, ◌+◌, ◌-◌, ◌<◌, ◌≤◌, ℤ, pos, ◌+ℤ◌, List, [], ◌∷◌, ◌++◌, map, length, Bool, true, false, arith, cond, eqb, Option, Some, None, ◌||◌}
use Rattle.std.specs.Prelude.{take, drop, slice_index_or, slice_set}
use Rattle.std.specs.List.{flat_map}
use Rattle.std.proofs.lemmas.Bool.{eqb-true, eq-eqb, false≢true, cases_lt}
use Rattle.std.proofs.lemmas.List.{get_or-set_other, get_or-set_same, length-drop, take-append-drop}
use Rattle.std.proofs.lemmas.Int.{ints}
use Rattle.wh_row.specs.Row.{Row, is_row}
use Rattle.wh_row.specs.Weigh.{Counted, count_in}
use Rattle.wh_row.specs.Bag.{Bag, count, empty, set_count, sum_of, written}
use Rattle.wh_row.proofs.BagLaws.{same_row, same_bag, count-sum_of, count_in-written}
use Rattle.wh_row.proofs.CountLaws.{count-set_count}
use Rattle.wh_maint.specs.View.{ViewGraph}
use Rattle.wh_strategy.specs.declared.expression.Expression.{Expression}
use Rattle.wh_strategy.specs.declared.expression.Expression.TheVariants.{Comp, Inst}
use Rattle.wh_strategy.specs.Expression.{At}
use Rattle.wh_store.specs.Operations.{Operation, Opens, Writes, Commits, Gives_up}
use Rattle.wh_store.specs.Pages.{Contents, with_counts}
use Rattle.wh_store.specs.Versions.{Versions, after, table_in, versions_from, written_over}
use Rattle.wh_carry.specs.Carry.{State, carried, change_in, step}
use Rattle.wh_carry.specs.NightList.{inst_pages, new_counts, pages_of, pages_within, puts_of}
use Rattle.wh_core.proofs.Underway.{versions_from-append}

-- ---- pages joined are the rows

within_all : (n keys : ℕ) (rows : Counted) → 1 ≤ keys → length rows ≤ n → flat_map (λ p. p) (pages_within n keys rows) ≡ rows
within_all zero keys [] some l = refl
within_all zero keys (e ∷ es) some l = absurd (omega arith)
within_all (suc n) keys [] some l = refl
within_all (suc n) keys (e ∷ es) some l =
    ap (λ r. take keys (e ∷ es) ++ r) (within_all n keys (drop keys (e ∷ es)) some (let d = length-drop keys (e ∷ es) in omega (arith, d, some, l))) ∙ take-append-drop keys (e ∷ es)

pub pages_join : (keys : ℕ) (rows : Counted) → 1 ≤ keys → flat_map (λ p. p) (pages_of keys rows) ≡ rows
pages_join keys rows some = within_all (length rows) keys rows some (omega arith)

-- ---- counts that are written

abbrev pub is_among : Counted → Row → Bool
is_among [] q = false
is_among (e ∷ es) q = is_row q e.0 || is_among es q

pub none_counts : (es : Counted) (q : Row) → is_among es q ≡ false → count_in es q ≡ pos 0
none_counts [] q h = refl
none_counts (e ∷ es) q h = elim (is_row q e.0) as (λ b. (b || is_among es q) ≡ false → cond b e.1 (pos 0) +ℤ count_in es q ≡ pos 0) [
  | true ↦ λ t. absurd (false≢true (sym t))
  | false ↦ λ t. ap (λ z. pos 0 +ℤ z) (none_counts es q t)
] h

given_counts : (f : Row → ℤ) (es : Counted) (table : Bag) (q : Row) → count (with_counts table (map (λ (e : Row × ℤ). (e.0, f e.0)) es)) q ≡ cond (is_among es q) (f q) (count table q)
given_counts f [] table q = refl
given_counts f (e ∷ es) table q =
    given_counts f es (set_count table e.0 (f e.0)) q ∙ ap (cond (is_among es q) (f q)) (count-set_count table e.0 (f e.0) q)
    ∙ elim (is_row q e.0) as (λ b. is_row q e.0 ≡ b → cond (is_among es q) (f q) (cond b (f e.0) (count table q)) ≡ cond (b || is_among es q) (f q) (count table q)) [
      | true ↦ λ t. ap (λ z. cond (is_among es q) (f q) z) (ap f (sym (same_row q e.0 t))) ∙ both (is_among es q) (f q)
      | false ↦ λ t. refl
    ] refl
  where
    both : (b : Bool) (z : ℤ) → cond b z z ≡ z
    both true z = refl
    both false z = refl

plus_nothing : (z : ℤ) → z +ℤ pos 0 ≡ z
plus_nothing z = grind (arith, ints)

-- the new counts of a change, written over the table, are the table with the change
pub counts_make_sum : (table change : Bag) → with_counts table (new_counts table change) ≡ sum_of table change
counts_make_sum table change = same_bag _ _ (λ q. given_counts (count (sum_of table change)) (written change) table q ∙ at q (is_among (written change) q) refl)
  where
    at : (q : Row) (b : Bool) → is_among (written change) q ≡ b → cond b (count (sum_of table change) q) (count table q) ≡ count (sum_of table change) q
    at q true e = refl
    at q false e =
        let zero_change : count change q ≡ pos 0 = sym (count_in-written change q) ∙ none_counts (written change) q e in
        sym (count-sum_of table change q ∙ ap (λ z. count table q +ℤ z) zero_change ∙ plus_nothing (count table q))

counts-append : (a b : Counted) (table : Bag) → with_counts table (a ++ b) ≡ with_counts (with_counts table a) b
counts-append [] b table = refl
counts-append (e ∷ a) b table = counts-append a b (set_count table e.0 e.1)

-- ---- contents that are written over

table-set : (c : Contents) (v u : ℕ) (t : Bag) → v < length c → table_in (slice_set c v t) u ≡ cond (eqb v u) t (table_in c u)
table-set c v u t l = elim (eqb v u) as (λ b. eqb v u ≡ b → table_in (slice_set c v t) u ≡ cond b t (table_in c u)) [
  | true ↦ λ e. ap (table_in (slice_set c v t)) (sym (eqb-true v u e)) ∙ get_or-set_same c v t empty l
  | false ↦ λ e. get_or-set_other c v u t empty (λ same. false≢true (sym e ∙ eq-eqb v u (sym same)))
] refl

length-set : (c : Contents) (v : ℕ) (t : Bag) → length (slice_set c v t) ≡ length c
length-set [] v t = refl
length-set (x ∷ c) zero t = refl
length-set (x ∷ c) (suc v) t = ap suc (length-set c v t)

-- in a night: what is being written are these contents
abbrev pub writing : Versions → Contents → Versions
writing v c = record { newest = v.newest; older = v.older; draft = Some c }

-- what these operations leave being written
pub record IsWritten (v : Versions) (ops : List Operation) (c : Contents) (tables : ℕ → Bag) : Type 0 where
  pub made : Contents
  pub versions : versions_from (writing v c) ops ≡ writing v made
  pub same : (u : ℕ) → table_in made u ≡ tables u
  pub long : length made ≡ length c

pages_written : (v : Versions) (view : ℕ) (pages : List Counted) (c : Contents) → view < length c
    → IsWritten v (map (Writes view) pages) c (λ u. cond (eqb view u) (with_counts (table_in c view) (flat_map (λ p. p) pages)) (table_in c u))
pages_written v view [] c l = record {
  made = c;
  versions = refl;
  same = λ u. elim (eqb view u) as (λ b. eqb view u ≡ b → table_in c u ≡ cond b (table_in c view) (table_in c u)) [
    | true ↦ λ e. ap (table_in c) (sym (eqb-true view u e))
    | false ↦ λ e. refl
  ] refl;
  long = refl;
}
pages_written v view (p ∷ pages) c l =
    let next : Contents = written_over view p c in
    let set = length-set c view (with_counts (table_in c view) p) in
    let r = pages_written v view pages next (omega (arith, l, set)) in
    let own : table_in next view ≡ with_counts (table_in c view) p = table-set c view view (with_counts (table_in c view) p) l ∙ ap (λ b. cond b (with_counts (table_in c view) p) (table_in c view)) (eq-eqb view view refl) in
    record {
      made = r.made;
      versions = r.versions;
      same = λ u. r.same u ∙ elim (eqb view u) as (λ b. eqb view u ≡ b
          → cond b (with_counts (table_in next view) (flat_map (λ p. p) pages)) (table_in next u) ≡ cond b (with_counts (table_in c view) (flat_map (λ p. p) (p ∷ pages))) (table_in c u)) [
            | true ↦ λ e. ap (λ t. with_counts t (flat_map (λ p. p) pages)) own ∙ sym (counts-append p (flat_map (λ p. p) pages) (table_in c view))
            | false ↦ λ e. table-set c view u (with_counts (table_in c view) p) l ∙ ap (λ b. cond b (with_counts (table_in c view) p) (table_in c u)) e
          ] refl;
      long = r.long ∙ set;
    }

module _ (g : ViewGraph) (changes : ℕ → Bag) (keys : ℕ) (some : 1 ≤ keys) (v : Versions) where
  pub puts_written : (list : List Expression) (s : State) (c : Contents) → ((p w : ℕ) → At list p (Inst w) → w < length c) → ((u : ℕ) → table_in c u ≡ s.tables u)
      → IsWritten v (puts_of g changes keys list s) c (carried g changes list s).tables
  unfolding puts_of carried
  puts_written [] s c views same = record { made = c; versions = refl; same = same; long = refl }
  puts_written (Comp w ys ∷ list) s c views same = puts_written list (step g changes (Comp w ys) s) c (λ p x at. views (suc p) x at) same
  puts_written (Inst w ∷ list) s c views same =
      let l : w < length c = views zero w refl in
      let pages : List Counted = inst_pages g changes keys s w in
      let first = pages_written v w pages c l in
      let whole : with_counts (table_in c w) (flat_map (λ p. p) pages) ≡ sum_of (s.tables w) (change_in g changes s w) =
      ap (with_counts (table_in c w)) (pages_join keys (new_counts (s.tables w) (change_in g changes s w)) some)
      ∙ ap (λ t. with_counts t (new_counts (s.tables w) (change_in g changes s w))) (same w) ∙ counts_make_sum (s.tables w) (change_in g changes s w) in
      let now : (u : ℕ) → table_in first.made u ≡ (step g changes (Inst w) s).tables u = λ u. first.same u ∙ (λ i. cond (eqb w u) (whole i) (same u i)) in
      let longer = first.long in
      let r = puts_written list (step g changes (Inst w) s) first.made (λ p x at. let b = views (suc p) x at in omega (arith, b, longer)) now in
      record {
        made = r.made;
        versions = versions_from-append (writing v c) (map (Writes w) pages) (puts_of g changes keys list (step g changes (Inst w) s)) ∙ ap (λ x. versions_from x (puts_of g changes keys list (step g changes (Inst w) s))) first.versions ∙ r.versions;
        same = r.same;
        long = r.long ∙ longer;
      }
