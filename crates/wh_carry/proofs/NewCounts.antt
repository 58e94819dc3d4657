-- New counts of a change, and their pages.
use Rattle.std.proofs.Common.{◌≡◌, ℕ, zero, suc, ◌≤◌, refl, sym, ap, ◌∙◌, ℤ, pos, ◌+ℤ◌, ◌≤ℤ◌, Bool, true, false, cond, ◌&&◌, ◌||◌, List, [], ◌∷◌, ◌++◌, map, length, take, drop, Option, Some, None, arith}
use Rattle.std.specs.Prelude.{int_le, nat_le}
use Rattle.std.specs.List.{All, AllByRecursion, flat_map, list_any}
use Rattle.std.specs.List.Sorted.{IsStrictlySortedBy}
use Rattle.std.specs.Ordering.{is_lt}
use Rattle.std.specs.declared.cmp.Ordering.TheVariants.{Less}
use Rattle.std.proofs.lemmas.Int.{ints}
use Rattle.std.proofs.lemmas.Bool.{and_from, and_parts}
use Rattle.std.proofs.lemmas.Bool.Decides.{nat_tests}
use Rattle.std.proofs.lemmas.List.Elements.{All-nil, All-cons}
use Rattle.wh_row.specs.Row.{Row, row_cmp, is_row, AreRising}
use Rattle.wh_row.specs.Weigh.{Counted, count_in}
use Rattle.wh_row.specs.Bag.{Bag, count, set_count, sum_of, written}
use Rattle.wh_row.proofs.BagLaws.{same_row, same_bag, count_in-written, count-sum_of, rising-written}
use Rattle.wh_row.proofs.CountLaws.{count-set_count}
use Rattle.wh_store.specs.Pages.{count_no_less, is_after, is_page, is_row_after, rises_after, with_counts}
use Rattle.wh_carry.specs.NightList.{new_counts, pages_of, pages_within}
use Rattle.wh_carry.specs.NightLaws.{NewCountsMakeTables, with_pages}

-- ---- what they count

-- these rows, each with a number of its own
abbrev with_numbers : (Row → ℤ) → Counted → Counted
with_numbers f es = map {A = Row × ℤ} {B = Row × ℤ} (λ e. (e.0, f e.0)) es

abbrev is_among : Row → Counted → Bool
is_among q es = list_any (λ (e : Row × ℤ). is_row q e.0) es

counted : (f : Row → ℤ) (table : Bag) (es : Counted) (q : Row) → count (with_counts table (with_numbers f es)) q ≡ cond (is_among q es) (f q) (count table q)
counted f table [] q = refl
counted f table (e ∷ es) q =
    counted f (set_count table e.0 (f e.0)) es q
    ∙ ap (cond (is_among q es) (f q)) (count-set_count table e.0 (f e.0) q)
    ∙ elim (is_row q e.0) as (λ t. is_row q e.0 ≡ t → cond (is_among q es) (f q) (cond t (f e.0) (count table q)) ≡ cond (t || is_among q es) (f q) (count table q)) [
      | true ↦ λ t. ap (λ r. cond (is_among q es) (f q) (f r)) (sym (same_row q e.0 t)) ∙ either (is_among q es) (f q)
      | false ↦ λ t. refl
    ] refl
  where
    either : (t : Bool) (z : ℤ) → cond t z z ≡ z
    either true z = refl
    either false z = refl

not_counted : (es : Counted) (q : Row) → is_among q es ≡ false → count_in es q ≡ pos 0
not_counted [] q n = refl
not_counted (e ∷ es) q n =
    elim (is_row q e.0) as (λ t. (t || is_among q es) ≡ false → cond t e.1 (pos 0) +ℤ count_in es q ≡ pos 0) [
      | true ↦ λ n. absurd (let bad : true ≡ false = n in cc)
      | false ↦ λ n. nothing (count_in es q) ∙ not_counted es q n
    ] n
  where
    nothing : (z : ℤ) → pos 0 +ℤ z ≡ z
    nothing z = omega (arith, ints)

made_at_once : (table change : Bag) → with_counts table (new_counts table change) ≡ sum_of table change
made_at_once table change = same_bag _ _ (λ q.
    counted (count (sum_of table change)) table (written change) q
    ∙ elim (is_among q (written change)) as (λ t. is_among q (written change) ≡ t → cond t (count (sum_of table change) q) (count table q) ≡ count (sum_of table change) q) [
      | true ↦ λ t. refl
      | false ↦ λ t. sym (count-sum_of table change q ∙ ap (λ z. count table q +ℤ z) (sym (count_in-written change q) ∙ not_counted (written change) q t) ∙ nothing (count table q))
    ] refl)
  where
    nothing : (z : ℤ) → z +ℤ pos 0 ≡ z
    nothing z = omega (arith, ints)

-- ---- pages

page_by_page : (table : Bag) (pages : List Counted) → with_pages table pages ≡ with_counts table (flat_map (λ page. page) pages)
page_by_page table [] = refl
page_by_page table (page ∷ pages) = page_by_page (with_counts table page) pages ∙ on table page (flat_map (λ page. page) pages)
  where
    on : (table : Bag) (xs ys : Counted) → with_counts (with_counts table xs) ys ≡ with_counts table (xs ++ ys)
    on table [] ys = refl
    on table (x ∷ xs) ys = on (set_count table x.0 x.1) xs ys

taken_and_left : (n : ℕ) (es : Counted) → take n es ++ drop n es ≡ es
taken_and_left zero es = refl
taken_and_left (suc n) [] = refl
taken_and_left (suc n) (e ∷ es) = ap (λ xs. e ∷ xs) (taken_and_left n es)

fewer_left : (n : ℕ) (es : Counted) → length (drop n es) ≤ length es
fewer_left zero es = omega arith
fewer_left (suc n) [] = omega arith
fewer_left (suc n) (e ∷ es) = let l = fewer_left n es in omega arith

few_taken : (n : ℕ) (es : Counted) → length (take n es) ≤ n
few_taken zero es = omega arith
few_taken (suc n) [] = omega arith
few_taken (suc n) (e ∷ es) = let l = few_taken n es in omega arith

pages_joined : (n keys : ℕ) (es : Counted) → 1 ≤ keys → length es ≤ n → flat_map (λ page. page) (pages_within n keys es) ≡ es
pages_joined zero keys [] k l = refl
pages_joined zero keys (e ∷ es) k l = absurd (omega arith)
pages_joined (suc n) keys [] k l = refl
pages_joined (suc n) zero (e ∷ es) k l = absurd (omega arith)
pages_joined (suc n) (suc keys) (e ∷ es) k l =
    let f = fewer_left keys es in
    ap (λ xs. take (suc keys) (e ∷ es) ++ xs) (pages_joined n (suc keys) (drop (suc keys) (e ∷ es)) k (omega arith)) ∙ taken_and_left (suc keys) (e ∷ es)

-- rising rows rise in each part of them
rises_first : (after : Option Row) (n : ℕ) (es : Counted) → rises_after after es ≡ true → rises_after after (take n es) ≡ true
rises_first after zero es h = refl
rises_first after (suc n) [] h = refl
rises_first after (suc n) (e ∷ es) h = let b = and_parts (is_after after e) (rises_after (Some e.0) es) h in and_from (is_after after e) (rises_after (Some e.0) (take n es)) b.0 (rises_first (Some e.0) n es b.1)

rises_anew : (after : Option Row) (es : Counted) → rises_after after es ≡ true → rises_after None es ≡ true
rises_anew after [] h = refl
rises_anew after (e ∷ es) h = (and_parts (is_after after e) (rises_after (Some e.0) es) h).1

rises_left : (after : Option Row) (n : ℕ) (es : Counted) → rises_after after es ≡ true → rises_after None (drop n es) ≡ true
rises_left after zero es h = rises_anew after es h
rises_left after (suc n) [] h = refl
rises_left after (suc n) (e ∷ es) h = rises_left (Some e.0) n es (and_parts (is_after after e) (rises_after (Some e.0) es) h).1

no_less_first : (n : ℕ) (es : Counted) → count_no_less es ≡ true → count_no_less (take n es) ≡ true
no_less_first zero es h = refl
no_less_first (suc n) [] h = refl
no_less_first (suc n) (e ∷ es) h = let b = and_parts (int_le (pos 0) e.1) (count_no_less es) h in and_from (int_le (pos 0) e.1) (count_no_less (take n es)) b.0 (no_less_first n es b.1)

no_less_left : (n : ℕ) (es : Counted) → count_no_less es ≡ true → count_no_less (drop n es) ≡ true
no_less_left zero es h = h
no_less_left (suc n) [] h = refl
no_less_left (suc n) (e ∷ es) h = no_less_left n es (and_parts (int_le (pos 0) e.1) (count_no_less es) h).1

a_page : (e : Row × ℤ) (es : Counted) → length (e ∷ es) ≤ 256 → rises_after None (e ∷ es) ≡ true → count_no_less (e ∷ es) ≡ true → is_page (e ∷ es) ≡ true
a_page e es l r c = all (nat_le 1 (length (e ∷ es))) (nat_le (length (e ∷ es)) 256) (rises_after None (e ∷ es)) (count_no_less (e ∷ es)) (at_least (length es)) (at_most (length (e ∷ es)) l) r c
  where
    all : (a b c d : Bool) → a ≡ true → b ≡ true → c ≡ true → d ≡ true → (a && b && c && d) ≡ true
    all a b c d p q r s = λ i. p i && q i && r i && s i

    at_least : (n : ℕ) → nat_le 1 (suc n) ≡ true
    at_least n = grind (arith, nat_tests)

    at_most : (n : ℕ) → n ≤ 256 → nat_le n 256 ≡ true
    at_most n l = grind (arith, nat_tests)

pages_good : (n keys : ℕ) (es : Counted) → 1 ≤ keys → keys ≤ 256 → rises_after None es ≡ true → count_no_less es ≡ true → All (λ page. is_page page ≡ true) (pages_within n keys es)
pages_good zero keys es k l r c = All-nil (λ page. is_page page ≡ true)
pages_good (suc n) keys [] k l r c = All-nil (λ page. is_page page ≡ true)
pages_good (suc n) zero (e ∷ es) k l r c = absurd (omega arith)
pages_good (suc n) (suc keys) (e ∷ es) k l r c =
    let few = few_taken keys es in
    All-cons (λ page. is_page page ≡ true) (take (suc keys) (e ∷ es)) (pages_within n (suc keys) (drop (suc keys) (e ∷ es)))
    (a_page e (take keys es) (omega arith) (rises_first None (suc keys) (e ∷ es) r) (no_less_first (suc keys) (e ∷ es) c))
    (pages_good n (suc keys) (drop (suc keys) (e ∷ es)) k l (rises_left None (suc keys) (e ∷ es) r) (no_less_left (suc keys) (e ∷ es) c))

-- ---- the rows of a change rise

rises_with_numbers : (f : Row → ℤ) (after : Option Row) (es : Counted) → rises_after after (with_numbers f es) ≡ rises_after after es
rises_with_numbers f after [] = refl
rises_with_numbers f after (e ∷ es) = ap (λ b. is_row_after after e.0 && b) (rises_with_numbers f (Some e.0) es)

rises : (row : Row) (es : Counted) → AllByRecursion (λ q. row_cmp row q ≡ Less) (map {A = Row × ℤ} {B = Row} (λ e. e.0) es) → AreRising (map {A = Row × ℤ} {B = Row} (λ e. e.0) es)
    → rises_after (Some row) es ≡ true
unfolding IsStrictlySortedBy
rises row [] all h = refl
rises row (e ∷ es) all h = and_from (is_lt (row_cmp row e.0)) (rises_after (Some e.0) es) (ap is_lt all.0) (rises e.0 es h.0 h.1)

rises_whole : (es : Counted) → AreRising (map {A = Row × ℤ} {B = Row} (λ e. e.0) es) → rises_after None es ≡ true
unfolding IsStrictlySortedBy
rises_whole [] h = refl
rises_whole (e ∷ es) h = rises e.0 es h.0 h.1

no_less_of : (f : Row → ℤ) (es : Counted) → ((q : Row) → pos 0 ≤ℤ f q) → count_no_less (with_numbers f es) ≡ true
no_less_of f [] h = refl
no_less_of f (e ∷ es) h = and_from (int_le (pos 0) (f e.0)) (count_no_less (with_numbers f es)) (least (f e.0) (h e.0)) (no_less_of f es h)
  where
    least : (z : ℤ) → pos 0 ≤ℤ z → int_le (pos 0) z ≡ true
    least z l = grind (arith, ints)

length_numbers : (f : Row → ℤ) (es : Counted) → length (with_numbers f es) ≡ length es
length_numbers f [] = refl
length_numbers f (e ∷ es) = ap suc (length_numbers f es)

pub new_counts_make_tables : NewCountsMakeTables
new_counts_make_tables = λ keys table change k.
    let rows : Counted = new_counts table change in
    let joined : flat_map (λ page. page) (pages_of keys rows) ≡ rows = pages_joined (length rows) keys rows k (omega arith) in
    record {
      joined = joined;
      made = page_by_page table (pages_of keys rows) ∙ ap (with_counts table) joined ∙ made_at_once table change;
      good = λ l is. pages_good (length rows) keys rows k l
          (rises_with_numbers (count (sum_of table change)) None (written change) ∙ rises_whole (written change) (rising-written change))
          (no_less_of (count (sum_of table change)) (written change) is);
    }
