-- Comps side by side, in any order.
use Rattle.std.proofs.Common.{◌≡◌, ℕ, zero, suc, ◌+◌, ◌<◌, ◌≤◌, refl, sym, ap, subst, ◌∙◌, ℤ, pos, negsuc, ◌+ℤ◌, ◌-ℤ◌, Bool, true, false, cond, eqb, List, [], ◌∷◌, ◌++◌, take, drop, ⊎_elim, arith}
use Rattle.std.specs.List.{All, sum_by}
use Rattle.std.specs.List.Sorted.{IsPermutation}
use Rattle.std.proofs.lemmas.List.Sums.{sum_by-cons, sum_by-append}
use Rattle.std.proofs.lemmas.List.Elements.{All-nil, All-cons, All-head, All-tail, All-weaker}
use Rattle.std.proofs.lemmas.List.Sorted.{All-permutation, sum_by-IsPermutation}
use Rattle.std.proofs.lemmas.Int.{ints}
use Rattle.std.proofs.lemmas.Option.{none-some, same_Some}
use Rattle.std.proofs.lemmas.Bool.{cases_Bool, eqb-true, false≢true, both_ways, false_from_ne_true}
use Rattle.wh_dag.specs.Shape.{has}
use Rattle.wh_strategy.specs.declared.expression.Expression.{Expression}
use Rattle.wh_strategy.specs.declared.expression.Expression.TheVariants.{Comp, Inst}
use Rattle.wh_strategy.specs.Expression.{At}
use Rattle.wh_row.specs.Bag.{Bag, count, sum_of}
use Rattle.wh_row.specs.Row.{Row}
use Rattle.wh_row.proofs.BagLaws.{same_bag, count-sum_of}
use Rattle.wh_maint.specs.View.{ViewGraph, column}
use Rattle.wh_maint.specs.Summary.{change_of}
use Rattle.wh_maint.specs.Contents.{if_base}
use Rattle.wh_maint.specs.Comp.{comp}
use Rattle.wh_carry.specs.Carry.{State, at_first, before, carried, change_in, step}
use Rattle.wh_carry.specs.AnyOrder.{AreSideBySide, added_at, expressions_from}
use Rattle.wh_carry.proofs.Prefixes.{carried-append}
use Rattle.wh_carry.proofs.Agreeing.{same_comp}

-- an expression is a Comp, is from a view, computes a view
abbrev pub is_comp : Expression → Bool
is_comp (Comp v ys) = true
is_comp (Inst v) = false

abbrev pub reads : Expression → ℕ → Bool
reads (Comp v ys) u = has ys u
reads (Inst v) u = false

abbrev pub computes : ℕ → Expression → Bool
computes u (Comp v ys) = eqb v u
computes u (Inst v) = false

-- the second computes no view that the first is from
abbrev pub IsApart : Expression → Expression → Type 0
IsApart e f = (u : ℕ) → reads e u ≡ true → computes u f ≡ false

-- Comps, each apart from each
pub record AreApart (es : List Expression) : Type 0 where
  pub comps : All (λ e. is_comp e ≡ true) es
  pub each : All (λ e. All (IsApart e) es) es

pub apart_permuted : (es order : List Expression) → AreApart es → IsPermutation es order → AreApart order
apart_permuted es order a h = record {
  comps = All-permutation (λ e. is_comp e ≡ true) es order h a.comps;
  each = All-permutation (λ e. All (IsApart e) order) es order h (All-weaker (λ e. All (IsApart e) es) (λ e. All (IsApart e) order) (λ e all. All-permutation (IsApart e) es order h all) es a.each);
}

apart_tail : (e : Expression) (es : List Expression) → AreApart (e ∷ es) → AreApart es
apart_tail e es a = record {
  comps = All-tail (λ e. is_comp e ≡ true) e es a.comps;
  each = All-weaker (λ f. All (IsApart f) (e ∷ es)) (λ f. All (IsApart f) es) (λ f all. All-tail (IsApart f) e es all) es (All-tail (λ f. All (IsApart f) (e ∷ es)) e es a.each);
}

pub all_left : (P : Expression → Type 0) (xs ys : List Expression) → All P (xs ++ ys) → All P xs
all_left P [] ys h = All-nil P
all_left P (x ∷ xs) ys h = All-cons P x xs (All-head P x (xs ++ ys) h) (all_left P xs ys (All-tail P x (xs ++ ys) h))

pub all_mid : (P : Expression → Type 0) (xs : List Expression) (y : Expression) (ys : List Expression) → All P (xs ++ y ∷ ys) → P y
all_mid P [] y ys h = All-head P y ys h
all_mid P (x ∷ xs) y ys h = all_mid P xs y ys (All-tail P x (xs ++ y ∷ ys) h)

-- ---- what some Comps leave as it was

module _ (g : ViewGraph) (changes : ℕ → Bag) where
  keeps_tables : (e : Expression) (t : State) → is_comp e ≡ true → (step g changes e t).tables ≡ t.tables
  keeps_tables (Comp v ys) t c = refl
  keeps_tables (Inst v) t c = absurd (false≢true c)

  keeps_pending : (e : Expression) (t : State) (u : ℕ) → computes u e ≡ false → (step g changes e t).pending u ≡ t.pending u
  keeps_pending (Comp v ys) t u n = λ i. cond (n i) (λ j. sum_of (t.pending v j) (comp (column (g.views v) j) (g.children v) ys t.tables (change_in g changes t))) (t.pending u)
  keeps_pending (Inst v) t u n = refl

  pub tables_stay : (es : List Expression) (t : State) → All (λ e. is_comp e ≡ true) es → (carried g changes es t).tables ≡ t.tables
  unfolding carried
  tables_stay [] t c = refl
  tables_stay (e ∷ es) t c = tables_stay es (step g changes e t) (All-tail (λ e. is_comp e ≡ true) e es c) ∙ keeps_tables e t (All-head (λ e. is_comp e ≡ true) e es c)

  pub pending_stays : (es : List Expression) (t : State) (u : ℕ) → All (λ e. computes u e ≡ false) es → (carried g changes es t).pending u ≡ t.pending u
  unfolding carried
  pending_stays [] t u n = refl
  pending_stays (e ∷ es) t u n = pending_stays es (step g changes e t) u (All-tail (λ e. computes u e ≡ false) e es n) ∙ keeps_pending e t u (All-head (λ e. computes u e ≡ false) e es n)

-- ---- what they add

abbrev up : ℤ → ℕ
up (pos n) = n
up (negsuc n) = zero

abbrev down : ℤ → ℕ
down (pos n) = zero
down (negsuc n) = suc n

up_down : (z : ℤ) → z ≡ pos (up z) -ℤ pos (down z)
up_down (pos n) = whole n
  where
    whole : (n : ℕ) → pos n ≡ pos n -ℤ pos 0
    whole n = omega (arith, ints)
up_down (negsuc n) = omega (arith, ints)

abbrev total : (Expression → ℤ) → List Expression → ℤ
total f es = pos (sum_by (λ e. up (f e)) es) -ℤ pos (sum_by (λ e. down (f e)) es)

total_nil : (f : Expression → ℤ) → total f [] ≡ pos 0
total_nil f = refl

total_cons : (f : Expression → ℤ) (e : Expression) (es : List Expression) → total f (e ∷ es) ≡ f e +ℤ total f es
total_cons f e es =
    (λ i. pos (sum_by-cons (λ e. up (f e)) e es i) -ℤ pos (sum_by-cons (λ e. down (f e)) e es i))
    ∙ together (up (f e)) (sum_by (λ e. up (f e)) es) (down (f e)) (sum_by (λ e. down (f e)) es)
    ∙ ap (λ z. z +ℤ total f es) (sym (up_down (f e)))
  where
    together : (a b c d : ℕ) → pos (a + b) -ℤ pos (c + d) ≡ (pos a -ℤ pos c) +ℤ (pos b -ℤ pos d)
    together a b c d = omega (arith, ints)

total_permuted : (f : Expression → ℤ) (es order : List Expression) → IsPermutation es order → total f order ≡ total f es
total_permuted f es order h = λ i. pos (sum_by-IsPermutation (λ e. up (f e)) es order h i) -ℤ pos (sum_by-IsPermutation (λ e. down (f e)) es order h i)

module _ (g : ViewGraph) (changes : ℕ → Bag) (s : State) where
  same_changes : (t : State) → t.tables ≡ s.tables → (u : ℕ) → t.pending u ≡ s.pending u → change_in g changes t u ≡ change_in g changes s u
  same_changes t e u p = λ i. if_base (g.children u) (changes u) (change_of (g.views u).kind (e i u) (p i))

  -- a Comp adds the same where the tables are the same, and what is pending of its sources
  pub adds_same : (t : State) (e : Expression) → t.tables ≡ s.tables → ((u : ℕ) → reads e u ≡ true → t.pending u ≡ s.pending u) → (j : ℕ) → added_at g changes t e j ≡ added_at g changes s e j
  adds_same t (Comp v ys) e p j =
      (λ i. comp (column (g.views v) j) (g.children v) ys (e i) (change_in g changes t))
      ∙ same_comp (g.children v) ys s.tables (change_in g changes t) (change_in g changes s) (λ u m. same_changes t e u (p u m)) (column (g.views v) j)
  adds_same t (Inst v) e p j = refl

  -- how often what an expression adds to a view counts a row
  abbrev adds : ℕ → ℕ → Row → Expression → ℤ
  adds u j q e = cond (computes u e) (count (added_at g changes s e j) q) (pos 0)

  adds_next : (t : State) (e : Expression) (u j : ℕ) (q : Row) → is_comp e ≡ true → t.tables ≡ s.tables → ((u : ℕ) → reads e u ≡ true → t.pending u ≡ s.pending u)
      → count ((step g changes e t).pending u j) q ≡ count (t.pending u j) q +ℤ adds u j q e
  adds_next t (Inst v) u j q c e p = absurd (false≢true c)
  adds_next t (Comp v ys) u j q c e p =
      elim (eqb v u) as (λ b. eqb v u ≡ b
      → count (cond b (λ j. sum_of (t.pending v j) (comp (column (g.views v) j) (g.children v) ys t.tables (change_in g changes t))) (t.pending u) j) q
      ≡ count (t.pending u j) q +ℤ cond b (count (comp (column (g.views v) j) (g.children v) ys s.tables (change_in g changes s)) q) (pos 0)) [
        | true ↦ λ b.
            count-sum_of (t.pending v j) (comp (column (g.views v) j) (g.children v) ys t.tables (change_in g changes t)) q
            ∙ (λ i. count (t.pending (eqb-true v u b i) j) q +ℤ count (adds_same t (Comp v ys) e p j i) q)
        | false ↦ λ b. nothing (count (t.pending u j) q)
      ] refl
    where
      nothing : (z : ℤ) → z ≡ z +ℤ pos 0
      nothing z = omega (arith, ints)

  adds_all : (es : List Expression) (t : State) (u j : ℕ) (q : Row) → AreApart es → t.tables ≡ s.tables → All (λ e. (u : ℕ) → reads e u ≡ true → t.pending u ≡ s.pending u) es
      → count ((carried g changes es t).pending u j) q ≡ count (t.pending u j) q +ℤ total (adds u j q) es
  unfolding carried
  adds_all [] t u j q a e p = nothing (count (t.pending u j) q)
    where
      nothing : (z : ℤ) → z ≡ z +ℤ pos 0
      nothing z = omega (arith, ints)
  adds_all (x ∷ es) t u j q a e p =
      let here = All-head (λ e. is_comp e ≡ true) x es a.comps in
      let next : State = step g changes x t in
      let left = All-tail (λ f. All (IsApart f) (x ∷ es)) x es a.each in
      adds_all es next u j q (apart_tail x es a) (keeps_tables g changes x t here ∙ e)
      (both (λ f. All (IsApart f) (x ∷ es)) (λ e. (u : ℕ) → reads e u ≡ true → t.pending u ≡ s.pending u) (λ e. (u : ℕ) → reads e u ≡ true → next.pending u ≡ s.pending u)
      (λ f all old w m. keeps_pending g changes x t w (All-head (IsApart f) x es all w m) ∙ old w m)
      es left (All-tail (λ e. (u : ℕ) → reads e u ≡ true → t.pending u ≡ s.pending u) x es p))
      ∙ ap (λ z. z +ℤ total (adds u j q) es) (adds_next t x u j q here e (All-head (λ e. (u : ℕ) → reads e u ≡ true → t.pending u ≡ s.pending u) x es p))
      ∙ regroup (count (t.pending u j) q) (adds u j q x) (total (adds u j q) es)
      ∙ ap (λ z. count (t.pending u j) q +ℤ z) (sym (total_cons (adds u j q) x es))
    where
      regroup : (a b c : ℤ) → (a +ℤ b) +ℤ c ≡ a +ℤ (b +ℤ c)
      regroup a b c = omega (arith, ints)

      both : (P Q R : Expression → Type 0) → ((f : Expression) → P f → Q f → R f) → (fs : List Expression) → All P fs → All Q fs → All R fs
      both P Q R h [] p q = All-nil R
      both P Q R h (f ∷ fs) p q = All-cons R f fs (h f (All-head P f fs p) (All-head Q f fs q)) (both P Q R h fs (All-tail P f fs p) (All-tail Q f fs q))

  -- in any order they end in one state
  pub in_any_order : (es order : List Expression) → AreApart es → IsPermutation es order → carried g changes order s ≡ carried g changes es s
  in_any_order es order a h =
      let b : AreApart order = apart_permuted es order a h in
      let tables : (carried g changes order s).tables ≡ (carried g changes es s).tables = tables_stay g changes order s b.comps ∙ sym (tables_stay g changes es s a.comps) in
      let pending : (u j : ℕ) → (carried g changes order s).pending u j ≡ (carried g changes es s).pending u j = λ u j. same_bag _ _ (λ q.
      adds_all order s u j q b refl (stay order)
      ∙ ap (λ z. count (s.pending u j) q +ℤ z) (total_permuted (adds u j q) es order h)
      ∙ sym (adds_all es s u j q a refl (stay es))) in
      λ i. record { tables = tables i; pending = λ u j. pending u j i }
    where
      stay : (fs : List Expression) → All (λ e. (u : ℕ) → reads e u ≡ true → s.pending u ≡ s.pending u) fs
      stay [] = All-nil (λ e. (u : ℕ) → reads e u ≡ true → s.pending u ≡ s.pending u)
      stay (f ∷ fs) = All-cons (λ e. (u : ℕ) → reads e u ≡ true → s.pending u ≡ s.pending u) f fs (λ u m. refl) (stay fs)

-- ---- how many of them compute a view

abbrev pub bit : (Expression → Bool) → Expression → ℕ
bit t e = cond (t e) 1 0

none_of : (t : Expression → Bool) (es : List Expression) → ((k : ℕ) (e : Expression) → At es k e → t e ≡ false) → sum_by (bit t) es ≡ 0
none_of t [] n = refl
none_of t (x ∷ es) n =
    let rest = none_of t es (λ k e at. n (suc k) e at) in
    sum_by-cons (bit t) x es ∙ (λ i. cond (n 0 x refl i) 1 0 + rest i)

pub one_of : (t : Expression → Bool) (es : List Expression) → ((j k : ℕ) (e f : Expression) → At es j e → At es k f → t e ≡ true → t f ≡ true → j ≡ k) → sum_by (bit t) es ≤ 1
one_of t [] one = omega arith
one_of t (x ∷ es) one = ⊎_elim
    (λ y.
    let rest = none_of t es (λ k e at. false_from_ne_true (t e) (λ z. let e : 0 ≡ suc k = one 0 (suc k) x e refl at y z in absurd (omega arith))) in
    let whole = sum_by-cons (bit t) x es in
    let here : bit t x ≡ 1 = λ i. cond (y i) 1 0 in
    omega arith)
    (λ n.
    let rest = one_of t es (λ j k e f at there y z. let e : suc j ≡ suc k = one (suc j) (suc k) e f at there y z in omega arith) in
    let whole = sum_by-cons (bit t) x es in
    let here : bit t x ≡ 0 = λ i. cond (n i) 1 0 in
    omega arith)
    (cases_Bool (t x))

nothing_computes : (t : Expression → Bool) (es : List Expression) → sum_by (bit t) es ≡ 0 → All (λ e. t e ≡ false) es
nothing_computes t [] z = All-nil (λ e. t e ≡ false)
nothing_computes t (x ∷ es) z =
    let whole = sum_by-cons (bit t) x es in
    All-cons (λ e. t e ≡ false) x es
    (false_from_ne_true (t x) (λ y. let here : bit t x ≡ 1 = λ i. cond (y i) 1 0 in absurd (omega arith)))
    (nothing_computes t es (omega arith))

-- of one view there is one at most, so none of those that are done computes it beside another
pub done_elsewhere : (u : ℕ) (es done left : List Expression) (e : Expression) → sum_by (bit (computes u)) es ≤ 1 → computes u e ≡ true → IsPermutation es (done ++ e ∷ left) → All (λ f. computes u f ≡ false) done
done_elsewhere u es done left e one y h =
    let all = sum_by-IsPermutation (bit (computes u)) es (done ++ e ∷ left) h in
    let split = sum_by-append (bit (computes u)) done (e ∷ left) in
    let whole = sum_by-cons (bit (computes u)) e left in
    let here : bit (computes u) e ≡ 1 = λ i. cond (y i) 1 0 in
    nothing_computes (computes u) done (omega arith)

-- ---- places of a list

pub at_drop : (list : List Expression) (p k : ℕ) (e : Expression) → At (drop p list) k e → At list (p + k) e
at_drop list zero k e at = let z : 0 + k ≡ k = omega arith in subst (λ n. At list n e) (sym z) at
at_drop [] (suc p) k e at = absurd (none-some e at)
at_drop (x ∷ list) (suc p) k e at = let z : suc p + k ≡ suc (p + k) = omega arith in subst (λ n. At (x ∷ list) n e) (sym z) (at_drop list p k e at)

pub at_take : (n : ℕ) (list : List Expression) (k : ℕ) (e : Expression) → At (take n list) k e → (k < n) × At list k e
at_take zero list k e at = absurd (none-some e at)
at_take (suc n) [] k e at = absurd (none-some e at)
at_take (suc n) (x ∷ list) zero e at = (omega arith, at)
at_take (suc n) (x ∷ list) (suc k) e at = let r = at_take n list k e at in let l = r.0 in (omega arith, r.1)

pub take_on : (p n : ℕ) (list : List Expression) → take (p + n) list ≡ take p list ++ expressions_from list p n
take_on zero n list = let z : 0 + n ≡ n = omega arith in ap (λ m. take m list) z
take_on (suc p) n [] = let z : suc p + n ≡ suc (p + n) = omega arith in ap (λ m. take m []) z ∙ sym (nothing n)
  where
    nothing : (n : ℕ) → take {A = Expression} n [] ≡ []
    nothing zero = refl
    nothing (suc n) = refl
take_on (suc p) n (x ∷ list) = let z : suc p + n ≡ suc (p + n) = omega arith in ap (λ m. take m (x ∷ list)) z ∙ ap (λ l. x ∷ l) (take_on p n list)

pub all_at : (P : Expression → Type 0) (es : List Expression) → ((k : ℕ) (e : Expression) → At es k e → P e) → All P es
all_at P [] h = All-nil P
all_at P (x ∷ es) h = All-cons P x es (h 0 x refl) (all_at P es (λ k e at. h (suc k) e at))

-- Comps side by side are apart
pub side_by_side_apart : (list : List Expression) (p n : ℕ) → AreSideBySide list p n → AreApart (expressions_from list p n)
side_by_side_apart list p n s = record {
  comps = all_at (λ e. is_comp e ≡ true) (expressions_from list p n) (λ k e at. let r = there k e at in let c = comp k r.0 e r.1 in ap is_comp c.2);
  each = all_at (λ e. All (IsApart e) (expressions_from list p n)) (expressions_from list p n) (λ j e at.
      all_at (IsApart e) (expressions_from list p n) (λ k f to.
      let a = there j e at in
      let b = there k f to in
      let c = comp j a.0 e a.1 in
      let d = comp k b.0 f b.1 in
      λ u m. false_from_ne_true (computes u f) (λ t.
      let w : d.0 ≡ u = eqb-true d.0 u (ap (computes u) (sym d.2) ∙ t) in
      both_ways (has c.1 u) (ap (has c.1) (sym w) ∙ s.apart j k c.0 d.0 c.1 d.1 a.0 b.0 (subst (At list (p + j)) c.2 a.1) (subst (At list (p + k)) d.2 b.1)) (ap (λ x. reads x u) (sym c.2) ∙ m))));
}
  where
    there : (k : ℕ) (e : Expression) → At (expressions_from list p n) k e → (k < n) × At list (p + k) e
    there k e at = let r = at_take n (drop p list) k e at in (r.0, at_drop list p k e r.1)

    comp : (k : ℕ) → k < n → (e : Expression) → At list (p + k) e → (v : ℕ) × (ys : List ℕ) × (e ≡ Comp v ys)
    comp k l e at = let c = s.comps k l in (c.0, c.1, same_Some e (Comp c.0 c.1) (sym at ∙ c.2))

pub carried_on : (g : ViewGraph) (changes : ℕ → Bag) (list : List Expression) (tables : ℕ → Bag) (p n : ℕ)
    → carried g changes (expressions_from list p n) (before g changes list tables p) ≡ before g changes list tables (p + n)
carried_on g changes list tables p n =
    sym (carried-append g changes (take p list) (expressions_from list p n) (at_first tables)) ∙ ap (λ l. carried g changes l (at_first tables)) (sym (take_on p n list))
