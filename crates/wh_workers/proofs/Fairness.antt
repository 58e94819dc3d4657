-- Each step keeps the rule.
use Rattle.std.proofs.Common.{◌≡◌, ◌≢◌, ℕ, zero, suc, ◌+◌, ◌-◌, ◌%◌, ◌^◌, ◌<◌, ◌≤◌, ◌==◌, Bool, true, false, nat_lt, min, max, List, [], ◌∷◌, ◌++◌, length, set, slice_index, slice_set, sym, refl, ap, subst, ◌∙◌, ⊎_elim, arith, length-append}
use Rattle.std.proofs.lemmas.Bool.Decides.{nat_tests}
use mathlib.Core.Option.{some}
use lib.ListN.{get_elem?}
use Rattle.atomic_table.specs.Table.{State, Me, Act, keeps, Valid, stepped, carried_after, Allows, Splits, Joins}
use Rattle.atomic_table.proofs.Lists.{at_set, at_snoc, set_again}
use Rattle.wh_workers.specs.declared.claim.Hand.{Hand}
use Rattle.wh_workers.specs.Claims.{hand, one_if, times, once_below, Draws, Whole}
use Rattle.wh_workers.specs.Inner.Claims.{total, Holds}

-- the total after a change of one
total_set : (f : Hand → ℕ) (views : List Hand) (seat : ℕ) (v w : Hand) → get_elem? views seat ≡ some v → total f (set views seat w) + f v ≡ total f views + f w
total_set f [] seat v w at = absurd (cc at)
total_set f (u ∷ us) zero v w at = let e : u ≡ v = cc at in omega (arith, ap f e)
total_set f (u ∷ us) (suc k) v w at = omega (arith, total_set f us k v w at)

total_snoc : (f : Hand → ℕ) (views : List Hand) (w : Hand) → total f (views ++ w ∷ []) ≡ total f views + f w
total_snoc f [] w = omega arith
total_snoc f (u ∷ us) w = omega (arith, total_snoc f us w)

-- no one has more than all
total_at : (f : Hand → ℕ) (views : List Hand) (seat : ℕ) (v : Hand) → get_elem? views seat ≡ some v → f v ≤ total f views
total_at f [] seat v at = absurd (cc at)
total_at f (u ∷ us) zero v at = let e : u ≡ v = cc at in omega (arith, ap f e)
total_at f (u ∷ us) (suc k) v at = omega (arith, total_at f us k v at)

times_append : (x : ℕ) (xs ys : List ℕ) → times x (xs ++ ys) ≡ times x xs + times x ys
times_append x [] ys = omega arith
times_append x (y ∷ xs) ys = omega (arith, times_append x xs ys)

once_more : (x n : ℕ) → once_below x (n + 1) ≡ once_below x n + one_if (x == n)
once_more x n = grind (arith, nat_tests)

abbrev Idle : List Hand → Type 0
Idle views = (seat : ℕ) (v : Hand) → get_elem? views seat ≡ some v → v.parts ≡ 0 → (v.drawn ≡ []) × (v.left ≡ 0)

abbrev Known : ℕ → List Hand → Type 0
Known n views = (seat : ℕ) (v : Hand) → get_elem? views seat ≡ some v → 0 < v.parts → v.jobs ≡ n

idle_set : (views : List Hand) (seat : ℕ) (w : Hand) → Idle views → (w.parts ≡ 0 → (w.drawn ≡ []) × (w.left ≡ 0)) → Idle (set views seat w)
idle_set views seat w idle here j u at none =
    ⊎_elim (λ (t : (j ≡ seat) × (w ≡ u)). let P : Hand → Type 0 = λ z. z.parts ≡ 0 → (z.drawn ≡ []) × (z.left ≡ 0) in subst P t.1 here none) (λ (t : (j ≢ seat) × (get_elem? views j ≡ some u)). idle j u t.1 none) (at_set views seat j w u at)

known_set : (n : ℕ) (views : List Hand) (seat : ℕ) (w : Hand) → Known n views → (0 < w.parts → w.jobs ≡ n) → Known n (set views seat w)
known_set n views seat w known here j u at some' =
    ⊎_elim (λ (t : (j ≡ seat) × (w ≡ u)). let P : Hand → Type 0 = λ z. 0 < z.parts → z.jobs ≡ n in subst P t.1 here some') (λ (t : (j ≢ seat) × (get_elem? views j ≡ some u)). known j u t.1 some') (at_set views seat j w u at)

idle_snoc : (views : List Hand) (w : Hand) → Idle views → (w.parts ≡ 0 → (w.drawn ≡ []) × (w.left ≡ 0)) → Idle (views ++ w ∷ [])
idle_snoc views w idle here j u at none = ⊎_elim (λ (e : get_elem? views j ≡ some u). idle j u e none) (λ (e : w ≡ u). let P : Hand → Type 0 = λ z. z.parts ≡ 0 → (z.drawn ≡ []) × (z.left ≡ 0) in subst P e here none) (at_snoc views w u j at)

known_snoc : (n : ℕ) (views : List Hand) (w : Hand) → Known n views → (0 < w.parts → w.jobs ≡ n) → Known n (views ++ w ∷ [])
known_snoc n views w known here j u at some' = ⊎_elim (λ (e : get_elem? views j ≡ some u). known j u e some') (λ (e : w ≡ u). let P : Hand → Type 0 = λ z. 0 < z.parts → z.jobs ≡ n in subst P e here some') (at_snoc views w u j at)

abbrev S : Type 0
S = State (Unit {0}) Hand

-- the first state
pub opens : (n : ℕ) → n + 16 < 2 ^ 64 → Holds n record { words = 0 ∷ []; homes = []; views = hand n 16 16 [] ∷ [] }
opens n small = record {
  word = 0;
  words = refl;
  small = small;
  parts = refl;
  room = omega arith;
  drawn = λ x. grind (arith, nat_tests);
  each = omega arith;
  idle = idle_snoc [] (hand n 16 16 []) (λ j u at. absurd (cc at)) (λ e. absurd (cc e));
  known = known_snoc n [] (hand n 16 16 []) (λ j u at. absurd (cc at)) (λ _. refl);
}

-- a seat drew no more than the word says
drawn_below : (n : ℕ) (s : S) (h : Holds n s) (seat : ℕ) (v : Hand) → get_elem? s.views seat ≡ some v → length v.drawn ≤ h.word
drawn_below n s h seat v at = let e = total_at (λ u. length u.drawn) s.views seat v at in let q = h.each in omega arith

abbrev Claimed : ℕ → ℕ → Hand → S → List ℕ → Type 0
Claimed n seat v s ws =
    (w : Hand) × (a : Act (Unit {0})) × Valid s.homes [] a
    × Holds n (stepped record { words = ws; homes = s.homes; views = s.views } 0 ((slice_index ws 0 + 1) % 2 ^ 64) seat [] w a)
    × (Draws v (slice_index ws 0) w × (carried_after {S = Unit {0}} [] a ≡ []))

claimed : (n seat : ℕ) (v : Hand) → 0 < v.parts → 0 < v.left → (s : S) (h : Holds n s) → get_elem? s.views seat ≡ some v → (b : Bool) → nat_lt h.word n ≡ b → Claimed n seat v s (h.word ∷ [])
claimed n seat v p l s h at true is =
    let lt : h.word < n = grind (arith, nat_tests) in
    let small = h.small in
    let room = h.room in
    let jobs : v.jobs ≡ n = h.known seat v at p in
    let fewer = drawn_below n s h seat v at in
    let w = hand v.jobs v.parts v.left (v.drawn ++ h.word ∷ []) in (
      w,
      keeps,
      tt,
      record {
        word = h.word + 1;
        words = ap (λ (k : ℕ). k ∷ []) (omega arith);
        small = small;
        parts = (let e = total_set (λ u. u.parts) s.views seat v w at in let q = h.parts in omega arith);
        room = (let e = total_set (λ u. u.left) s.views seat v w at in omega arith);
        drawn = λ x.
            (let e = total_set (λ u. times x u.drawn) s.views seat v w at in
            let t = times_append x v.drawn (h.word ∷ []) in
            let q = h.drawn x in
            let a : min h.word n ≡ h.word = omega arith in
            let b : min (h.word + 1) n ≡ h.word + 1 = omega arith in
            let q' : total (λ u. times x u.drawn) s.views ≡ once_below x h.word = q ∙ ap (once_below x) a in
            let m = once_more x h.word in
            let r : total (λ u. times x u.drawn) (set s.views seat w) ≡ once_below x (h.word + 1) = omega arith in
            r ∙ ap (once_below x) (sym b));
        each = (let e = total_set (λ u. length u.drawn) s.views seat v w at in let t = length-append v.drawn (h.word ∷ []) in let q = h.each in omega arith);
        idle = idle_set s.views seat w h.idle (λ none. absurd (omega arith));
        known = known_set n s.views seat w h.known (λ _. jobs);
      },
      (record { fresh = fewer; under = λ _. refl; past = λ over. absurd (omega arith) }, refl),
    )
claimed n seat v p l s h at false is =
    let ge : n ≤ h.word = grind (arith, nat_tests) in
    let small = h.small in
    let room = h.room in
    let jobs : v.jobs ≡ n = h.known seat v at p in
    let fewer = drawn_below n s h seat v at in
    let w = hand v.jobs v.parts (v.left - 1) v.drawn in (
      w,
      keeps,
      tt,
      record {
        word = h.word + 1;
        words = ap (λ (k : ℕ). k ∷ []) (let e = total_at (λ u. u.left) s.views seat v at in omega arith);
        small = small;
        parts = (let e = total_set (λ u. u.parts) s.views seat v w at in let q = h.parts in omega arith);
        room = (let e = total_set (λ u. u.left) s.views seat v w at in omega arith);
        drawn = λ x.
            (let e = total_set (λ u. times x u.drawn) s.views seat v w at in
            let q = h.drawn x in
            let a : min h.word n ≡ n = omega arith in
            let b : min (h.word + 1) n ≡ n = omega arith in
            let r : total (λ u. times x u.drawn) (set s.views seat w) ≡ total (λ u. times x u.drawn) s.views = omega arith in
            r ∙ (q ∙ (ap (once_below x) a ∙ sym (ap (once_below x) b))));
        each = (let e = total_set (λ u. length u.drawn) s.views seat v w at in let q = h.each in omega arith);
        idle = idle_set s.views seat w h.idle (λ none. absurd (omega arith));
        known = known_set n s.views seat w h.known (λ _. jobs);
      },
      (record { fresh = fewer; under = λ under. absurd (omega arith); past = λ _. refl }, refl),
    )

pub claims : (n seat slots : ℕ) (v : Hand) → 0 < v.parts → 0 < v.left → Allows (Holds n) slots seat (v, []) 0 (λ k. (k + 1) % 2 ^ 64) (λ found after. Draws v found after.0 × (after.1 ≡ []))
claims n seat slots v p l s h len at fits = subst (Claimed n seat v s) (sym h.words) (claimed n seat v p l s h at (nat_lt h.word n) refl)

pub splits : (n seat : ℕ) (v : Hand) → 1 < v.parts → v ≡ hand n v.parts v.parts [] → Splits (Holds n) seat v (hand v.jobs 1 1 []) (hand v.jobs (v.parts - 1) (v.parts - 1) [])
splits n seat v p fresh s h at =
    let a = hand v.jobs 1 1 [] in
    let b = hand v.jobs (v.parts - 1) (v.parts - 1) [] in
    let jobs : v.jobs ≡ n = h.known seat v at (omega arith) in
    let full : v.left ≡ v.parts = ap (λ (u : Hand). u.left) fresh in
    let none : v.drawn ≡ [] = ap (λ (u : Hand). u.drawn) fresh in record {
      word = h.word;
      words = h.words;
      small = h.small;
      parts = (let e = total_set (λ u. u.parts) s.views seat v a at in let f = total_snoc (λ u. u.parts) (set s.views seat a) b in let q = h.parts in omega arith);
      room = (let e = total_set (λ u. u.left) s.views seat v a at in let f = total_snoc (λ u. u.left) (set s.views seat a) b in let q = h.room in omega arith);
      drawn = λ x. (let e = total_set (λ u. times x u.drawn) s.views seat v a at in let f = total_snoc (λ u. times x u.drawn) (set s.views seat a) b in let z : times x v.drawn ≡ 0 = ap (times x) none in let q = h.drawn x in let r : total (λ u. times x u.drawn) (set s.views seat a ++ b ∷ []) ≡ total (λ u. times x u.drawn) s.views = omega arith in r ∙ q);
      each = (let e = total_set (λ u. length u.drawn) s.views seat v a at in let f = total_snoc (λ u. length u.drawn) (set s.views seat a) b in let z : length v.drawn ≡ 0 = ap length none in let q = h.each in omega arith);
      idle = idle_snoc (set s.views seat a) b (idle_set s.views seat a h.idle (λ e. absurd (cc e))) (λ e. absurd (omega arith));
      known = known_snoc n (set s.views seat a) b (known_set n s.views seat a h.known (λ _. jobs)) (λ _. jobs);
    }

pub joins : (n seat other : ℕ) (v w : Hand) → 0 < v.parts → 0 < w.parts → Joins (Holds n) seat v other w (hand v.jobs (v.parts + w.parts) (v.left + w.left) (v.drawn ++ w.drawn)) (hand 0 0 0 [])
joins n seat other v w p q s h at apart there =
    let a = hand v.jobs (v.parts + w.parts) (v.left + w.left) (v.drawn ++ w.drawn) in
    let b = hand 0 0 0 [] in
    let jobs : v.jobs ≡ n = h.known seat v at p in record {
      word = h.word;
      words = h.words;
      small = h.small;
      parts = (let e = total_set (λ u. u.parts) s.views seat v a at in let f = total_set (λ u. u.parts) (set s.views seat a) other w b there in let k = h.parts in omega arith);
      room = (let e = total_set (λ u. u.left) s.views seat v a at in let f = total_set (λ u. u.left) (set s.views seat a) other w b there in let k = h.room in omega arith);
      drawn = λ x. (let e = total_set (λ u. times x u.drawn) s.views seat v a at in let f = total_set (λ u. times x u.drawn) (set s.views seat a) other w b there in let t = times_append x v.drawn w.drawn in let r : total (λ u. times x u.drawn) (set (set s.views seat a) other b) ≡ total (λ u. times x u.drawn) s.views = omega arith in r ∙ h.drawn x);
      each = (let e = total_set (λ u. length u.drawn) s.views seat v a at in let f = total_set (λ u. length u.drawn) (set s.views seat a) other w b there in let t = length-append v.drawn w.drawn in let q = h.each in omega arith);
      idle = idle_set (set s.views seat a) other b (idle_set s.views seat a h.idle (λ e. absurd (omega arith))) (λ _. (refl, refl));
      known = known_set n (set s.views seat a) other b (known_set n s.views seat a h.known (λ _. jobs)) (λ e. absurd (omega arith));
    }

nothing : (f : Hand → ℕ) (views : List Hand) → total (λ u. u.parts) views ≡ 0 → ((j : ℕ) (u : Hand) → get_elem? views j ≡ some u → u.parts ≡ 0 → f u ≡ 0) → total f views ≡ 0
nothing f [] all none = refl
nothing f (u ∷ us) all none = omega (arith, none zero u refl (omega arith), nothing f us (omega arith) (λ j w. none (suc j) w))

-- where all parts but none are with one seat, the others drew nothing
alone : (f : Hand → ℕ) (views : List Hand) (seat : ℕ) (v : Hand) → get_elem? views seat ≡ some v → total (λ u. u.parts) views ≡ v.parts
    → ((j : ℕ) (u : Hand) → get_elem? views j ≡ some u → u.parts ≡ 0 → f u ≡ 0) → total f views ≡ f v
alone f [] seat v at all none = absurd (cc at)
alone f (u ∷ us) zero v at all none = let e : u ≡ v = cc at in let z : total f us ≡ 0 = nothing f us (let k = ap (λ (w : Hand). w.parts) e in omega arith) (λ j w. none (suc j) w) in omega (arith, ap f e)
alone f (u ∷ us) (suc k) v at all none = let z : f u ≡ 0 = none zero u refl (let b = total_at (λ w. w.parts) us k v at in omega arith) in
    let r = alone f us k v at (let b = total_at (λ w. w.parts) us k v at in omega arith) (λ j w. none (suc j) w) in omega arith

pub settles : (n seat slots : ℕ) (v : Hand) → v.parts ≡ 16 → v.left < 16 → v.jobs ≡ n → Allows (Holds n) slots seat (v, []) 0 (λ k. k) (λ found after. (after ≡ (v, [])) × Whole v)
settles n seat slots v p l jobs s h len at fits =
    let same : set s.views seat v ≡ s.views = set_again s.views seat v at in
    let all : total (λ u. u.parts) s.views ≡ v.parts = h.parts ∙ sym p in
    let left : total (λ u. u.left) s.views ≡ v.left = alone (λ u. u.left) s.views seat v at all (λ j u e z. (h.idle j u e z).1) in
    let past : min h.word n ≡ n = (let r = h.room in omega arith) in
    let whole : Whole v = λ x. sym (alone (λ u. times x u.drawn) s.views seat v at all (λ j u e z. ap (times x) (h.idle j u e z).0)) ∙ (h.drawn x ∙ (ap (once_below x) past ∙ ap (once_below x) (sym jobs))) in
    let kept : Holds n record { words = slice_set s.words 0 (slice_index s.words 0); homes = s.homes; views = set s.views seat v } = record {
      word = h.word;
      words = ap (λ ws. slice_set ws 0 (slice_index ws 0)) h.words;
      small = h.small;
      parts = ap (total (λ u. u.parts)) same ∙ h.parts;
      room = ap (λ vs. max h.word n + total (λ u. u.left) vs) same ∙ h.room;
      drawn = λ x. ap (total (λ u. times x u.drawn)) same ∙ h.drawn x;
      each = ap (total (λ u. length u.drawn)) same ∙ h.each;
      idle = subst Idle (sym same) h.idle;
      known = subst (Known n) (sym same) h.known;
    } in
    (v, keeps, tt, kept, (refl, whole))

pub claims_at : (n seat slots : ℕ) (m : Me (Unit {0}) Hand) → m.1 ≡ [] → 0 < m.0.parts → 0 < m.0.left
    → Allows (Holds n) slots seat m 0 (λ k. (k + 1) % 2 ^ 64) (λ found after. Draws m.0 found after.0 × (after.1 ≡ m.1))
claims_at n seat slots m e p l =
    subst (λ (c : List (ℕ × Unit {0})). Allows (Holds n) slots seat (m.0, c) 0 (λ k. (k + 1) % 2 ^ 64) (λ found after. Draws m.0 found after.0 × (after.1 ≡ c))) (sym e) (claims n seat slots m.0 p l)

pub settles_at : (n seat slots : ℕ) (m : Me (Unit {0}) Hand) → m.1 ≡ [] → m.0.parts ≡ 16 → m.0.left < 16 → m.0.jobs ≡ n → Allows (Holds n) slots seat m 0 (λ k. k) (λ found after. (after ≡ m) × Whole m.0)
settles_at n seat slots m e p l jobs = subst (λ (c : List (ℕ × Unit {0})). Allows (Holds n) slots seat (m.0, c) 0 (λ k. k) (λ found after. (after ≡ (m.0, c)) × Whole m.0)) (sym e) (settles n seat slots m.0 p l jobs)
