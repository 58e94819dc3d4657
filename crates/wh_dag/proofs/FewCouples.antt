-- A shape has few couples: each has a parent among at most 64 views, and a view is over at most 6.
use Rattle.std.proofs.Common.{◌≡◌, ◌≢◌, ℕ, zero, suc, ◌+◌, ◌*◌, ◌<◌, ◌≤◌, ◌==◌, List, [], ◌∷◌, ◌++◌, Bool, true, false, length, filter, map, refl, sym, subst, ◌&&◌, nat_lt, arith, ◌⊎◌, inl, inr, ⊎_elim, cond, get_or}
use Rattle.std.specs.Prelude.{◌||◌}
use Rattle.std.specs.List.{count_by, flat_map, range_with_len}
use Rattle.std.proofs.lemmas.List.Sums.{length-filter, sum_by-append, sum_by-cons}
use Rattle.std.proofs.lemmas.List.Concat.{flat_map_single}
use Rattle.std.proofs.lemmas.Bool.{cases_lt, ltb-true, eqb-true, or_left, or_right, or_cases, and_parts, and_from}
use Rattle.wh_dag.specs.Shape.{IsShape, has, children_of}
use Rattle.wh_dag.specs.Siblings.{have_parent, is_couple, pairs_with, pairs_below, each_below, couples_of}
use Rattle.wh_dag.specs.declared.siblings.Couple.{Couple}

-- what one test lets through, the other two together do
cond_either : (a b c : Bool) → (a ≡ true → (b ≡ true) ⊎ (c ≡ true)) → cond a 1 0 ≤ cond b 1 0 + cond c 1 0
cond_either false b c h = omega arith
cond_either true true c h = omega arith
cond_either true false true h = omega arith
cond_either true false false h = absurd (⊎_elim (λ (e : false ≡ true). let bad : ⊥ = cc in bad) (λ (e : false ≡ true). let bad : ⊥ = cc in bad) (h refl))

pub count_cons : {X : Type 0} (p : X → Bool) (x : X) (xs : List X) → count_by p (x ∷ xs) ≡ cond (p x) 1 0 + count_by p xs
count_cons p = sum_by-cons (λ x. cond (p x) 1 0)

count_either : {X : Type 0} (p q r : X → Bool) → ((x : X) → p x ≡ true → (q x ≡ true) ⊎ (r x ≡ true)) → (xs : List X) →
    count_by p xs ≤ count_by q xs + count_by r xs
count_either p q r h [] = omega arith
count_either p q r h (x ∷ xs) =
    let here : cond (p x) 1 0 ≤ cond (q x) 1 0 + cond (r x) 1 0 = cond_either (p x) (q x) (r x) (h x) in
    let rest : count_by p xs ≤ count_by q xs + count_by r xs = count_either p q r h xs in
    omega (arith, count_cons p x xs, count_cons q x xs, count_cons r x xs)

cond_none : (a : Bool) → (a ≡ true → ⊥) → cond a 1 0 ≤ 0
cond_none false h = omega arith
cond_none true h = absurd (h refl)

count_none : {X : Type 0} (p : X → Bool) → ((x : X) → p x ≡ true → ⊥) → (xs : List X) → count_by p xs ≤ 0
count_none p h [] = omega arith
count_none p h (x ∷ xs) =
    let here : cond (p x) 1 0 ≤ 0 = cond_none (p x) (h x) in
    let rest : count_by p xs ≤ 0 = count_none p h xs in
    omega (arith, count_cons p x xs)

count_within : {X : Type 0} (p q : X → Bool) → ((x : X) → p x ≡ true → q x ≡ true) → (xs : List X) → count_by p xs ≤ count_by q xs
count_within p q h xs =
    let twice : count_by p xs ≤ count_by q xs + count_by (λ _. false) xs = count_either p q (λ _. false) (λ x e. inl (h x e)) xs in
    let none : count_by (λ _. false) xs ≤ 0 = count_none (λ _. false) (λ x (e : false ≡ true). cc) xs in
    omega arith

-- What is made of the numbers from s on is counted once at most, where only what is made of the number a counts.
counted_once : {A : Type 0} (p : A → Bool) (f : ℕ → List A) (a : ℕ) → ((k : ℕ) → count_by p (f k) ≤ 1) → ((k : ℕ) → k ≢ a → count_by p (f k) ≤ 0) →
    (s n : ℕ) → (count_by p (flat_map f (range_with_len s n)) ≤ 1) × (a < s → count_by p (flat_map f (range_with_len s n)) ≤ 0)
counted_once p f a one other s zero = (omega arith, λ _. omega arith)
counted_once p f a one other s (suc n) =
    let rest = counted_once p f a one other (s + 1) n in
    let parts : count_by p (f s ++ flat_map f (range_with_len (s + 1) n)) ≡ count_by p (f s) + count_by p (flat_map f (range_with_len (s + 1) n)) = sum_by-append (λ x. cond (p x) 1 0) (f s) (flat_map f (range_with_len (s + 1) n)) in
    let here : count_by p (f s) ≤ 1 = one s in (
      elim (cases_lt a (s + 1)) [
        | inl below ↦
            let none : count_by p (flat_map f (range_with_len (s + 1) n)) ≤ 0 = rest.1 below in
            omega arith
        | inr above ↦
            let none : count_by p (f s) ≤ 0 = other s (λ e. omega arith) in
            let few : count_by p (flat_map f (range_with_len (s + 1) n)) ≤ 1 = rest.0 in
            omega arith
      ],
      λ below.
          let none : count_by p (f s) ≤ 0 = other s (λ e. omega arith) in
          let later : count_by p (flat_map f (range_with_len (s + 1) n)) ≤ 0 = rest.1 (omega arith) in
          omega arith,
    )

-- the couple of these numbers
abbrev pub is_of : ℕ → ℕ → Couple → Bool
is_of a b couple = (a == couple.lower) && (b == couple.higher)

-- it stands once at most among all pairs
row_once : (a b lower n : ℕ) → count_by (is_of a b) (pairs_with lower n) ≤ 1
row_once a b lower n =
    let made : ℕ → Couple = λ higher. record { lower = lower; higher = higher } in
    subst (λ l. count_by (is_of a b) l ≤ 1) (flat_map_single made (range_with_len 0 n))
    (counted_once (is_of a b) (λ higher. made higher ∷ []) b
    (λ k. cond_one (is_of a b (made k)))
    (λ k ne. cond_zero (is_of a b (made k)) (λ e. ne (sym (eqb-true b k (and_parts (a == lower) (b == k) e).1)))) 0 n).0
  where
    cond_one : (t : Bool) → 0 + cond t 1 0 ≤ 1
    cond_one true = omega arith
    cond_one false = omega arith

    cond_zero : (t : Bool) → (t ≡ true → ⊥) → 0 + cond t 1 0 ≤ 0
    cond_zero true h = absurd (h refl)
    cond_zero false h = omega arith

pub pair_once : (a b n : ℕ) → count_by (is_of a b) (pairs_below n) ≤ 1
unfolding each_below
pair_once a b n =
    (counted_once (is_of a b) (λ lower. pairs_with lower n) a (λ lower. row_once a b lower n)
    (λ lower ne. count_row a b lower ne (range_with_len 0 n)) 0 n).0
  where
    count_row : (a b lower : ℕ) → lower ≢ a → (xs : List ℕ) → count_by (is_of a b) (map (λ higher. record { lower = lower; higher = higher }) xs) ≤ 0
    count_row a b lower ne [] = omega arith
    count_row a b lower ne (k ∷ xs) =
        let here : cond ((a == lower) && (b == k)) 1 0 ≤ 0 = cond_none ((a == lower) && (b == k)) (λ e. ne (sym (eqb-true a lower (and_parts (a == lower) (b == k) e).0))) in
        let rest : count_by (is_of a b) (map (λ higher. record { lower = lower; higher = higher }) xs) ≤ 0 = count_row a b lower ne xs in
        omega (arith, count_cons (is_of a b) (record { lower = lower; higher = k }) (map (λ higher. record { lower = lower; higher = higher }) xs))

-- both are of these numbers, the lower one first
abbrev is_pair_of : List ℕ → Couple → Bool
is_pair_of own couple = nat_lt couple.lower couple.higher && (has own couple.lower && has own couple.higher)

-- the one is x, the other one of these numbers
abbrev is_pair_with : ℕ → List ℕ → Couple → Bool
is_pair_with x us couple =
    nat_lt couple.lower couple.higher && (((x == couple.lower) && has us couple.higher) || ((x == couple.higher) && has us couple.lower))

-- the two are x and y
abbrev is_pair_with_one : ℕ → ℕ → Couple → Bool
is_pair_with_one x y couple =
    nat_lt couple.lower couple.higher && (((x == couple.lower) && (y == couple.higher)) || ((x == couple.higher) && (y == couple.lower)))

either_part : (lt a b p q r s : Bool) → (lt && ((a && (p || q)) || (b && (r || s)))) ≡ true →
    ((lt && ((a && p) || (b && r))) ≡ true) ⊎ ((lt && ((a && q) || (b && s))) ≡ true)
either_part lt a b p q r s h =
    let t = and_parts lt ((a && (p || q)) || (b && (r || s))) h in
    ⊎_elim
    (λ e.
    let ab = and_parts a (p || q) e in
    ⊎_elim
    (λ f. inl (and_from lt ((a && p) || (b && r)) t.0 (or_left (a && p) (b && r) (and_from a p ab.0 f))))
    (λ f. inr (and_from lt ((a && q) || (b && s)) t.0 (or_left (a && q) (b && s) (and_from a q ab.0 f))))
    (or_cases p q ab.1))
    (λ e.
    let ab = and_parts b (r || s) e in
    ⊎_elim
    (λ f. inl (and_from lt ((a && p) || (b && r)) t.0 (or_right (a && p) (b && r) (and_from b r ab.0 f))))
    (λ f. inr (and_from lt ((a && q) || (b && s)) t.0 (or_right (a && q) (b && s) (and_from b s ab.0 f))))
    (or_cases r s ab.1))
    (or_cases (a && (p || q)) (b && (r || s)) t.1)

one_once : (x y n : ℕ) → count_by (is_pair_with_one x y) (pairs_below n) ≤ 1
one_once x y n =
    elim (cases_lt x y) [
      | inl below ↦
          let few : count_by (is_of x y) (pairs_below n) ≤ 1 = pair_once x y n in
          let less : count_by (is_pair_with_one x y) (pairs_below n) ≤ count_by (is_of x y) (pairs_below n) =
          count_within (is_pair_with_one x y) (is_of x y) (λ c e. in_order x y c.lower c.higher below e) (pairs_below n) in
          omega arith
      | inr above ↦
          let few : count_by (is_of y x) (pairs_below n) ≤ 1 = pair_once y x n in
          let less : count_by (is_pair_with_one x y) (pairs_below n) ≤ count_by (is_of y x) (pairs_below n) =
          count_within (is_pair_with_one x y) (is_of y x) (λ c e. turned x y c.lower c.higher above e) (pairs_below n) in
          omega arith
    ]
  where
    in_order : (x y l h : ℕ) → x < y → (nat_lt l h && (((x == l) && (y == h)) || ((x == h) && (y == l)))) ≡ true → ((x == l) && (y == h)) ≡ true
    in_order x y l h below e =
        let t = and_parts (nat_lt l h) (((x == l) && (y == h)) || ((x == h) && (y == l))) e in
        let lt : l < h = ltb-true l h t.0 in
        ⊎_elim (λ f. f)
        (λ f.
        let b = and_parts (x == h) (y == l) f in
        let xh : x ≡ h = eqb-true x h b.0 in
        let yl : y ≡ l = eqb-true y l b.1 in
        absurd (omega arith))
        (or_cases ((x == l) && (y == h)) ((x == h) && (y == l)) t.1)

    turned : (x y l h : ℕ) → y ≤ x → (nat_lt l h && (((x == l) && (y == h)) || ((x == h) && (y == l)))) ≡ true → ((y == l) && (x == h)) ≡ true
    turned x y l h above e =
        let t = and_parts (nat_lt l h) (((x == l) && (y == h)) || ((x == h) && (y == l))) e in
        let lt : l < h = ltb-true l h t.0 in
        ⊎_elim
        (λ f.
        let b = and_parts (x == l) (y == h) f in
        let xl : x ≡ l = eqb-true x l b.0 in
        let yh : y ≡ h = eqb-true y h b.1 in
        absurd (omega arith))
        (λ f.
        let b = and_parts (x == h) (y == l) f in
        and_from (y == l) (x == h) b.1 b.0)
        (or_cases ((x == l) && (y == h)) ((x == h) && (y == l)) t.1)

-- with a number there are as many pairs as others, or fewer
with_few : (x : ℕ) (us : List ℕ) (n : ℕ) → count_by (is_pair_with x us) (pairs_below n) ≤ length us
unfolding has
with_few x [] n =
    count_none (is_pair_with x []) (λ c e. none (nat_lt c.lower c.higher) (x == c.lower) (x == c.higher) e) (pairs_below n)
  where
    none : (lt a b : Bool) → (lt && ((a && false) || (b && false))) ≡ true → ⊥
    none lt a b h =
        ⊎_elim
        (λ e. let bad : false ≡ true = (and_parts a false e).1 in cc)
        (λ e. let bad : false ≡ true = (and_parts b false e).1 in cc)
        (or_cases (a && false) (b && false) (and_parts lt ((a && false) || (b && false)) h).1)
with_few x (y ∷ us) n =
    let one : count_by (is_pair_with_one x y) (pairs_below n) ≤ 1 = one_once x y n in
    let rest : count_by (is_pair_with x us) (pairs_below n) ≤ length us = with_few x us n in
    let parts : count_by (is_pair_with x (y ∷ us)) (pairs_below n) ≤ count_by (is_pair_with_one x y) (pairs_below n) + count_by (is_pair_with x us) (pairs_below n) =
    count_either (is_pair_with x (y ∷ us)) (is_pair_with_one x y) (is_pair_with x us)
    (λ c. either_part (nat_lt c.lower c.higher) (x == c.lower) (x == c.higher) (y == c.higher) (has us c.higher) (y == c.lower) (has us c.lower)) (pairs_below n) in
    omega arith

-- how many pairs so many numbers make
pairs_among : ℕ → ℕ
pairs_among zero = 0
pairs_among (suc k) = k + pairs_among k

one_more : (x l h : ℕ) (p q : Bool) → (nat_lt l h && (((x == l) || p) && ((x == h) || q))) ≡ true →
    ((nat_lt l h && (p && q)) ≡ true) ⊎ ((nat_lt l h && (((x == l) && q) || ((x == h) && p))) ≡ true)
one_more x l h p q e =
    let t = and_parts (nat_lt l h) (((x == l) || p) && ((x == h) || q)) e in
    let lt : l < h = ltb-true l h t.0 in
    let b = and_parts ((x == l) || p) ((x == h) || q) t.1 in
    ⊎_elim
    (λ f.
    ⊎_elim
    (λ g.
    let xl : x ≡ l = eqb-true x l f in
    let xh : x ≡ h = eqb-true x h g in
    absurd (omega arith))
    (λ g. inr (and_from (nat_lt l h) (((x == l) && q) || ((x == h) && p)) t.0 (or_left ((x == l) && q) ((x == h) && p) (and_from (x == l) q f g))))
    (or_cases (x == h) q b.1))
    (λ f.
    ⊎_elim
    (λ g. inr (and_from (nat_lt l h) (((x == l) && q) || ((x == h) && p)) t.0 (or_right ((x == l) && q) ((x == h) && p) (and_from (x == h) p g f))))
    (λ g. inl (and_from (nat_lt l h) (p && q) t.0 (and_from p q f g)))
    (or_cases (x == h) q b.1))
    (or_cases (x == l) p b.0)

own_few : (own : List ℕ) (n : ℕ) → count_by (is_pair_of own) (pairs_below n) ≤ pairs_among (length own)
unfolding has pairs_among
own_few [] n =
    count_none (is_pair_of [])
    (λ c e. let bad : false ≡ true = (and_parts false false (and_parts (nat_lt c.lower c.higher) (false && false) e).1).0 in cc) (pairs_below n)
own_few (x ∷ us) n =
    let with : count_by (is_pair_with x us) (pairs_below n) ≤ length us = with_few x us n in
    let rest : count_by (is_pair_of us) (pairs_below n) ≤ pairs_among (length us) = own_few us n in
    let parts : count_by (is_pair_of (x ∷ us)) (pairs_below n) ≤ count_by (is_pair_of us) (pairs_below n) + count_by (is_pair_with x us) (pairs_below n) =
    count_either (is_pair_of (x ∷ us)) (is_pair_of us) (is_pair_with x us)
    (λ c. one_more x c.lower c.higher (has us c.lower) (has us c.higher)) (pairs_below n) in
    omega arith

six_make : (k : ℕ) → k ≤ 6 → pairs_among k ≤ 15
unfolding pairs_among
six_make zero h = omega arith
six_make (suc zero) h = omega arith
six_make (suc (suc zero)) h = omega arith
six_make (suc (suc (suc zero))) h = omega arith
six_make (suc (suc (suc (suc zero)))) h = omega arith
six_make (suc (suc (suc (suc (suc zero))))) h = omega arith
six_make (suc (suc (suc (suc (suc (suc zero)))))) h = omega arith
six_make (suc (suc (suc (suc (suc (suc (suc k))))))) h = absurd (omega arith)

-- a view's children make at most 15 couples
shape_few : (shape : List (List ℕ)) (n : ℕ) → ((v : ℕ) → length (get_or shape v []) ≤ 6) → count_by (is_couple shape) (pairs_below n) ≤ 15 * length shape
unfolding have_parent
shape_few [] n few =
    let none : count_by (is_couple []) (pairs_below n) ≤ 0 =
    count_none (is_couple []) (λ c e. let bad : false ≡ true = (and_parts (nat_lt c.lower c.higher) false e).1 in cc) (pairs_below n) in
    omega arith
shape_few (own ∷ shape) n few =
    let six : pairs_among (length own) ≤ 15 = six_make (length own) (few 0) in
    let here : count_by (is_pair_of own) (pairs_below n) ≤ pairs_among (length own) = own_few own n in
    let rest : count_by (is_couple shape) (pairs_below n) ≤ 15 * length shape = shape_few shape n (λ v. few (suc v)) in
    let parts : count_by (is_couple (own ∷ shape)) (pairs_below n) ≤ count_by (is_pair_of own) (pairs_below n) + count_by (is_couple shape) (pairs_below n) =
    count_either (is_couple (own ∷ shape)) (is_pair_of own) (is_couple shape)
    (λ c. either_parent (nat_lt c.lower c.higher) (has own c.lower && has own c.higher) (have_parent shape c.lower c.higher)) (pairs_below n) in
    omega arith
  where
    either_parent : (lt p q : Bool) → (lt && (p || q)) ≡ true → ((lt && p) ≡ true) ⊎ ((lt && q) ≡ true)
    either_parent lt p q e =
        let t = and_parts lt (p || q) e in
        ⊎_elim (λ f. inl (and_from lt p t.0 f)) (λ f. inr (and_from lt q t.0 f)) (or_cases p q t.1)

pub few_couples : (shape : List (List ℕ)) → IsShape shape → length (couples_of shape) ≤ 960
unfolding couples_of children_of
few_couples shape sh =
    let counted : length (filter (is_couple shape) (pairs_below (length shape))) ≡ count_by (is_couple shape) (pairs_below (length shape)) = length-filter (is_couple shape) (pairs_below (length shape)) in
    let few : count_by (is_couple shape) (pairs_below (length shape)) ≤ 15 * length shape = shape_few shape (length shape) sh.few_children in
    let views : length shape ≤ 64 = sh.few_views in
    omega arith
