-- The lists of sibling pairs and couples, one number more at a time.
use Rattle.std.proofs.Common.{◌≡◌, ◌≢◌, ℕ, zero, suc, ◌+◌, ◌<◌, List, [], ◌∷◌, ◌++◌, Bool, true, false, map, filter, length, refl, sym, ap, subst, ◌∙◌, ◌&&◌, nat_lt, arith, cond, inl, inr, Some, Ok, Err, zero-add}
use Rattle.std.specs.Prelude.{slice_get, Result, OnErr}
use Rattle.std.specs.List.{range_with_len, flat_map}
use Rattle.std.proofs.lemmas.List.Elements.{filter-append}
use Rattle.std.proofs.lemmas.List.FromFn.{filter_of_map_range_with_len_more, get_or-range_with_len, length-range_with_len, get_or-map-range_with_len, length-map-range_with_len}
use Rattle.std.proofs.lemmas.Option.{slice_get-get_or, same_Some}
use Rattle.std.proofs.lemmas.Grind.{flat_map-append}
use Rattle.std.proofs.lemmas.List.{append-nil, append_assoc}
use Rattle.std.proofs.lemmas.Bool.{cases_lt, cond-true, cond-false, false≢true}
use Rattle.wh_dag.specs.Shape.{has, children_of}
use Rattle.wh_dag.specs.Siblings.{is_sibling_pair, each_below, triples_with}

range_last : (a n j : ℕ) → a + n ≡ j → range_with_len a (suc n) ≡ range_with_len a n ++ j ∷ []
range_last a zero j e = let same : a ≡ j = omega arith in ap (λ k. k ∷ []) same
range_last a (suc n) j e = ap (λ l. a ∷ l) (range_last (a + 1) n j (omega arith))

-- what is made of one number more
pub each_more : {A : Type 0} (f : ℕ → List A) (n : ℕ) → each_below f (n + 1) ≡ each_below f n ++ f n
unfolding each_below
each_more f n =
    let on : n + 1 ≡ suc n = omega arith in
    ap (λ k. flat_map f (range_with_len 0 k)) on
    ∙ ap (flat_map f) (range_last 0 n n (omega arith))
    ∙ flat_map-append f (range_with_len 0 n) (n ∷ [])
    ∙ ap (λ l. flat_map f (range_with_len 0 n) ++ l) (append-nil (f n))

pub each_none : {A : Type 0} (f : ℕ → List A) → each_below f 0 ≡ []
unfolding each_below
each_none f = refl

pub kept_more : {A : Type 0} (p : A → Bool) (f : ℕ → List A) (n : ℕ) → filter p (each_below f (n + 1)) ≡ filter p (each_below f n) ++ filter p (f n)
kept_more p f n = ap (filter p) (each_more f n) ∙ filter-append p (each_below f n) (f n)

pub kept_none : {A : Type 0} (p : A → Bool) (f : ℕ → List A) → filter p (each_below f 0) ≡ []
kept_none p f = ap (filter p) (each_none f)

-- a list grows by what one number more adds
pub added_each : {A : Type 0} (p : A → Bool) (f : ℕ → List A) (n : ℕ) (before so_far now : List A) → so_far ≡ before ++ filter p (each_below f n) → now ≡ so_far ++ filter p (f n) → now ≡ before ++ filter p (each_below f (n + 1))
added_each p f n before so_far now had more =
    more
    ∙ ap (λ l. l ++ filter p (f n)) had
    ∙ append_assoc before (filter p (each_below f n)) (filter p (f n))
    ∙ ap (λ l. before ++ l) (sym (kept_more p f n))

-- and stays where that is nothing
pub skipped_each : {A : Type 0} (p : A → Bool) (f : ℕ → List A) (n : ℕ) (before so_far : List A) → so_far ≡ before ++ filter p (each_below f n) → filter p (f n) ≡ [] → so_far ≡ before ++ filter p (each_below f (n + 1))
skipped_each p f n before so_far had none = added_each p f n before so_far so_far had (sym (ap (λ l. so_far ++ l) none ∙ append-nil so_far))

-- the same for what is made of each number alone
pub added_one : {A : Type 0} (p : A → Bool) (f : ℕ → A) (n : ℕ) (before so_far : List A) → so_far ≡ before ++ filter p (map f (range_with_len 0 n)) → p (f n) ≡ true → so_far ++ f n ∷ [] ≡ before ++ filter p (map f (range_with_len 0 (n + 1)))
added_one p f n before so_far had kept =
    ap (λ l. l ++ f n ∷ []) had
    ∙ append_assoc before (filter p (map f (range_with_len 0 n))) (f n ∷ [])
    ∙ ap (λ l. before ++ (filter p (map f (range_with_len 0 n)) ++ l)) (sym (cond-true (p (f n)) (f n ∷ []) [] kept))
    ∙ ap (λ l. before ++ l) (sym (filter_of_map_range_with_len_more p f 0 n n (omega arith)))

pub skipped_one : {A : Type 0} (p : A → Bool) (f : ℕ → A) (n : ℕ) (before so_far : List A) → so_far ≡ before ++ filter p (map f (range_with_len 0 n)) → p (f n) ≡ false → so_far ≡ before ++ filter p (map f (range_with_len 0 (n + 1)))
skipped_one p f n before so_far had out =
    had
    ∙ ap (λ l. before ++ l) (sym (append-nil (filter p (map f (range_with_len 0 n)))))
    ∙ ap (λ l. before ++ (filter p (map f (range_with_len 0 n)) ++ l)) (sym (cond-false (p (f n)) (f n ∷ []) [] out))
    ∙ ap (λ l. before ++ l) (sym (filter_of_map_range_with_len_more p f 0 n n (omega arith)))

pub none_kept : {A : Type 0} (p : A → Bool) (f : ℕ → A) (xs : List ℕ) → ((x : ℕ) → p (f x) ≡ false) → filter p (map f xs) ≡ []
none_kept p f [] out = refl
none_kept p f (x ∷ xs) out = cond-false (p (f x)) (f x ∷ filter p (map f xs)) (filter p (map f xs)) (out x) ∙ none_kept p f xs out

-- a view that is no child is in no sibling pair of the parent
pub no_pair_with : (shape : List (List ℕ)) (parent lower n : ℕ) → has (children_of shape parent) lower ≡ false → filter (is_sibling_pair shape) (triples_with parent lower n) ≡ []
no_pair_with shape parent lower n out =
    none_kept (is_sibling_pair shape) (λ higher. record { parent = parent; lower = lower; higher = higher }) (range_with_len 0 n) (λ higher. middle (nat_lt lower higher) (has (children_of shape parent) lower) (has (children_of shape parent) higher) out)
  where
    middle : (a b c : Bool) → b ≡ false → a && (b && c) ≡ false
    middle true true c e = absurd (false≢true (sym e))
    middle true false c e = refl
    middle false b c e = refl

-- a list that begins with nothing grows so
pub made_each : {A : Type 0} (p : A → Bool) (f : ℕ → List A) (n : ℕ) (so_far now : List A) → so_far ≡ filter p (each_below f n) → now ≡ so_far ++ filter p (f n) → now ≡ filter p (each_below f (n + 1))
made_each p f n so_far now had more = more ∙ ap (λ l. l ++ filter p (f n)) had ∙ sym (kept_more p f n)

-- where nothing is kept of a list, neither its first member is nor anything of the rest
none_of : {A : Type 0} (p : A → Bool) (x : A) (xs : List A) (b : Bool) → p x ≡ b → cond b (x ∷ filter p xs) (filter p xs) ≡ [] → (p x ≡ false) × (filter p xs ≡ [])
none_of p x xs true e none = cc
none_of p x xs false e none = (e, none)

-- a list keeps something where it has a member that passes
pub some_kept : {A : Type 0} (p : A → Bool) (xs : List A) (k : ℕ) (x : A) → slice_get xs k ≡ Some x → p x ≡ true → filter p xs ≢ []
some_kept p [] k x at passes none = cc
some_kept p (y ∷ ys) zero x at passes none =
    let same : y ≡ x = same_Some y x at in
    false≢true (sym (none_of p y ys (p y) refl none).0 ∙ ap p same ∙ passes)
some_kept p (y ∷ ys) (suc k) x at passes none = some_kept p ys k x at passes (none_of p y ys (p y) refl none).1

pub some_below : (p : ℕ → Bool) (n k : ℕ) → k < n → p k ≡ true → filter p (range_with_len 0 n) ≢ []
some_below p n k low passes =
    let within : k < length (range_with_len 0 n) = rw length-range_with_len low in
    some_kept p (range_with_len 0 n) k k (slice_get-get_or (range_with_len 0 n) k 0 within ∙ ap Some (get_or-range_with_len 0 n k 0 low ∙ zero-add k)) passes

pub some_one : {A : Type 0} (p : A → Bool) (f : ℕ → A) (n k : ℕ) → k < n → p (f k) ≡ true → filter p (map f (range_with_len 0 n)) ≢ []
some_one p f n k low passes =
    let within : k < length (map f (range_with_len 0 n)) = rw (length-map-range_with_len f 0 n) low in
    some_kept p (map f (range_with_len 0 n)) k (f k) (slice_get-get_or (map f (range_with_len 0 n)) k (f k) within ∙ ap Some (get_or-map-range_with_len f 0 n k k (f k) low (omega arith))) passes

none_together : {A : Type 0} (xs ys : List A) → xs ++ ys ≡ [] → (xs ≡ []) × (ys ≡ [])
none_together [] ys e = (refl, e)
none_together (x ∷ xs) ys e = cc

-- where something is kept of what one number makes, something is kept of what all numbers make
pub some_each : {A : Type 0} (p : A → Bool) (f : ℕ → List A) (n k : ℕ) → k < n → filter p (f k) ≢ [] → filter p (each_below f n) ≢ []
some_each p f zero k low some none = absurd (omega arith)
some_each p f (suc n) k low some none =
    let on : suc n ≡ n + 1 = omega arith in
    let both = none_together (filter p (each_below f n)) (filter p (f n)) (sym (kept_more p f n) ∙ subst (λ m. filter p (each_below f m) ≡ []) on none) in
    elim (cases_lt k n) [
      | inl less ↦ some_each p f n k less some both.0
      | inr more ↦ let here : n ≡ k = omega arith in some (subst (λ m. filter p (f m) ≡ []) here both.1)
    ]

-- what holds at all holds where a call was refused
pub on_err : {T E P : Type 0} (r : Result T E) → P → OnErr r P
on_err (Ok v) p = tt
on_err (Err e) p = p
