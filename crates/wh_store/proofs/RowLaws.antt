-- Rows in rising order that are left out, changed, or put in.
use Rattle.std.proofs.Common.{◌≡◌, refl, sym, ap, subst, ◌∙◌, ℕ, zero, suc, ◌<◌, ◌≤◌, List, [], ◌∷◌, length, map, take, Bool, true, false, cond, Option, Some, None, Result, Ok, Err, OnOk, OnErr, arith}
use Rattle.std.specs.Prelude.{filter, option_map, slice_index_or, slice_set}
use Rattle.std.specs.List.{AllByRecursion}
use Rattle.std.specs.List.Sorted.{IsStrictlySortedBy}
use Rattle.std.specs.Map.{keys_of}
use Rattle.std.specs.declared.cmp.Ordering.TheVariants.{Less}
use Rattle.wh_pieces.specs.Place.{AreRisingRows}
use Rattle.wh_pieces.specs.Pieces.{found}
use Rattle.wh_pieces.proofs.BringLaws.{none_after}
use Rattle.wh_row.specs.Row.{Row, row_cmp, is_row}
use Rattle.wh_row.proofs.BagLaws.{same_row}
use Rattle.wh_versions.specs.Rows.{Pairs}
use Rattle.wh_store.specs.Slots.{Paired}

-- of these rows those whose pairs pass the test
abbrev pub those : (Pairs → Bool) → Paired → Paired
those p es = filter (λ e. p e.1) es

-- what is left of a row's pairs
abbrev pub left_of : (Pairs → Bool) → Option Pairs → Option Pairs
left_of p None = None
left_of p (Some ps) = cond (p ps) (Some ps) None

below_those : (p : Pairs → Bool) (k : Row) (es : Paired) → AllByRecursion (λ y. row_cmp k y ≡ Less) (keys_of es) → AllByRecursion (λ y. row_cmp k y ≡ Less) (keys_of (those p es))
below_those p k [] h = tt
below_those p k (e ∷ es) h = elim (p e.1) as (λ t. AllByRecursion (λ y. row_cmp k y ≡ Less) (keys_of (cond t (e ∷ those p es) (those p es)))) [
  | true ↦ (h.0, below_those p k es h.1)
  | false ↦ below_those p k es h.1
]

pub rising_those : (p : Pairs → Bool) (es : Paired) → AreRisingRows es → AreRisingRows (those p es)
unfolding IsStrictlySortedBy
rising_those p [] h = tt
rising_those p (e ∷ es) h = elim (p e.1) as (λ t. AreRisingRows (cond t (e ∷ those p es) (those p es))) [
  | true ↦ (below_those p e.0 es h.0, rising_those p es h.1)
  | false ↦ rising_those p es h.1
]

rising_rest : (e : Row × Pairs) (es : Paired) → AreRisingRows (e ∷ es) → AreRisingRows es
unfolding IsStrictlySortedBy
rising_rest e es h = h.1

-- what is found of those is what is left of what was found
pub found_those : (p : Pairs → Bool) (es : Paired) (q : Row) → AreRisingRows es → found q (those p es) ≡ left_of p (found q es)
found_those p [] q h = refl
found_those p (e ∷ es) q h = elim (is_row q e.0) as (λ t. is_row q e.0 ≡ t → found q (those p (e ∷ es)) ≡ left_of p (cond t (Some e.1) (found q es))) [
  | true ↦ λ t. elim (p e.1) as (λ b. p e.1 ≡ b → found q (cond b (e ∷ those p es) (those p es)) ≡ cond b (Some e.1) None) [
    | true ↦ λ b. ap (λ x. cond x (Some e.1) (found q (those p es))) t
    | false ↦ λ b. found_those p es q (rising_rest e es h) ∙ ap (left_of p) (ap (λ r. found r es) (same_row q e.0 t) ∙ none_after e es h)
  ] refl
  | false ↦ λ t. elim (p e.1) as (λ b. found q (cond b (e ∷ those p es) (those p es)) ≡ left_of p (found q es)) [
    | true ↦ ap (λ x. cond x (Some e.1) (found q (those p es))) t ∙ found_those p es q (rising_rest e es h)
    | false ↦ found_those p es q (rising_rest e es h)
  ]
] refl

-- two tests, in either order
pub those_turned : (p r : Pairs → Bool) (es : Paired) → those p (those r es) ≡ those r (those p es)
those_turned p r [] = refl
those_turned p r (e ∷ es) = elim (r e.1) as (λ b. r e.1 ≡ b → those p (cond b (e ∷ those r es) (those r es)) ≡ those r (cond (p e.1) (e ∷ those p es) (those p es))) [
  | true ↦ λ b. elim (p e.1) as (λ a. cond a (e ∷ those p (those r es)) (those p (those r es)) ≡ those r (cond a (e ∷ those p es) (those p es))) [
    | true ↦ ap (λ xs. e ∷ xs) (those_turned p r es) ∙ ap (λ x. cond x (e ∷ those r (those p es)) (those r (those p es))) (sym b)
    | false ↦ those_turned p r es
  ]
  | false ↦ λ b. elim (p e.1) as (λ a. those p (those r es) ≡ those r (cond a (e ∷ those p es) (those p es))) [
    | true ↦ those_turned p r es ∙ ap (λ x. cond x (e ∷ those r (those p es)) (those r (those p es))) (sym b)
    | false ↦ those_turned p r es
  ]
] refl

-- each row with other pairs
abbrev pub changed : (Pairs → Pairs) → Paired → Paired
changed f es = map (λ e. (e.0, f e.1)) es

changed_keys : (f : Pairs → Pairs) (es : Paired) → keys_of (changed f es) ≡ keys_of es
changed_keys f [] = refl
changed_keys f (e ∷ es) = ap (λ rs. e.0 ∷ rs) (changed_keys f es)

pub rising_changed : (f : Pairs → Pairs) (es : Paired) → AreRisingRows es → AreRisingRows (changed f es)
rising_changed f es h = subst (λ (rs : List Row). IsStrictlySortedBy row_cmp rs) (sym (changed_keys f es)) h

pub found_changed : (f : Pairs → Pairs) (es : Paired) (q : Row) → found q (changed f es) ≡ option_map f (found q es)
found_changed f [] q = refl
found_changed f (e ∷ es) q = elim (is_row q e.0) as (λ t. cond t (Some (f e.1)) (found q (changed f es)) ≡ option_map f (cond t (Some e.1) (found q es))) [
  | true ↦ refl
  | false ↦ found_changed f es q
]

-- ---- the first of a list changed

pub some_changed : {A : Type 0} → (A → A) → ℕ → List A → List A
some_changed f zero xs = xs
some_changed f (suc i) [] = []
some_changed f (suc i) (x ∷ xs) = f x ∷ some_changed f i xs

pub next_changed : {A : Type 0} (f : A → A) (i : ℕ) (xs : List A) (x : A) → i < length (some_changed f i xs) → x ≡ slice_index_or (some_changed f i xs) i x → slice_set (some_changed f i xs) i (f x) ≡ some_changed f (suc i) xs
unfolding some_changed
next_changed f zero [] x l e = absurd (omega arith)
next_changed f zero (y ∷ ys) x l e = ap (λ z. f z ∷ ys) e
next_changed f (suc i) [] x l e = absurd (omega arith)
next_changed f (suc i) (y ∷ ys) x l e = ap (λ zs. f y ∷ zs) (next_changed f i ys x (omega arith) e)

-- the next of them has not been changed
pub not_changed : {A : Type 0} (f : A → A) (i : ℕ) (xs : List A) (x : A) → i < length (some_changed f i xs) → x ≡ slice_index_or (some_changed f i xs) i x → x ≡ slice_index_or xs i x
unfolding some_changed
not_changed f zero xs x l e = e
not_changed f (suc i) [] x l e = absurd (omega arith)
not_changed f (suc i) (y ∷ ys) x l e = not_changed f i ys x (omega arith) e

pub length_changed : {A : Type 0} (f : A → A) (i : ℕ) (xs : List A) → length (some_changed f i xs) ≡ length xs
unfolding some_changed
length_changed f zero xs = refl
length_changed f (suc i) [] = refl
length_changed f (suc i) (y ∷ ys) = ap suc (length_changed f i ys)

pub all_changed : {A : Type 0} (f : A → A) (i : ℕ) (xs : List A) → length xs ≤ i → some_changed f i xs ≡ map f xs
unfolding some_changed
all_changed f zero [] l = refl
all_changed f zero (y ∷ ys) l = absurd (omega arith)
all_changed f (suc i) [] l = refl
all_changed f (suc i) (y ∷ ys) l = ap (λ zs. f y ∷ zs) (all_changed f i ys (omega arith))

pub none_changed : {A : Type 0} (f : A → A) (xs : List A) → xs ≡ some_changed f 0 xs
unfolding some_changed
none_changed f xs = refl

-- what holds of the first of a list, and of the next
pub all_next : {A : Type 0} (P : A → Type 0) (i : ℕ) (xs : List A) (x : A) → i < length xs → x ≡ slice_index_or xs i x → P x → AllByRecursion P (take i xs) → AllByRecursion P (take (suc i) xs)
all_next P zero [] x l e p h = absurd (omega arith)
all_next P zero (y ∷ ys) x l e p h = (subst P e p, tt)
all_next P (suc i) [] x l e p h = absurd (omega arith)
all_next P (suc i) (y ∷ ys) x l e p h = (h.0, all_next P i ys x (omega arith) e p h.1)

pub all_taken : {A : Type 0} (P : A → Type 0) (i : ℕ) (xs : List A) → length xs ≤ i → AllByRecursion P (take i xs) → AllByRecursion P xs
all_taken P zero [] l h = tt
all_taken P zero (y ∷ ys) l h = absurd (omega arith)
all_taken P (suc i) [] l h = tt
all_taken P (suc i) (y ∷ ys) l h = (h.0, all_taken P i ys (omega arith) h.1)

-- ---- either way that a call ended

pub on_ok : {A E : Type 0} (r : Result A E) (P Q : Type 0) → OnOk r P → (P → Q) → OnOk r Q
on_ok (Ok x) P Q p f = f p
on_ok (Err x) P Q p f = tt

pub on_err : {A E : Type 0} (r : Result A E) (P Q : Type 0) → OnErr r P → (P → Q) → OnErr r Q
on_err (Ok x) P Q p f = tt
on_err (Err x) P Q p f = f p
