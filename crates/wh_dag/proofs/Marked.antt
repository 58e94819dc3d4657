-- Views that are marked in a table, parent by parent, and levels no higher than the way down.
use Rattle.std.proofs.Common.{◌≡◌, ℕ, zero, suc, ◌+◌, ◌<◌, ◌≤◌, List, [], ◌∷◌, Bool, true, false, ◌||◌, eqb, take, length, get_or, map, refl, sym, ap, ◌∙◌, subst, ⊎_elim, arith}
use Rattle.std.proofs.Math.ListN.{set, replicate}
use Rattle.std.specs.List.{All}
use Rattle.std.proofs.lemmas.Bool.{cases_Bool, cases_lt, eqb-true, eq-eqb, false≢true, or_left, or_right, or_cases, both_ways}
use Rattle.std.proofs.lemmas.List.{get_or-set_same, get_or-set_other, get_or-replicate, get_or_past, length-replicate}
use Rattle.std.proofs.lemmas.List.Folds.{list_any_more}
use Rattle.wh_dag.specs.Kinds.{IsTree}
use Rattle.wh_dag.specs.Inner.Taken.{is_taken, AreFree}
use Rattle.wh_dag.specs.Level.{highest, level_over, level_within, level_of}
use Rattle.wh_dag.specs.Shape.{has, Distinct, IsShape, children_of}
use Rattle.wh_dag.proofs.Members.{has-head, has-tail}

pub has_at : (own : List ℕ) (k d : ℕ) → k < length own → has own (get_or own k d) ≡ true
has_at [] k d l = absurd (omega arith)
has_at (y ∷ ys) zero d l = has-head y ys
has_at (y ∷ ys) (suc k) d l = has-tail y (get_or ys k d) ys (has_at ys k d (omega arith))

-- a list that grows at its end
pub has_more : (xs : List ℕ) (k u : ℕ) → k < length xs → has (take (k + 1) xs) u ≡ (has (take k xs) u || eqb (get_or xs k 0) u)
unfolding has
has_more xs k u l = list_any_more (λ w. eqb w u) xs k 0 l

pub has_none : (u : ℕ) → has [] u ≡ false
unfolding has
has_none u = refl

-- of distinct members none stands before itself
pub not_before : (own : List ℕ) (k d : ℕ) → Distinct own → k < length own → has (take k own) (get_or own k d) ≡ true → ⊥
unfolding has Distinct
not_before [] k d a l m = omega arith
not_before (y ∷ ys) zero d a l m = false≢true m
not_before (y ∷ ys) (suc k) d a l m =
    ⊎_elim
    (λ e. both_ways (has ys y) a.0 (subst (λ z. has ys z ≡ true) (sym (eqb-true _ _ e)) (has_at ys k d (omega arith))))
    (λ t. not_before ys k d a.1 (omega arith) t)
    (or_cases _ _ m)

or_no : (x : Bool) → (x || false) ≡ x
or_no true = refl
or_no false = refl

pub or_none : (x y : Bool) → y ≡ false → (x || y) ≡ x
or_none x y e = ap (λ z. x || z) e ∙ or_no x

-- one view more is marked
pub taken_more : (old new initial : List Bool) (own : List ℕ) (k : ℕ) → k < length own → get_or own k 0 < length old →
    new ≡ set old (get_or own k 0) true →
    ((u : ℕ) → is_taken old u ≡ (is_taken initial u || has (take k own) u)) →
    (u : ℕ) → is_taken new u ≡ (is_taken initial u || has (take (k + 1) own) u)
taken_more old new initial own k l b e h u =
    ap (λ z. is_taken z u) e
    ∙ ⊎_elim
    (λ t. let s : get_or own k 0 ≡ u = eqb-true _ u t in
    subst (λ z. is_taken (set old (get_or own k 0) true) z ≡ true) s (get_or-set_same old (get_or own k 0) true false b)
    ∙ sym (or_right _ _ (has_more own k u l ∙ or_right _ _ t)))
    (λ t. get_or-set_other old (get_or own k 0) u true false (λ s. both_ways _ t (eq-eqb _ _ (sym s)))
    ∙ h u
    ∙ ap (λ z. is_taken initial u || z) (sym (has_more own k u l ∙ ap (λ z. has (take k own) u || z) t ∙ or_no _)))
    (cases_Bool (eqb (get_or own k 0) u))

-- none of these views was marked, as far as they have been looked at
pub free_more : (now initial : List Bool) (own : List ℕ) (k : ℕ) → k < length own →
    ((u : ℕ) → is_taken now u ≡ (is_taken initial u || has (take k own) u)) → is_taken now (get_or own k 0) ≡ false →
    AreFree initial (take k own) → AreFree initial (take (k + 1) own)
free_more now initial own k l h free f u m =
    ⊎_elim
    (λ t. f u t)
    (λ t. let s : get_or own k 0 ≡ u = eqb-true _ u t in
    subst (λ z. is_taken initial z ≡ false) s
    (⊎_elim
    (λ y. absurd (both_ways _ free (h (get_or own k 0) ∙ or_left _ _ y)))
    (λ n. n)
    (cases_Bool (is_taken initial (get_or own k 0)))))
    (or_cases _ _ (sym (has_more own k u l) ∙ m))

-- a view that is marked twice was marked before all of these
pub not_free : (now initial : List Bool) (own : List ℕ) (k : ℕ) → Distinct own → k < length own →
    ((u : ℕ) → is_taken now u ≡ (is_taken initial u || has (take k own) u)) → is_taken now (get_or own k 0) ≡ true →
    AreFree initial own → ⊥
not_free now initial own k d l h taken f =
    ⊎_elim
    (λ t. both_ways _ (f (get_or own k 0) (has_at own k 0 l)) t)
    (λ t. not_before own k 0 d l t)
    (or_cases _ _ (sym (h (get_or own k 0)) ∙ taken))

-- only a view has children
pub has_within : (shape : List (List ℕ)) (v u : ℕ) → has (children_of shape v) u ≡ true → v < length shape
unfolding children_of has
has_within shape v u m =
    ⊎_elim
    (λ l. l)
    (λ l. absurd (false≢true (sym (ap (λ z. has z u) (get_or_past shape v [] l)) ∙ m)))
    (cases_lt v (length shape))

-- The marks of a tree so far: a view is marked where one of the first so many is over it.
pub record IsMarked (shape : List (List ℕ)) (taken : List Bool) (n : ℕ) : Type 0 where
  pub has_parent : (u : ℕ) → is_taken taken u ≡ true → (v : ℕ) × (v < n) × (has (children_of shape v) u ≡ true)
  pub marked : (v u : ℕ) → v < n → has (children_of shape v) u ≡ true → is_taken taken u ≡ true

-- of the first so many views no two are over one
pub IsTreeBelow : List (List ℕ) → ℕ → Type 0
IsTreeBelow shape n =
    (child first second : ℕ) → first < n → second < n → has (children_of shape first) child ≡ true → has (children_of shape second) child ≡ true → first ≡ second

pub none_marked : (shape : List (List ℕ)) → IsMarked shape (replicate 64 false) 0
none_marked shape = record {
  has_parent = λ u t. absurd (both_ways _ (none u) t);
  marked = λ v u l m. absurd (omega arith);
}
  where
    none : (u : ℕ) → is_taken (replicate 64 false) u ≡ false
    none u =
        ⊎_elim
        (λ l. get_or-replicate 64 u false false l)
        (λ l. get_or_past (replicate 64 false) u false (omega (arith, length-replicate 64 false)))
        (cases_lt u 64)

-- the marks after one view more
pub marked_more : (shape : List (List ℕ)) (old new : List Bool) (own : List ℕ) (n : ℕ) → own ≡ children_of shape n →
    ((u : ℕ) → is_taken new u ≡ (is_taken old u || has own u)) → IsMarked shape old n → IsMarked shape new (n + 1)
marked_more shape old new own n e h m = record {
  has_parent = λ u t. ⊎_elim (λ y. let r = m.has_parent u y in (r.0, omega (arith, r.1), r.2)) (λ y. (n, omega arith, subst (λ z. has z u ≡ true) e y)) (or_cases _ _ (sym (h u) ∙ t));
  marked = λ v u l t. h u ∙ ⊎_elim (λ b. or_left _ _ (m.marked v u b t)) (λ a. or_right _ _ (subst (λ z. has z u ≡ true) (sym e) (subst (λ z. has (children_of shape z) u ≡ true) (last v l a) t))) (cases_lt v n);
}
  where
    last : (v : ℕ) → v < n + 1 → n ≤ v → v ≡ n
    last v l a = omega arith

-- where none of its children is marked, the next view has no child together with one before it
pub tree_more : (shape : List (List ℕ)) (old : List Bool) (own : List ℕ) (n : ℕ) → own ≡ children_of shape n →
    IsMarked shape old n → AreFree old own → IsTreeBelow shape n → IsTreeBelow shape (n + 1)
unfolding IsTreeBelow
tree_more shape old own n e m f t child first second l r a b =
    ⊎_elim
    (λ (x : first < n). ⊎_elim
    (λ (y : second < n). t child first second x y a b)
    (λ (y : n ≤ second). absurd (apart first second x (omega arith) a b))
    (cases_lt second n))
    (λ (x : n ≤ first). ⊎_elim
    (λ (y : second < n). absurd (apart second first y (omega arith) b a))
    (λ (y : n ≤ second). omega arith)
    (cases_lt second n))
    (cases_lt first n)
  where
    apart : (v w : ℕ) → v < n → w ≡ n → has (children_of shape v) child ≡ true → has (children_of shape w) child ≡ true → ⊥
    apart v w x s p q =
        both_ways _ (f child (subst (λ z. has z child ≡ true) (ap (children_of shape) s ∙ sym e) q)) (m.marked v child x p)

-- in a tree no child of the next view is marked
pub free_in_tree : (shape : List (List ℕ)) (old : List Bool) (own : List ℕ) (n : ℕ) → own ≡ children_of shape n →
    IsMarked shape old n → IsTree shape → AreFree old own
free_in_tree shape old own n e m t u y =
    ⊎_elim
    (λ taken. let r = m.has_parent u taken in
    let s : r.0 ≡ n = t u r.0 n r.2 (subst (λ z. has z u ≡ true) e y) in
    let l : r.0 < n = r.1 in
    absurd (omega arith))
    (λ free. free)
    (cases_Bool (is_taken old u))

pub tree_all : (shape : List (List ℕ)) (n : ℕ) → length shape ≤ n → IsTreeBelow shape n → IsTree shape
unfolding IsTreeBelow
tree_all shape n l t child first second a b = t child first second (omega (arith, has_within shape first child a)) (omega (arith, has_within shape second child b)) a b

-- a level is no higher than the way down is long
highest_small : (f : ℕ → ℕ) (n : ℕ) (xs : List ℕ) → ((u : ℕ) → f u ≤ n) → highest (map f xs) ≤ n
highest_small f n [] h = omega arith
highest_small f n (x ∷ xs) h = let a = h x in let b = highest_small f n xs h in omega arith

level_over_small : (f : ℕ → ℕ) (n : ℕ) (xs : List ℕ) → ((u : ℕ) → f u ≤ n) → level_over (map f xs) ≤ suc n
level_over_small f n [] h = omega arith
level_over_small f n (x ∷ xs) h = let a = highest_small f n (x ∷ xs) h in omega arith

level_within_small : (shape : List (List ℕ)) (n v : ℕ) → level_within n shape v ≤ n
unfolding level_within
level_within_small shape zero v = omega arith
level_within_small shape (suc n) v = level_over_small (level_within n shape) n (children_of shape v) (level_within_small shape n)

pub level_small : (shape : List (List ℕ)) (v n : ℕ) → v < n → level_of shape v ≤ n
unfolding level_of
level_small shape v n l = let a = level_within_small shape (suc v) v in omega arith

pub below_none : (shape : List (List ℕ)) → IsTreeBelow shape 0
unfolding IsTreeBelow
below_none shape child first second l r a b = absurd (omega arith)

-- the children of a view are below any number that is above it
pub children_below : (shape : List (List ℕ)) (v n : ℕ) (own : List ℕ) → IsShape shape → v ≤ n → own ≡ children_of shape v → All (λ u. u < n) own
children_below shape v n own s l e k d m =
    let h : has own (get_or own k d) ≡ true = has_at own k d m in
    let low : get_or own k d < v = s.lower v (get_or own k d) (subst (λ z. has z (get_or own k d) ≡ true) e h) in
    omega arith
