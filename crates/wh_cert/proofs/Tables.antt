-- A table of a relation between views, looked up and written.
use Rattle.std.proofs.Common.{◌≡◌, ◌≢◌, ℕ, ◌+◌, ◌*◌, ◌<◌, ◌≤◌, List, [], Bool, true, false, ◌&&◌, ◌||◌, eqb, ltb, take, refl, sym, ap, ◌∙◌, subst, length, get_or, ⊎_elim, arith}
use Rattle.std.proofs.Math.ListN.{set, replicate}
use Rattle.std.proofs.lemmas.Bool.{cases_Bool, eqb-true, eq-eqb, ne_eqb, ltb-true, lt-ltb, le-ltb, and_parts, and_from, and_right, or_left, both_ways, cases_order, false_from_ne_true}
use Rattle.std.proofs.lemmas.List.{get_or-set_same, get_or-set_other, get_or-replicate, take_all}
use Rattle.std.proofs.lemmas.List.Folds.{list_any_more}
use Rattle.wh_dag.specs.Shape.{has, children_of}
use Rattle.wh_dag.specs.Siblings.{have_parent}
use Rattle.wh_strategy.proofs.Found.{has_within}
use Rattle.wh_cert.specs.Graph.{decides}
use Rattle.wh_cert.specs.Relations.{related}

-- what stands in the table, where the two are views
pub related_at : (cells : List Bool) (u w : ℕ) → u < 64 → w < 64 → related cells u w ≡ get_or cells (64 * u + w) false
unfolding related
related_at cells u w l m = rw (lt-ltb u 64 l, lt-ltb w 64 m) refl

-- no two are related beyond the views
pub related_past : (cells : List Bool) (u w : ℕ) → related cells u w ≡ true → (u < 64) × (w < 64)
unfolding related
related_past cells u w h = let p = and_parts _ _ h in let q = and_parts _ _ p.1 in (ltb-true u 64 p.0, ltb-true w 64 q.0)

pub related_none : (u w : ℕ) → related (replicate 4096 false) u w ≡ false
unfolding related
related_none u w =
    ⊎_elim
    (λ t. let p = and_parts _ _ t in let q = and_parts _ _ p.1 in
    let l : u < 64 = ltb-true u 64 p.0 in
    let m : w < 64 = ltb-true w 64 q.0 in
    absurd (both_ways _ (get_or-replicate 4096 (64 * u + w) false false (omega arith)) q.1))
    (λ f. f)
    (cases_Bool _)

-- one couple more
pub related_more : (cells : List Bool) (u w a b : ℕ) → length cells ≡ 4096 → u < 64 → w < 64 → related (set cells (64 * u + w) true) a b ≡ ((eqb u a && eqb w b) || related cells a b)
unfolding related
related_more cells u w a b n l m =
    ⊎_elim
    (λ t. let p = and_parts _ _ t in
    let e : u ≡ a = eqb-true u a p.0 in
    let f : w ≡ b = eqb-true w b p.1 in
    there e f ∙ sym (or_left _ _ t))
    (λ t. elsewhere t ∙ sym (ap (λ z. z || related cells a b) t))
    (cases_Bool (eqb u a && eqb w b))
  where
    there : u ≡ a → w ≡ b → related (set cells (64 * u + w) true) a b ≡ true
    there e f =
        subst (λ z. related (set cells (64 * u + w) true) z b ≡ true) e
        (subst (λ z. related (set cells (64 * u + w) true) u z ≡ true) f
        (related_at (set cells (64 * u + w) true) u w l m ∙ get_or-set_same cells (64 * u + w) true false (omega arith)))

    apart : (eqb u a && eqb w b) ≡ false → a < 64 → b < 64 → 64 * a + b ≢ 64 * u + w
    apart t x y e =
        let i : u ≡ a = omega arith in
        let j : w ≡ b = omega arith in
        both_ways _ t (and_from _ _ (eq-eqb u a i) (eq-eqb w b j))

    elsewhere : (eqb u a && eqb w b) ≡ false → related (set cells (64 * u + w) true) a b ≡ related cells a b
    elsewhere t =
        ⊎_elim
        (λ x. ⊎_elim
        (λ y. ap (λ z. ltb a 64 && (ltb b 64 && z)) (get_or-set_other cells (64 * u + w) (64 * a + b) true false (apart t (ltb-true a 64 x) (ltb-true b 64 y))))
        (λ y. rw y refl)
        (cases_Bool (ltb b 64)))
        (λ x. rw x refl)
        (cases_Bool (ltb a 64))

-- a list that grows at its end, looked up
pub has_more : (xs : List ℕ) (k b : ℕ) → k < length xs → has (take (k + 1) xs) b ≡ (has (take k xs) b || eqb (get_or xs k 0) b)
unfolding has
has_more xs k b l = list_any_more (λ w. eqb w b) xs k 0 l

-- a row that grows by one
row_of : (x h w r : Bool) → ((x && w) || ((x && h) || r)) ≡ ((x && (h || w)) || r)
row_of true true true r = refl
row_of true true false r = refl
row_of true false true r = refl
row_of true false false r = refl
row_of false h w r = refl

pub row_more : (old new initial : List Bool) (u : ℕ) (row : List ℕ) (k : ℕ) → k < length row → ((a b : ℕ) → related old a b ≡ ((eqb u a && has (take k row) b) || related initial a b)) → ((a b : ℕ) → related new a b ≡ ((eqb u a && eqb (get_or row k 0) b) || related old a b)) → (a b : ℕ) → related new a b ≡ ((eqb u a && has (take (k + 1) row) b) || related initial a b)
row_more old new initial u row k l h g a b =
    g a b ∙ ap (λ z. (eqb u a && eqb (get_or row k 0) b) || z) (h a b)
    ∙ row_of (eqb u a) (has (take k row) b) (eqb (get_or row k 0) b) (related initial a b)
    ∙ ap (λ z. (eqb u a && z) || related initial a b) (sym (has_more row k b l))

-- the rows of one view more
or_no : (x : Bool) → (x || false) ≡ x
or_no true = refl
or_no false = refl

pub rows_more : (shape : List (List ℕ)) (old new : List Bool) (v : ℕ) → ((a b : ℕ) → related old a b ≡ (ltb a v && has (children_of shape a) b)) → ((a b : ℕ) → related new a b ≡ ((eqb v a && has (children_of shape v) b) || related old a b)) → (a b : ℕ) → related new a b ≡ (ltb a (v + 1) && has (children_of shape a) b)
rows_more shape old new v h g a b =
    g a b ∙ ap (λ z. (eqb v a && has (children_of shape v) b) || z) (h a b) ∙ both
  where
    both : ((eqb v a && has (children_of shape v) b) || (ltb a v && has (children_of shape a) b)) ≡ (ltb a (v + 1) && has (children_of shape a) b)
    both =
        ⊎_elim
        (λ e.
        let t : ltb a (v + 1) ≡ true = lt-ltb a (v + 1) (omega arith) in
        let f : ltb a v ≡ false = le-ltb a v (omega arith) in
        let i : eqb v a ≡ true = eq-eqb v a e in
        rw (t, f, i) (or_no (has (children_of shape v) b) ∙ ap (λ z. has (children_of shape z) b) e))
        (λ o.
        let i : eqb v a ≡ false = ne_eqb v a (λ e. ⊎_elim (λ (l : v < a). omega arith) (λ (l : a < v). omega arith) o) in
        ⊎_elim
        (λ (l : v < a).
        let t : ltb a (v + 1) ≡ false = le-ltb a (v + 1) (omega arith) in
        let f : ltb a v ≡ false = le-ltb a v (omega arith) in
        rw (t, f, i) refl)
        (λ (l : a < v).
        let t : ltb a (v + 1) ≡ true = lt-ltb a (v + 1) (omega arith) in
        let f : ltb a v ≡ true = lt-ltb a v l in
        rw (t, f, i) refl)
        o)
        (cases_order v a)

pub rows_none : (shape : List (List ℕ)) (cells : List Bool) → ((a b : ℕ) → related cells a b ≡ false) → (a b : ℕ) → related cells a b ≡ (ltb a 0 && has (children_of shape a) b)
rows_none shape cells h a b = h a b ∙ sym (ap (λ z. z && has (children_of shape a) b) (le-ltb a 0 (omega arith)))

pub rows_all : (shape : List (List ℕ)) (cells : List Bool) (v : ℕ) → v ≡ length shape → ((a b : ℕ) → related cells a b ≡ (ltb a v && has (children_of shape a) b)) → (a b : ℕ) → related cells a b ≡ has (children_of shape a) b
rows_all shape cells v n h a b = h a b ∙ whole (has (children_of shape a) b) refl
  where
    whole : (x : Bool) → has (children_of shape a) b ≡ x → (ltb a v && x) ≡ x
    whole true m = and_from _ _ (lt-ltb a v (subst (λ z. a < z) (sym n) (has_within shape a b m))) refl
    whole false m = and_right _ _ refl

-- the couples up to one more
pub couples_more : (ds : List (ℕ × ℕ)) (k : ℕ) (d : ℕ × ℕ) (a b : ℕ) → k < length ds → decides (take (k + 1) ds) a b ≡ (decides (take k ds) a b || (eqb (get_or ds k d).0 a && eqb (get_or ds k d).1 b))
unfolding decides
couples_more ds k d a b l = list_any_more (λ c. eqb c.0 a && eqb c.1 b) ds k d l

pub row_none : (u a b : ℕ) (r : Bool) → r ≡ ((eqb u a && has [] b) || r)
unfolding has
row_none u a b r = by (eqb u a)
  where
    by : (x : Bool) → r ≡ ((x && false) || r)
    by true = refl
    by false = refl

pub rows_by_list : (shape : List (List ℕ)) (old new : List Bool) (v : ℕ) (row : List ℕ) → row ≡ children_of shape v → ((a b : ℕ) → related old a b ≡ (ltb a v && has (children_of shape a) b)) → ((a b : ℕ) → related new a b ≡ ((eqb v a && has row b) || related old a b)) → (a b : ℕ) → related new a b ≡ (ltb a (v + 1) && has (children_of shape a) b)
rows_by_list shape old new v row e h g =
    rows_more shape old new v h (λ a b. g a b ∙ ap (λ z. (eqb v a && has z b) || related old a b) e)

pub couples_none : (cells : List Bool) → ((a b : ℕ) → related cells a b ≡ false) → (a b : ℕ) → related cells a b ≡ decides [] a b
unfolding decides
couples_none cells h a b = h a b

or_swap : (x y : Bool) → (x || y) ≡ (y || x)
or_swap true true = refl
or_swap true false = refl
or_swap false true = refl
or_swap false false = refl

-- a couple of views
pub couples_in : (ds : List (ℕ × ℕ)) (old new : Bool) (k : ℕ) (d : ℕ × ℕ) → k < length ds → (a b : ℕ) → old ≡ decides (take k ds) a b → new ≡ ((eqb (get_or ds k d).0 a && eqb (get_or ds k d).1 b) || old) → new ≡ decides (take (k + 1) ds) a b
couples_in ds old new k d l a b h g =
    g ∙ ap (λ z. (eqb (get_or ds k d).0 a && eqb (get_or ds k d).1 b) || z) h ∙ or_swap (eqb (get_or ds k d).0 a && eqb (get_or ds k d).1 b) (decides (take k ds) a b) ∙ sym (couples_more ds k d a b l)

-- one of numbers that are not both views'
pub couples_out : (ds : List (ℕ × ℕ)) (old : Bool) (k : ℕ) (d : ℕ × ℕ) → k < length ds → (a b : ℕ) → a < 64 → b < 64 → ((get_or ds k d).0 < 64 → (get_or ds k d).1 < 64 → ⊥) → old ≡ decides (take k ds) a b → old ≡ decides (take (k + 1) ds) a b
couples_out ds old k d l a b x y n h =
    h ∙ sym (couples_more ds k d a b l ∙ ap (λ z. decides (take k ds) a b || z) none ∙ or_no _)
  where
    none : (eqb (get_or ds k d).0 a && eqb (get_or ds k d).1 b) ≡ false
    none = false_from_ne_true _ (λ t.
        let p = and_parts _ _ t in
        n (subst (λ z. z < 64) (sym (eqb-true _ a p.0)) x) (subst (λ z. z < 64) (sym (eqb-true _ b p.1)) y))

-- each of a list with each of it
square_of : (x h r i : Bool) → ((x && r) || ((h && r) || i)) ≡ (((h || x) && r) || i)
square_of true true true i = refl
square_of true true false i = refl
square_of true false true i = refl
square_of true false false i = refl
square_of false true r i = refl
square_of false false r i = refl

pub square_none : (cells : List Bool) (row : List ℕ) (a b : ℕ) → related cells a b ≡ ((has [] a && has row b) || related cells a b)
unfolding has
square_none cells row a b = refl

pub square_more : (old new initial : List Bool) (row : List ℕ) (k : ℕ) → k < length row → ((a b : ℕ) → related old a b ≡ ((has (take k row) a && has row b) || related initial a b)) → ((a b : ℕ) → related new a b ≡ ((eqb (get_or row k 0) a && has row b) || related old a b)) → (a b : ℕ) → related new a b ≡ ((has (take (k + 1) row) a && has row b) || related initial a b)
square_more old new initial row k l h g a b =
    g a b ∙ ap (λ z. (eqb (get_or row k 0) a && has row b) || z) (h a b)
    ∙ square_of (eqb (get_or row k 0) a) (has (take k row) a) (has row b) (related initial a b)
    ∙ ap (λ z. (z && has row b) || related initial a b) (sym (has_more row k a l))

pub parents_none : (cells : List Bool) → ((a b : ℕ) → related cells a b ≡ false) → (a b : ℕ) → related cells a b ≡ have_parent [] a b
unfolding have_parent
parents_none cells h a b = h a b

pub parents_more : (shape : List (List ℕ)) (old new : List Bool) (v : ℕ) (row : List ℕ) → v < length shape → row ≡ children_of shape v → ((a b : ℕ) → related old a b ≡ have_parent (take v shape) a b) → ((a b : ℕ) → related new a b ≡ ((has row a && has row b) || related old a b)) → (a b : ℕ) → related new a b ≡ have_parent (take (v + 1) shape) a b
unfolding have_parent children_of
parents_more shape old new v row l e h g a b =
    g a b ∙ ap (λ z. (has row a && has row b) || z) (h a b)
    ∙ or_swap (has row a && has row b) (have_parent (take v shape) a b)
    ∙ ap (λ z. have_parent (take v shape) a b || (has z a && has z b)) e
    ∙ sym (list_any_more (λ own. has own a && has own b) shape v [] l)

pub parents_all : (shape : List (List ℕ)) (cells : List Bool) (v : ℕ) → length shape ≤ v → ((a b : ℕ) → related cells a b ≡ have_parent (take v shape) a b) → (a b : ℕ) → related cells a b ≡ have_parent shape a b
parents_all shape cells v l h a b = h a b ∙ ap (λ z. have_parent z a b) (take_all v shape l)
