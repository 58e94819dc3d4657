-- The decided bound under one decision more.
use Rattle.std.proofs.Common.{◌≡◌, ◌≢◌, ℕ, zero, suc, ◌+◌, ◌*◌, ◌^◌, ◌<◌, ◌≤◌, List, [], ◌∷◌, ◌++◌, Bool, true, false, ◌&&◌, ◌||◌, cond, eqb, refl, sym, ap, ◌∙◌, subst, length, get_or, ⊎_elim, arith}
use Rattle.std.specs.List.{sum_by}
use Rattle.std.proofs.lemmas.Bool.{cases_Bool, cases_eq, cond-true, cond-false, eqb-true, eq-eqb, ne_eqb, and_parts, and_from, or_left, or_right, false_from_ne_true}
use Rattle.std.proofs.lemmas.List.Folds.{list_any-append}
use Rattle.std.proofs.lemmas.List.Sums.{sum_by-cons, sum_by-le}
use Rattle.std.proofs.lemmas.Nat.{mul-le}
use Rattle.wh_dag.specs.Shape.{has, Distinct, IsShape, children_of}
use Rattle.wh_dag.proofs.Sums.{sum_by-same, sum_by-plus}
use Rattle.wh_strategy.specs.declared.costs.Costs.{Costs}
use Rattle.wh_strategy.specs.declared.sizes.SizeRow.{SizeRow}
use Rattle.wh_strategy.specs.Prices.{Prices, prices_of}
use Rattle.wh_strategy.specs.declared.sizes.Size.{Size}
use Rattle.wh_strategy.specs.Sizes.{AreSizeRows, sizes_of}
use Rattle.wh_strategy.specs.Sums.{sum_below}
use Rattle.wh_cert.specs.Bound.{in_order, pair_min, sum_pairs, rows_by, decided_value, decided_bound_of}
use Rattle.wh_cert.specs.Inner.Bound.{more_under}
use Rattle.wh_cert.specs.Graph.{decides}
use Rattle.wh_cert.proofs.DesiredOrder.{pair_min-swap}
use Rattle.wh_cert.proofs.Sums.{sum_below-add}
use Rattle.wh_cert.proofs.WeighedSizes.{sizes_are_light}

-- the two are a and b, in one order or the other
abbrev pub are_the : ℕ → ℕ → ℕ → ℕ → Bool
are_the a b u w = (eqb a u && eqb b w) || (eqb a w && eqb b u)

-- this much more for a and b
abbrev pub more_for : ℕ → ℕ → ℕ → ℕ → ℕ → ℕ
more_for a b e u w = cond (are_the a b u w) e 0

decides_one : (ds : List (ℕ × ℕ)) (a b u w : ℕ) → decides (ds ++ (a, b) ∷ []) u w ≡ (decides ds u w || (eqb a u && eqb b w))
unfolding decides
decides_one ds a b u w = list_any-append (λ d. eqb d.0 u && eqb d.1 w) ds ((a, b) ∷ []) ∙ ap (λ z. decides ds u w || z) (or_none (eqb a u && eqb b w))
  where
    or_none : (x : Bool) → (x || false) ≡ x
    or_none true = refl
    or_none false = refl

or_no : (x : Bool) → (x || false) ≡ x
or_no true = refl
or_no false = refl

-- what a pair costs with one decision more
value_more : (sizes : ℕ → Size) (ds : List (ℕ × ℕ)) (a b e : ℕ) → a ≢ b → decides ds a b ≡ false → decides ds b a ≡ false → in_order sizes a b ≡ pair_min sizes a b + e → (u w : ℕ) → decided_value sizes (ds ++ (a, b) ∷ []) u w ≡ decided_value sizes ds u w + more_for a b e u w
value_more sizes ds a b e n o o' is u w =
    ⊎_elim
    (λ (t : (eqb a u && eqb b w) ≡ true). this t)
    (λ (f : (eqb a u && eqb b w) ≡ false).
    ⊎_elim
    (λ (t : (eqb a w && eqb b u) ≡ true). turned f t)
    (λ (g : (eqb a w && eqb b u) ≡ false). other f g)
    (cases_Bool (eqb a w && eqb b u)))
    (cases_Bool (eqb a u && eqb b w))
  where
    at_them : (u w : ℕ) → a ≡ u → b ≡ w → decided_value sizes (ds ++ (a, b) ∷ []) u w ≡ decided_value sizes ds u w + e
    at_them u w p q =
        let new : decides (ds ++ (a, b) ∷ []) u w ≡ true = decides_one ds a b u w ∙ or_right (decides ds u w) (eqb a u && eqb b w) (and_from _ _ (eq-eqb a u p) (eq-eqb b w q)) in
        let x : decides ds u w ≡ false = subst (λ z. decides ds z w ≡ false) p (subst (λ z. decides ds a z ≡ false) q o) in
        let y : decides ds w u ≡ false = subst (λ z. decides ds w z ≡ false) p (subst (λ z. decides ds z a ≡ false) q o') in
        let cost : in_order sizes u w ≡ pair_min sizes u w + e = subst (λ z. in_order sizes z w ≡ pair_min sizes z w + e) p (subst (λ z. in_order sizes a z ≡ pair_min sizes a z + e) q is) in
        let l : decided_value sizes (ds ++ (a, b) ∷ []) u w ≡ in_order sizes u w = cond-true _ _ _ new in
        let r : decided_value sizes ds u w ≡ pair_min sizes u w = cond-false _ _ _ x ∙ cond-false _ _ _ y in
        omega arith

    turned_them : (u w : ℕ) → a ≡ w → b ≡ u → decided_value sizes (ds ++ (a, b) ∷ []) u w ≡ decided_value sizes ds u w + e
    turned_them u w p q =
        let new : decides (ds ++ (a, b) ∷ []) w u ≡ true = decides_one ds a b w u ∙ or_right (decides ds w u) (eqb a w && eqb b u) (and_from _ _ (eq-eqb a w p) (eq-eqb b u q)) in
        let x : decides ds w u ≡ false = subst (λ z. decides ds z u ≡ false) p (subst (λ z. decides ds a z ≡ false) q o) in
        let y : decides ds u w ≡ false = subst (λ z. decides ds u z ≡ false) p (subst (λ z. decides ds z a ≡ false) q o') in
        let none : decides (ds ++ (a, b) ∷ []) u w ≡ false = decides_one ds a b u w ∙ ap (λ z. z || (eqb a u && eqb b w)) y ∙ false_from_ne_true _ (λ t. n (eqb-true a u (and_parts _ _ t).0 ∙ sym q)) in
        let cost : in_order sizes w u ≡ pair_min sizes w u + e = subst (λ z. in_order sizes z u ≡ pair_min sizes z u + e) p (subst (λ z. in_order sizes a z ≡ pair_min sizes a z + e) q is) in
        let s = pair_min-swap sizes u w in
        let l : decided_value sizes (ds ++ (a, b) ∷ []) u w ≡ in_order sizes w u = cond-false _ _ _ none ∙ cond-true _ _ _ new in
        let r : decided_value sizes ds u w ≡ pair_min sizes u w = cond-false _ _ _ y ∙ cond-false _ _ _ x in
        omega arith

    this : (eqb a u && eqb b w) ≡ true → decided_value sizes (ds ++ (a, b) ∷ []) u w ≡ decided_value sizes ds u w + more_for a b e u w
    this t =
        let p = and_parts _ _ t in
        let m : more_for a b e u w ≡ e = cond-true _ _ _ (or_left (eqb a u && eqb b w) (eqb a w && eqb b u) t) in
        let v = at_them u w (eqb-true a u p.0) (eqb-true b w p.1) in
        omega arith

    turned : (eqb a u && eqb b w) ≡ false → (eqb a w && eqb b u) ≡ true → decided_value sizes (ds ++ (a, b) ∷ []) u w ≡ decided_value sizes ds u w + more_for a b e u w
    turned f t =
        let p = and_parts _ _ t in
        let m : more_for a b e u w ≡ e = cond-true _ _ _ (or_right (eqb a u && eqb b w) (eqb a w && eqb b u) t) in
        let v = turned_them u w (eqb-true a w p.0) (eqb-true b u p.1) in
        omega arith

    other : (eqb a u && eqb b w) ≡ false → (eqb a w && eqb b u) ≡ false → decided_value sizes (ds ++ (a, b) ∷ []) u w ≡ decided_value sizes ds u w + more_for a b e u w
    other f g =
        let x : decides (ds ++ (a, b) ∷ []) u w ≡ decides ds u w = decides_one ds a b u w ∙ ap (λ z. decides ds u w || z) f ∙ or_no (decides ds u w) in
        let y : decides (ds ++ (a, b) ∷ []) w u ≡ decides ds w u = decides_one ds a b w u ∙ ap (λ z. decides ds w u || z) g ∙ or_no (decides ds w u) in
        let m : more_for a b e u w ≡ 0 = ap (λ z. cond {A = ℕ} (z || (eqb a w && eqb b u)) e 0) f ∙ ap (λ z. cond {A = ℕ} z e 0) g in
        let v : decided_value sizes (ds ++ (a, b) ∷ []) u w ≡ decided_value sizes ds u w =
        ap (λ z. cond {A = ℕ} z (in_order sizes u w) (cond (decides (ds ++ (a, b) ∷ []) w u) (in_order sizes w u) (pair_min sizes u w))) x
        ∙ ap (λ z. cond {A = ℕ} (decides ds u w) (in_order sizes u w) (cond z (in_order sizes w u) (pair_min sizes u w))) y in
        omega arith

-- of distinct views one is met once
sum_one : (b e : ℕ) (xs : List ℕ) → Distinct xs → sum_by (λ w. cond {A = ℕ} (eqb b w) e 0) xs ≡ cond {A = ℕ} (has xs b) e 0
unfolding Distinct has
sum_one b e [] dis = refl
sum_one b e (x ∷ xs) dis =
    let c = sum_by-cons (λ w. cond {A = ℕ} (eqb b w) e 0) x xs in
    let r = sum_one b e xs dis.1 in
    ⊎_elim
    (λ (s : b ≡ x).
    let h : cond {A = ℕ} (eqb b x) e 0 ≡ e = cond-true _ _ _ (eq-eqb b x s) in
    let gone : cond {A = ℕ} (has xs b) e 0 ≡ 0 = cond-false _ _ _ (subst (λ z. has xs z ≡ false) (sym s) dis.0) in
    let all : cond {A = ℕ} (has (x ∷ xs) b) e 0 ≡ e = cond-true _ _ _ (or_left (eqb x b) (has xs b) (eq-eqb x b (sym s))) in
    omega arith)
    (λ (d : b ≢ x).
    let h : cond {A = ℕ} (eqb b x) e 0 ≡ 0 = cond-false _ _ _ (ne_eqb b x d) in
    let all : cond {A = ℕ} (has (x ∷ xs) b) e 0 ≡ cond {A = ℕ} (has xs b) e 0 = ap (λ z. cond {A = ℕ} (z || has xs b) e 0) (ne_eqb x b (λ t. d (sym t))) in
    omega arith)
    (cases_eq b x)

sum_none : (f : ℕ → ℕ) (xs : List ℕ) → ((x : ℕ) → f x ≡ 0) → sum_by f xs ≡ 0
sum_none f [] h = refl
sum_none f (x ∷ xs) h = let c = sum_by-cons f x xs in let r = sum_none f xs h in let k = h x in omega arith

-- what the first of the list adds with those after it
first_more : (a b e x : ℕ) (xs : List ℕ) → a ≢ b → Distinct xs → has xs x ≡ false → sum_by (more_for a b e x) xs + cond {A = ℕ} (has xs a && has xs b) e 0 ≡ cond {A = ℕ} (has (x ∷ xs) a && has (x ∷ xs) b) e 0
unfolding has
first_more a b e x xs n dis new =
    ⊎_elim
    (λ (s : a ≡ x).
    let f : has xs a ≡ false = subst (λ z. has xs z ≡ false) (sym s) new in
    let t : has (x ∷ xs) a ≡ true = or_left (eqb x a) (has xs a) (eq-eqb x a (sym s)) in
    let u : has (x ∷ xs) b ≡ has xs b = ap (λ z. z || has xs b) (ne_eqb x b (λ q. n (s ∙ q))) in
    let same = sum_by-same (more_for a b e x) (λ w. cond {A = ℕ} (eqb b w) e 0) xs (λ w. by_first w s) in
    let one = sum_one b e xs dis in
    let zero_rest : cond {A = ℕ} (has xs a && has xs b) e 0 ≡ 0 = ap (λ z. cond {A = ℕ} (z && has xs b) e 0) f in
    let all : cond {A = ℕ} (has (x ∷ xs) a && has (x ∷ xs) b) e 0 ≡ cond {A = ℕ} (has xs b) e 0 = ap (λ z. cond {A = ℕ} (z && has (x ∷ xs) b) e 0) t ∙ ap (λ z. cond {A = ℕ} z e 0) u in
    omega arith)
    (λ (d : a ≢ x).
    ⊎_elim
    (λ (s : b ≡ x).
    let f : has xs b ≡ false = subst (λ z. has xs z ≡ false) (sym s) new in
    let t : has (x ∷ xs) b ≡ true = or_left (eqb x b) (has xs b) (eq-eqb x b (sym s)) in
    let u : has (x ∷ xs) a ≡ has xs a = ap (λ z. z || has xs a) (ne_eqb x a (λ q. d (sym q))) in
    let same = sum_by-same (more_for a b e x) (λ w. cond {A = ℕ} (eqb a w) e 0) xs (λ w. by_second w d s) in
    let one = sum_one a e xs dis in
    let zero_rest : cond {A = ℕ} (has xs a && has xs b) e 0 ≡ 0 = ap (λ z. cond {A = ℕ} (has xs a && z) e 0) f ∙ ap (λ z. cond {A = ℕ} z e 0) (and_no (has xs a)) in
    let all : cond {A = ℕ} (has (x ∷ xs) a && has (x ∷ xs) b) e 0 ≡ cond {A = ℕ} (has xs a) e 0 = ap (λ z. cond {A = ℕ} (has (x ∷ xs) a && z) e 0) t ∙ ap (λ z. cond {A = ℕ} z e 0) (and_yes (has (x ∷ xs) a) ∙ u) in
    omega arith)
    (λ (d' : b ≢ x).
    let u : has (x ∷ xs) a ≡ has xs a = ap (λ z. z || has xs a) (ne_eqb x a (λ q. d (sym q))) in
    let v : has (x ∷ xs) b ≡ has xs b = ap (λ z. z || has xs b) (ne_eqb x b (λ q. d' (sym q))) in
    let none = sum_none (more_for a b e x) xs (λ w. by_none w d d') in
    let all : cond {A = ℕ} (has (x ∷ xs) a && has (x ∷ xs) b) e 0 ≡ cond {A = ℕ} (has xs a && has xs b) e 0 = ap (λ z. cond {A = ℕ} (z && has (x ∷ xs) b) e 0) u ∙ ap (λ z. cond {A = ℕ} (has xs a && z) e 0) v in
    omega arith)
    (cases_eq b x))
    (cases_eq a x)
  where
    and_no : (r : Bool) → (r && false) ≡ false
    and_no true = refl
    and_no false = refl

    and_yes : (r : Bool) → (r && true) ≡ r
    and_yes true = refl
    and_yes false = refl

    by_first : (w : ℕ) → a ≡ x → more_for a b e x w ≡ cond {A = ℕ} (eqb b w) e 0
    by_first w s =
        ap (λ z. cond {A = ℕ} ((z && eqb b w) || (eqb a w && eqb b x)) e 0) (eq-eqb a x s)
        ∙ ap (λ z. cond {A = ℕ} (eqb b w || (eqb a w && z)) e 0) (ne_eqb b x (λ q. n (s ∙ sym q)))
        ∙ ap (λ z. cond {A = ℕ} (eqb b w || z) e 0) (and_no (eqb a w)) ∙ ap (λ z. cond {A = ℕ} z e 0) (or_no (eqb b w))

    by_second : (w : ℕ) → a ≢ x → b ≡ x → more_for a b e x w ≡ cond {A = ℕ} (eqb a w) e 0
    by_second w d s =
        ap (λ z. cond {A = ℕ} ((z && eqb b w) || (eqb a w && eqb b x)) e 0) (ne_eqb a x d)
        ∙ ap (λ z. cond {A = ℕ} (eqb a w && z) e 0) (eq-eqb b x s) ∙ ap (λ z. cond {A = ℕ} z e 0) (and_yes (eqb a w))

    by_none : (w : ℕ) → a ≢ x → b ≢ x → more_for a b e x w ≡ 0
    by_none w d d' =
        ap (λ z. cond {A = ℕ} ((z && eqb b w) || (eqb a w && eqb b x)) e 0) (ne_eqb a x d)
        ∙ ap (λ z. cond {A = ℕ} (eqb a w && z) e 0) (ne_eqb b x d') ∙ ap (λ z. cond {A = ℕ} z e 0) (and_no (eqb a w))

-- what the pairs of a list cost with one decision more
pairs_more : (f g : ℕ → ℕ → ℕ) (a b e : ℕ) (xs : List ℕ) → a ≢ b → Distinct xs → ((u w : ℕ) → g u w ≡ f u w + more_for a b e u w) → sum_pairs g xs ≡ sum_pairs f xs + cond {A = ℕ} (has xs a && has xs b) e 0
unfolding sum_pairs Distinct has
pairs_more f g a b e [] n dis h = refl
pairs_more f g a b e (x ∷ xs) n dis h =
    let r = pairs_more f g a b e xs n dis.1 h in
    let s = sum_by-same (g x) (λ w. f x w + more_for a b e x w) xs (h x) in
    let p = sum_by-plus (f x) (more_for a b e x) xs in
    let m = first_more a b e x xs n dis.1 dis.0 in
    omega arith

sum_below-same : (f g : ℕ → ℕ) (n : ℕ) → ((k : ℕ) → f k ≡ g k) → sum_below f n ≡ sum_below g n
unfolding sum_below
sum_below-same f g zero h = refl
sum_below-same f g (suc n) h = let r = sum_below-same f g n h in let k = h n in omega arith

regroup : (c r x i : ℕ) → c * (r + x) + i ≡ c * r + i + c * x
regroup c r x i = grind arith

pub bound_more : (shape : List (List ℕ)) (sizes : ℕ → Size) (prices : Prices) (ds : List (ℕ × ℕ)) (a b e : ℕ) → IsShape shape → a ≢ b → decides ds a b ≡ false → decides ds b a ≡ false → in_order sizes a b ≡ pair_min sizes a b + e → decided_bound_of shape sizes prices (ds ++ (a, b) ∷ []) ≡ decided_bound_of shape sizes prices ds + prices.comp * sum_below (more_under shape a b e) (length shape)
bound_more shape sizes prices ds a b e sh n o o' is =
    let f : ℕ → ℕ = λ v. rows_by (decided_value sizes ds) sizes (children_of shape v) in
    let each = sum_below-same (λ v. rows_by (decided_value sizes (ds ++ (a, b) ∷ [])) sizes (children_of shape v)) (λ v. f v + more_under shape a b e v) (length shape) (λ v. rows v) in
    let parts = sum_below-add f (more_under shape a b e) (length shape) in
    ap (λ z. prices.comp * z + prices.inst * sum_below (λ v. (sizes v).change) (length shape)) (each ∙ parts)
    ∙ regroup prices.comp (sum_below f (length shape)) (sum_below (more_under shape a b e) (length shape)) (prices.inst * sum_below (λ v. (sizes v).change) (length shape))
  where
    rows : (v : ℕ) → rows_by (decided_value sizes (ds ++ (a, b) ∷ [])) sizes (children_of shape v) ≡ rows_by (decided_value sizes ds) sizes (children_of shape v) + more_under shape a b e v
    rows v =
        let p = pairs_more (decided_value sizes ds) (decided_value sizes (ds ++ (a, b) ∷ [])) a b e (children_of shape v) n (sh.distinct v) (value_more sizes ds a b e n o o' is) in
        omega arith

-- ---- sums of sizes stay small

value_small : (rows : List SizeRow) → AreSizeRows rows → (ds : List (ℕ × ℕ)) (u w : ℕ) → decided_value (sizes_of rows) ds u w ≤ 2 ^ 51
value_small rows are ds u w =
    let a = sizes_are_light rows are u in
    let b = sizes_are_light rows are w in
    let pu : (sizes_of rows u).pre ≤ 2 ^ 50 = a.light_before in
    let qu : (sizes_of rows u).post ≤ 2 ^ 50 = a.light_after in
    let pw : (sizes_of rows w).pre ≤ 2 ^ 50 = b.light_before in
    let qw : (sizes_of rows w).post ≤ 2 ^ 50 = b.light_after in
    by (decides ds u w) (decides ds w u) (in_order (sizes_of rows) u w) (in_order (sizes_of rows) w u) (pair_min (sizes_of rows) u w) (omega arith) (omega arith) (omega arith)
  where
    by : (s t : Bool) (x y z : ℕ) → x ≤ 2 ^ 51 → y ≤ 2 ^ 51 → z ≤ 2 ^ 51 → cond {A = ℕ} s x (cond t y z) ≤ 2 ^ 51
    by true t x y z lx ly lz = lx
    by false true x y z lx ly lz = ly
    by false false x y z lx ly lz = lz

pairs_small : (f : ℕ → ℕ → ℕ) (m : ℕ) (xs : List ℕ) (n : ℕ) → ((u w : ℕ) → f u w ≤ m) → length xs ≤ n → sum_pairs f xs ≤ length xs * (n * m)
unfolding sum_pairs
pairs_small f m [] n h l = omega arith
pairs_small f m (x ∷ xs) n h l =
    let r : sum_pairs f xs ≤ length xs * (n * m) = pairs_small f m xs n h (omega arith) in
    let s : sum_by (f x) xs ≤ length xs * m = sum_by-le (f x) m xs (λ k d i. h x (get_or xs k d)) in
    let k : length xs * m ≤ n * m = mul-le (length xs) m n m (omega arith) (omega arith) in
    grind arith

below_small : (f : ℕ → ℕ) (m n : ℕ) → ((k : ℕ) → f k ≤ m) → sum_below f n ≤ n * m
unfolding sum_below
below_small f m zero h = omega arith
below_small f m (suc n) h =
    let r = below_small f m n h in
    let k = h n in
    grind arith

-- a bound is far below what a number of 128 bits can hold
pub bound_small : (shape : List (List ℕ)) (rows : List SizeRow) (costs : Costs) (ds : List (ℕ × ℕ)) → IsShape shape → AreSizeRows rows → decided_bound_of shape (sizes_of rows) (prices_of costs) ds < 2 ^ 128
bound_small shape rows costs ds sh are =
    let sizes : ℕ → Size = sizes_of rows in
    let few : length shape ≤ 64 = sh.few_views in
    let r : sum_below (λ v. rows_by (decided_value sizes ds) sizes (children_of shape v)) (length shape) ≤ length shape * 2 ^ 60 = below_small (λ v. rows_by (decided_value sizes ds) sizes (children_of shape v)) (2 ^ 60) (length shape) (λ v. under v) in
    let s : sum_below (λ v. (sizes v).change) (length shape) ≤ length shape * 2 ^ 60 = below_small (λ v. (sizes v).change) (2 ^ 60) (length shape) (λ v. let k : (sizes v).change ≤ 2 ^ 50 = (sizes_are_light rows are v).light_change in omega arith) in
    let x = mul-le costs.comp (sum_below (λ v. rows_by (decided_value sizes ds) sizes (children_of shape v)) (length shape)) 1000000 (64 * 2 ^ 60) costs.comp_most (omega arith) in
    let y = mul-le costs.inst (sum_below (λ v. (sizes v).change) (length shape)) 1000000 (64 * 2 ^ 60) costs.inst_most (omega arith) in
    omega arith
  where
    under : (v : ℕ) → rows_by (decided_value (sizes_of rows) ds) (sizes_of rows) (children_of shape v) ≤ 2 ^ 60
    under v =
        let few : length (children_of shape v) ≤ 6 = sh.few_children v in
        let p : sum_pairs (decided_value (sizes_of rows) ds) (children_of shape v) ≤ length (children_of shape v) * (6 * 2 ^ 51) = pairs_small (decided_value (sizes_of rows) ds) (2 ^ 51) (children_of shape v) 6 (value_small rows are ds) few in
        let s : sum_by (λ u. (sizes_of rows u).change) (children_of shape v) ≤ length (children_of shape v) * 2 ^ 50 = sum_by-le (λ u. (sizes_of rows u).change) (2 ^ 50) (children_of shape v) (λ k d l. (sizes_are_light rows are (get_or (children_of shape v) k d)).light_change) in
        omega arith
