-- What a one-way strategy costs exactly.
use Rattle.std.proofs.Common.{◌≡◌, ℕ, zero, suc, ◌+◌, ◌*◌, ◌<◌, List, [], ◌∷◌, Bool, true, false, cond, eqb, refl, sym, ap, ◌∙◌, subst, length, Option, Some, None, ◌||◌, ⊎_elim, arith}
use Rattle.std.specs.Prelude.{slice_get}
use Rattle.std.specs.List.{sum_by}
use Rattle.std.proofs.lemmas.List.Sums.{sum_by-cons}
use Rattle.std.proofs.lemmas.Option.{slice_get_within}
use Rattle.std.proofs.lemmas.Bool.{cases_Bool, cases_order, eqb-true, eq-eqb, ne_eqb, false≢true, cond-true, cond-false, both_ways, false_from_ne_true}
use Rattle.wh_dag.specs.Shape.{has, Distinct, IsShape, children_of}
use Rattle.wh_strategy.specs.declared.expression.Expression.{Expression}
use Rattle.wh_strategy.specs.declared.expression.Expression.TheVariants.{Comp, Inst}
use Rattle.wh_strategy.specs.Expression.{At, is_new}
use Rattle.wh_strategy.specs.Prices.{Prices}
use Rattle.wh_strategy.specs.Rules.{IsCorrect, IsOneWay}
use Rattle.wh_strategy.specs.declared.sizes.Size.{Size}
use Rattle.wh_strategy.specs.Sums.{sum_below, parts}
use Rattle.wh_strategy.specs.Work.{state, comp_rows, inst_rows, work_of}
use Rattle.wh_strategy.proofs.Found.{has-head, has-tail, new_after, old_before}
use Rattle.wh_strategy.proofs.SumsBelow.{sum_by-same, sum_by-plus}
use Rattle.wh_cert.specs.Bound.{sum_pairs, in_order, pair_min, cost_by, pair_bound_of}
use Rattle.wh_cert.specs.Order.{ComesFirst}
use Rattle.wh_cert.proofs.DesiredOrder.{desired_is_least, pair_min-swap}
use Rattle.wh_cert.proofs.Dues.{due}
use Rattle.wh_cert.proofs.Duties.{members_differ}
use Rattle.wh_cert.proofs.Least.{pay, pay_all, paid, pay_apart, none_paid, rows_of, work-parts, pay_inst}
use Rattle.wh_cert.proofs.Sums.{sum_below-zero, sum_below-only, sum_below-swap, sum_below-by, sum_by-zero_at}
use Rattle.wh_cert.proofs.OneWay.{single_has, single_own, comp_at, comps_in_order, comps_same}

sum_below-same : (f g : ℕ → ℕ) (n : ℕ) → ((k : ℕ) → k < n → f k ≡ g k) → sum_below f n ≡ sum_below g n
unfolding sum_below
sum_below-same f g zero h = refl
sum_below-same f g (suc n) h =
    let r = sum_below-same f g n (λ k l. h k (omega arith)) in
    let e = h n (omega arith) in
    omega arith

sum_by-same_at : (f g : ℕ → ℕ) (xs : List ℕ) → ((x : ℕ) → has xs x ≡ true → f x ≡ g x) → sum_by f xs ≡ sum_by g xs
sum_by-same_at f g [] h = refl
sum_by-same_at f g (x ∷ xs) h =
    let a = sum_by-cons f x xs in
    let b = sum_by-cons g x xs in
    let r = sum_by-same_at f g xs (λ y m. h y (has-tail x y xs m)) in
    let e = h x (has-head x xs) in
    omega arith

-- only one member counts
sum_by-only : (f : ℕ → ℕ) (xs : List ℕ) (y : ℕ) → Distinct xs → has xs y ≡ true → ((x : ℕ) → (x ≡ y → ⊥) → f x ≡ 0) → sum_by f xs ≡ f y
unfolding Distinct has
sum_by-only f [] y dis m h = absurd (false≢true m)
sum_by-only f (x ∷ xs) y dis m h =
    let a = sum_by-cons f x xs in
    ⊎_elim
    (λ e.
    let s = eqb-true x y e in
    let z = sum_by-zero_at f xs (λ w q. h w (λ t. members_differ x w xs dis.0 q (s ∙ sym t))) in
    let k = ap f s in
    omega arith)
    (λ e.
    let z = h x (λ t. both_ways (eqb x y) e (eq-eqb x y t)) in
    let r = sum_by-only f xs y dis.1 (sym (ap (λ b. b || has xs y) e) ∙ m) h in
    omega arith)
    (cases_Bool (eqb x y))

pub pairs_are : (h m : ℕ → ℕ → ℕ) (g : ℕ → ℕ) (xs : List ℕ) → Distinct xs → ((u : ℕ) → has xs u ≡ true → h u u ≡ g u) → ((u w : ℕ) → has xs u ≡ true → has xs w ≡ true → (u ≡ w → ⊥) → h u w + h w u ≡ m u w) → sum_by (λ u. sum_by (h u) xs) xs ≡ sum_by g xs + sum_pairs m xs
unfolding sum_pairs Distinct
pairs_are h m g [] dis own two = refl
pairs_are h m g (x ∷ xs) dis own two =
    let a = sum_by-cons g x xs in
    let b = sum_by-cons (λ u. sum_by (h u) (x ∷ xs)) x xs in
    let c = sum_by-cons (h x) x xs in
    let d = sum_by-same (λ u. sum_by (h u) (x ∷ xs)) (λ u. h u x + sum_by (h u) xs) xs (λ u. sum_by-cons (h u) x xs) in
    let e = sum_by-plus (λ u. h u x) (λ u. sum_by (h u) xs) xs in
    let f = sum_by-plus (h x) (λ u. h u x) xs in
    let l = sum_by-same_at (λ w. h x w + h w x) (m x) xs (λ w q. two x w (has-head x xs) (has-tail x w xs q) (members_differ x w xs dis.0 q)) in
    let o = own x (has-head x xs) in
    let r = pairs_are h m g xs dis.1 (λ u q. own u (has-tail x u xs q)) (λ u w q t. two u w (has-tail x u xs q) (has-tail x w xs t)) in
    omega arith

-- a Comp from one view pays what it costs
due_one : (c s u w : ℕ) → due (has (w ∷ []) u) c s u w ≡ cond (has (w ∷ []) u) c s
unfolding has
due_one c s u w = by (eqb w u)
  where
    by : (b : Bool) → cond b c (cond (b || false) (c + s) s) ≡ cond (b || false) c s
    by true = refl
    by false = refl

comp_pays_all : (shape : List (List ℕ)) (sizes : ℕ → Size) (list : List Expression) (p v w : ℕ) → Distinct (children_of shape v) → has (children_of shape v) w ≡ true → pay_all shape sizes list p (Some (Comp v (w ∷ []))) v ≡ comp_rows shape sizes list p (Some (Comp v (w ∷ [])))
unfolding parts
comp_pays_all shape sizes list p v w dis m =
    let cs = children_of shape v in
    let a = sum_by-same (λ u. sum_by (pay sizes list p v u (Some (Comp v (w ∷ [])))) cs) (λ u. cond (has (w ∷ []) u) (sizes u).change (state sizes list p u)) cs (λ u. one u) in
    omega arith
  where
    one : (u : ℕ) → sum_by (pay sizes list p v u (Some (Comp v (w ∷ [])))) (children_of shape v) ≡ cond (has (w ∷ []) u) (sizes u).change (state sizes list p u)
    one u =
        let d : ℕ → ℕ = λ x. due (has (w ∷ []) u) (sizes u).change (state sizes list p u) u x in
        let o = sum_by-only (pay sizes list p v u (Some (Comp v (w ∷ [])))) (children_of shape v) w dis m (λ x n. cond-true (eqb v v) (cond (has (w ∷ []) x) (d x) 0) 0 (eq-eqb v v refl) ∙ cond-false (has (w ∷ []) x) (d x) 0 (false_from_ne_true _ (λ e. n (sym (single_has w x e))))) in
        let t = cond-true (eqb v v) (cond (has (w ∷ []) w) (d w) 0) 0 (eq-eqb v v refl) in
        let s = cond-true (has (w ∷ []) w) (d w) 0 (single_own w) in
        let e = due_one (sizes u).change (state sizes list p u) u w in
        omega arith

some_member : (ys : List ℕ) → length ys ≡ 1 → (w : ℕ) × (ys ≡ w ∷ [])
some_member [] l = absurd (omega arith)
some_member (y ∷ []) l = (y, refl)
some_member (y ∷ x ∷ ys) l = absurd (omega arith)

each_pays_all : (shape : List (List ℕ)) (sizes : ℕ → Size) (list : List Expression) → IsShape shape → IsCorrect shape list → IsOneWay list → (p : ℕ) (e : Option Expression) → slice_get list p ≡ e → sum_below (pay_all shape sizes list p e) (length shape) ≡ comp_rows shape sizes list p e
each_pays_all shape sizes list sh co ow p None at =
    sum_below-zero (pay_all shape sizes list p None) (length shape) (λ v l. none_paid (λ u. pay sizes list p v u None) (children_of shape v) (λ u w. refl))
each_pays_all shape sizes list sh co ow p (Some (Inst x)) at =
    sum_below-zero (pay_all shape sizes list p (Some (Inst x))) (length shape) (λ v l. none_paid (λ u. pay sizes list p v u (Some (Inst x))) (children_of shape v) (λ u w. refl))
each_pays_all shape sizes list sh co ow p (Some (Comp x ys)) at =
    let ok = co.allowed p x ys at in
    let o = sum_below-only (pay_all shape sizes list p (Some (Comp x ys))) (length shape) x ok.0 (λ v l n. none_paid (λ u. pay sizes list p v u (Some (Comp x ys))) (children_of shape v) (λ u w. pay_apart sizes list p v x u w ys n)) in
    let w = some_member ys (ow p x ys at) in
    let m : has (children_of shape x) w.0 ≡ true = ok.3 w.0 (subst (λ z. has z w.0 ≡ true) (sym w.1) (single_own w.0)) in
    o ∙ subst (λ z. pay_all shape sizes list p (Some (Comp x z)) x ≡ comp_rows shape sizes list p (Some (Comp x z))) (sym w.1) (comp_pays_all shape sizes list p x w.0 (sh.distinct x) m)

rows_are_paid : (shape : List (List ℕ)) (sizes : ℕ → Size) (list : List Expression) → IsShape shape → IsCorrect shape list → IsOneWay list → rows_of shape sizes list ≡ sum_below (λ v. sum_by (λ u. sum_by (paid sizes list v u) (children_of shape v)) (children_of shape v)) (length shape)
rows_are_paid shape sizes list sh co ow =
    let same = sum_below-same (λ p. sum_below (pay_all shape sizes list p (slice_get list p)) (length shape)) (λ p. comp_rows shape sizes list p (slice_get list p)) (length list) (λ p l. each_pays_all shape sizes list sh co ow p (slice_get list p) refl) in
    let sw = sum_below-swap (λ p. pay_all shape sizes list p (slice_get list p)) (length list) (length shape) in
    let inside = sum_below-same (λ v. sum_below (λ p. pay_all shape sizes list p (slice_get list p) v) (length list)) (λ v. sum_by (λ u. sum_by (paid sizes list v u) (children_of shape v)) (children_of shape v)) (length shape) (λ v l. one v) in
    omega arith
  where
    one : (v : ℕ) → sum_below (λ p. pay_all shape sizes list p (slice_get list p) v) (length list) ≡ sum_by (λ u. sum_by (paid sizes list v u) (children_of shape v)) (children_of shape v)
    one v =
        let cs = children_of shape v in
        let a = sum_below-by (λ p u. sum_by (pay sizes list p v u (slice_get list p)) cs) cs (length list) in
        let b = sum_by-same (λ u. sum_below (λ p. sum_by (pay sizes list p v u (slice_get list p)) cs) (length list)) (λ u. sum_by (paid sizes list v u) cs) cs (λ u. sum_below-by (λ p w. pay sizes list p v u (slice_get list p) w) cs (length list)) in
        a ∙ b

-- each charge is paid at one place
paid_once : (shape : List (List ℕ)) (sizes : ℕ → Size) (list : List Expression) → IsCorrect shape list → (p v u w : ℕ) → At list p (Comp v (w ∷ [])) → paid sizes list v u w ≡ cond (has (w ∷ []) u) (sizes u).change (state sizes list p u)
paid_once shape sizes list co p v u w at =
    let o = sum_below-only (λ q. pay sizes list q v u (slice_get list q) w) (length list) p (slice_get_within list p (Comp v (w ∷ [])) at) (λ q l n. none q (slice_get list q) refl n) in
    let b = ap (λ e. pay sizes list p v u e w) at in
    let d : ℕ = due (has (w ∷ []) u) (sizes u).change (state sizes list p u) u w in
    let t = cond-true (eqb v v) (cond (has (w ∷ []) w) d 0) 0 (eq-eqb v v refl) in
    let s = cond-true (has (w ∷ []) w) d 0 (single_own w) in
    let e = due_one (sizes u).change (state sizes list p u) u w in
    omega arith
  where
    none : (q : ℕ) (e : Option Expression) → slice_get list q ≡ e → (q ≡ p → ⊥) → pay sizes list q v u e w ≡ 0
    none q None g n = refl
    none q (Some (Inst x)) g n = refl
    none q (Some (Comp x ys)) g n =
        let d : ℕ = due (has ys u) (sizes u).change (state sizes list q u) u w in
        ⊎_elim
        (λ e. ⊎_elim
        (λ m.
        let g' : At list q (Comp v ys) = subst (λ z. At list q (Comp z ys)) (eqb-true x v e) g in
        absurd (n (co.once q p v w ys (w ∷ []) g' at m (single_own w))))
        (λ m. cond-true (eqb x v) (cond (has ys w) d 0) 0 e ∙ cond-false (has ys w) d 0 m)
        (cases_Bool (has ys w)))
        (λ e. cond-false (eqb x v) (cond (has ys w) d 0) 0 e)
        (cases_Bool (eqb x v))

self_is : (shape : List (List ℕ)) (sizes : ℕ → Size) (list : List Expression) → IsCorrect shape list → IsOneWay list → (v u : ℕ) → has (children_of shape v) u ≡ true → paid sizes list v u u ≡ (sizes u).change
self_is shape sizes list co ow v u m =
    let a = comp_at shape list co ow v u m in
    paid_once shape sizes list co a.0 v u u a.1 ∙ cond-true (has (u ∷ []) u) (sizes u).change (state sizes list a.0 u) (single_own u)

-- a pair costs what the order of its Insts says
pair_is : (shape : List (List ℕ)) (sizes : ℕ → Size) (list : List Expression) → IsCorrect shape list → (v u w p q r t : ℕ) → (u ≡ w → ⊥) → At list p (Comp v (u ∷ [])) → At list q (Comp v (w ∷ [])) → At list r (Inst u) → At list t (Inst w) → p < q → paid sizes list v u w + paid sizes list v w u ≡ in_order sizes u w
pair_is shape sizes list co v u w p q r t n a b c d l =
    let between = comps_in_order shape list co v u w p q r t a b c d l in
    let rq : r < q = between.0 in
    let new = new_after list q r u c rq in
    let old = old_before list p w (λ x h. let k = co.one_inst x t w h d in let j = co.before_inst q t v w (w ∷ []) b (single_own w) d in omega arith) in
    let x = paid_once shape sizes list co q v u w b ∙ cond-false (has (w ∷ []) u) (sizes u).change (state sizes list q u) (false_from_ne_true _ (λ e. n (sym (single_has w u e)))) ∙ cond-true (is_new list q u) (sizes u).post (sizes u).pre new in
    let y = paid_once shape sizes list co p v w u a ∙ cond-false (has (u ∷ []) w) (sizes w).change (state sizes list p w) (false_from_ne_true _ (λ e. n (single_has u w e))) ∙ cond-false (is_new list p w) (sizes w).post (sizes w).pre old in
    omega arith

-- what the Insts cost
insts_are : (shape : List (List ℕ)) (sizes : ℕ → Size) (list : List Expression) → IsCorrect shape list → sum_below (λ p. inst_rows sizes (slice_get list p)) (length list) ≡ sum_below (λ v. (sizes v).change) (length shape)
insts_are shape sizes list co =
    let same = sum_below-same (λ p. inst_rows sizes (slice_get list p)) (λ p. sum_below (pay_inst sizes (slice_get list p)) (length shape)) (length list) (λ p l. sym (each p (slice_get list p) refl)) in
    let sw = sum_below-swap (λ p v. pay_inst sizes (slice_get list p) v) (length list) (length shape) in
    let b = sum_below-same (λ v. sum_below (λ p. pay_inst sizes (slice_get list p) v) (length list)) (λ v. (sizes v).change) (length shape) (λ v l. one v l) in
    same ∙ sw ∙ b
  where
    each : (p : ℕ) (e : Option Expression) → slice_get list p ≡ e → sum_below (pay_inst sizes e) (length shape) ≡ inst_rows sizes e
    each p None at = sum_below-zero (pay_inst sizes None) (length shape) (λ v l. refl)
    each p (Some (Comp x ys)) at = sum_below-zero (pay_inst sizes (Some (Comp x ys))) (length shape) (λ v l. refl)
    each p (Some (Inst x)) at =
        sum_below-only (pay_inst sizes (Some (Inst x))) (length shape) x (co.views p x at) (λ v l n. cond-false (eqb x v) (sizes v).change 0 (ne_eqb x v (λ e. n (sym e)))) ∙ cond-true (eqb x x) (sizes x).change 0 (eq-eqb x x refl)

    other : (v p q : ℕ) (e : Option Expression) → At list p (Inst v) → slice_get list q ≡ e → (q ≡ p → ⊥) → pay_inst sizes e v ≡ 0
    other v p q None at g n = refl
    other v p q (Some (Comp x ys)) at g n = refl
    other v p q (Some (Inst x)) at g n = cond-false (eqb x v) (sizes v).change 0 (ne_eqb x v (λ e. n (co.one_inst q p v (subst (λ z. At list q (Inst z)) e g) at)))

    one : (v : ℕ) → v < length shape → sum_below (λ p. pay_inst sizes (slice_get list p) v) (length list) ≡ (sizes v).change
    one v l =
        let w = co.an_inst v l in
        sum_below-only (λ p. pay_inst sizes (slice_get list p) v) (length list) w.0 (slice_get_within list w.0 (Inst v) w.1) (λ q l' n. other v w.0 q (slice_get list q) w.1 refl n) ∙ ap (λ e. pay_inst sizes e v) w.1 ∙ cond-true (eqb v v) (sizes v).change 0 (eq-eqb v v refl)

-- where m is what the order of the Insts says of each couple, the work is that of m
pub work_one_way : (shape : List (List ℕ)) (sizes : ℕ → Size) (prices : Prices) (list : List Expression) (m : ℕ → ℕ → ℕ) → IsShape shape → IsCorrect shape list → IsOneWay list → ((v u w p q : ℕ) → has (children_of shape v) u ≡ true → has (children_of shape v) w ≡ true → At list p (Inst u) → At list q (Inst w) → p < q → (m u w ≡ in_order sizes u w) × (m w u ≡ in_order sizes u w)) → work_of shape sizes prices list ≡ cost_by m shape sizes prices
work_one_way shape sizes prices list m sh co ow says =
    let a = rows_are_paid shape sizes list sh co ow in
    let b = sum_below-same (λ v. sum_by (λ u. sum_by (paid sizes list v u) (children_of shape v)) (children_of shape v)) (λ v. sum_by (λ u. (sizes u).change) (children_of shape v) + sum_pairs m (children_of shape v)) (length shape) (λ v l. pairs_are (paid sizes list v) m (λ u. (sizes u).change) (children_of shape v) (sh.distinct v) (λ u q. self_is shape sizes list co ow v u q) (λ u w q q' n. two v u w l q q' n)) in
    work-parts shape sizes prices list ∙ ap (λ n. prices.comp * n + prices.inst * sum_below (λ p. inst_rows sizes (slice_get list p)) (length list)) (a ∙ b) ∙ ap (λ n. prices.comp * sum_below (λ v. sum_by (λ u. (sizes u).change) (children_of shape v) + sum_pairs m (children_of shape v)) (length shape) + prices.inst * n) (insts_are shape sizes list co)
  where
    two : (v u w : ℕ) → v < length shape → has (children_of shape v) u ≡ true → has (children_of shape v) w ≡ true → (u ≡ w → ⊥) → paid sizes list v u w + paid sizes list v w u ≡ m u w
    two v u w l q q' n =
        let a = comp_at shape list co ow v u q in
        let b = comp_at shape list co ow v w q' in
        let lu : u < v = sh.lower v u q in
        let lw : w < v = sh.lower v w q' in
        let c = co.an_inst u (omega arith) in
        let d = co.an_inst w (omega arith) in
        ⊎_elim
        (λ e. absurd (n (single_has u w (subst (λ z. has z w ≡ true) (comps_same v (w ∷ []) (u ∷ []) (sym b.1 ∙ ap (slice_get list) (sym e) ∙ a.1)) (single_own w)))))
        (λ o. ⊎_elim
        (λ k.
        let s : c.0 < d.0 = (comps_in_order shape list co v u w a.0 b.0 c.0 d.0 a.1 b.1 c.1 d.1 k).1 in
        pair_is shape sizes list co v u w a.0 b.0 c.0 d.0 n a.1 b.1 c.1 d.1 k ∙ sym (says v u w c.0 d.0 q q' c.1 d.1 s).0)
        (λ k.
        let s : d.0 < c.0 = (comps_in_order shape list co v w u b.0 a.0 d.0 c.0 b.1 a.1 d.1 c.1 k).1 in
        let x = pair_is shape sizes list co v w u b.0 a.0 d.0 c.0 (λ e. n (sym e)) b.1 a.1 d.1 c.1 k in
        let y = (says v w u d.0 c.0 q' q d.1 c.1 s).1 in
        omega arith)
        o)
        (cases_order a.0 b.0)

-- where the views are installed in the desired order, the work is the pair bound
pub work_as_desired : (shape : List (List ℕ)) (sizes : ℕ → Size) (prices : Prices) (list : List Expression) → IsShape shape → IsCorrect shape list → IsOneWay list → ((v u w p q : ℕ) → has (children_of shape v) u ≡ true → has (children_of shape v) w ≡ true → At list p (Inst u) → At list q (Inst w) → p < q → ComesFirst sizes u w) → work_of shape sizes prices list ≡ pair_bound_of shape sizes prices
work_as_desired shape sizes prices list sh co ow des =
    work_one_way shape sizes prices list (pair_min sizes) sh co ow (λ v u w p q m m' a b l.
    let e = sym (desired_is_least sizes u w (des v u w p q m m' a b l)) in
    (e, pair_min-swap sizes w u ∙ e))
