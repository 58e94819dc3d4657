-- Each correct strategy costs at least the pair bound.
use Rattle.std.proofs.Common.{◌≡◌, ℕ, ◌+◌, ◌*◌, ◌<◌, ◌≤◌, List, Bool, true, false, cond, eqb, refl, sym, ap, ◌∙◌, subst, length, Option, Some, None, ⊎_elim, arith}
use Rattle.std.specs.Prelude.{slice_get}
use Rattle.std.specs.List.{sum_by}
use Rattle.std.proofs.Math.Nat.{mul-le-mul_left}
use Rattle.std.proofs.lemmas.Option.{slice_get_within}
use Rattle.std.proofs.lemmas.Bool.{cases_order, eq-eqb, ne_eqb, false≢true, cond-true, cond-false}
use Rattle.wh_dag.specs.Shape.{has, Distinct, IsShape, children_of}
use Rattle.wh_strategy.specs.declared.expression.Expression.{Expression}
use Rattle.wh_strategy.specs.declared.expression.Expression.TheVariants.{Comp, Inst}
use Rattle.wh_strategy.specs.Expression.{At, is_new}
use Rattle.wh_strategy.specs.Prices.{Prices}
use Rattle.wh_strategy.specs.Rules.{IsCorrect}
use Rattle.wh_strategy.specs.declared.sizes.Size.{Size}
use Rattle.wh_strategy.specs.Sums.{sum_below, parts}
use Rattle.wh_strategy.specs.Work.{state, comp_rows, inst_rows, work_of}
use Rattle.wh_dag.proofs.PartSums.{charge, charged}
use Rattle.wh_strategy.proofs.Found.{new_after, old_before}
use Rattle.wh_strategy.proofs.SumsBelow.{sum_by-same, sum_by-swap}
use Rattle.wh_cert.specs.Bound.{in_order, pair_min, rows_by, sum_pairs, pair_bound_of}
use Rattle.wh_cert.proofs.Dues.{due, due_to}
use Rattle.wh_cert.proofs.Duties.{members_within, pairs_within}
use Rattle.wh_cert.proofs.Sums.{sum_below-le, sum_below-at, sum_below-zero, sum_below-only, sum_below-add, sum_below-mul, sum_below-swap, sum_below-by, sum_by-zero_at, sum_by-le_at}
use Rattle.wh_cert.proofs.WeighedSizes.{GrowWithin}

-- what the expression at this place pays of what u is to be charged for w in the Comps of v
abbrev pub pay : (ℕ → Size) → List Expression → ℕ → ℕ → ℕ → Option Expression → ℕ → ℕ
pay sizes list p v u None w = 0
pay sizes list p v u (Some (Inst x)) w = 0
pay sizes list p v u (Some (Comp x ys)) w = cond (eqb x v) (cond (has ys w) (due (has ys u) (sizes u).change (state sizes list p u) u w) 0) 0

abbrev pub pay_all : List (List ℕ) → (ℕ → Size) → List Expression → ℕ → Option Expression → ℕ → ℕ
pay_all shape sizes list p e v = sum_by (λ u. sum_by (pay sizes list p v u e) (children_of shape v)) (children_of shape v)

-- a Comp pays no more than it costs
comp_pays : (shape : List (List ℕ)) (sizes : ℕ → Size) (list : List Expression) (p v : ℕ) (ys : List ℕ) → Distinct ys → Distinct (children_of shape v) → pay_all shape sizes list p (Some (Comp v ys)) v ≤ comp_rows shape sizes list p (Some (Comp v ys))
comp_pays shape sizes list p v ys d e =
    let cs = children_of shape v in
    let chg : ℕ → ℕ = λ u. (sizes u).change in
    let st : ℕ → ℕ = λ u. state sizes list p u in
    let swap = sum_by-swap (λ u. charge (chg u) (st u) u) cs (parts ys) in
    let each = sum_by-le_at (λ u. sum_by (pay sizes list p v u (Some (Comp v ys))) cs) (λ u. charged (chg u) (st u) u ys) cs (λ u m. one cs u e) in
    subst (λ n. pay_all shape sizes list p (Some (Comp v ys)) v ≤ n) swap each
  where
    one : (cs : List ℕ) (u : ℕ) → Distinct cs → sum_by (pay sizes list p v u (Some (Comp v ys))) cs ≤ charged (sizes u).change (state sizes list p u) u ys
    one cs u dc =
        let f : ℕ → ℕ = λ w. due (has ys u) (sizes u).change (state sizes list p u) u w in
        let a = members_within f ys cs dc in
        let b = due_to (sizes u).change (state sizes list p u) u ys d in
        let c = sum_by-same (pay sizes list p v u (Some (Comp v ys))) (λ w. cond (has ys w) (f w) 0) cs (λ w. cond-true (eqb v v) (cond (has ys w) (f w) 0) 0 (eq-eqb v v refl)) in
        omega arith

pub pay_apart : (sizes : ℕ → Size) (list : List Expression) (p v x u w : ℕ) (ys : List ℕ) → (v ≡ x → ⊥) → pay sizes list p v u (Some (Comp x ys)) w ≡ 0
pay_apart sizes list p v x u w ys n = cond-false (eqb x v) (cond (has ys w) (due (has ys u) (sizes u).change (state sizes list p u) u w) 0) 0 (ne_eqb x v (λ e. n (sym e)))

pub none_paid : (h : ℕ → ℕ → ℕ) (xs : List ℕ) → ((u w : ℕ) → h u w ≡ 0) → sum_by (λ u. sum_by (h u) xs) xs ≡ 0
none_paid h xs z = sum_by-zero_at (λ u. sum_by (h u) xs) xs (λ u m. sum_by-zero_at (h u) xs (λ w q. z u w))

-- each expression pays no more than it costs, over all views
each_pays : (shape : List (List ℕ)) (sizes : ℕ → Size) (list : List Expression) → IsShape shape → IsCorrect shape list → (p : ℕ) (e : Option Expression) → slice_get list p ≡ e → sum_below (pay_all shape sizes list p e) (length shape) ≤ comp_rows shape sizes list p e
each_pays shape sizes list sh co p None at =
    let z = sum_below-zero (pay_all shape sizes list p None) (length shape) (λ v l. none_paid (λ u. pay sizes list p v u None) (children_of shape v) (λ u w. refl)) in
    omega arith
each_pays shape sizes list sh co p (Some (Inst x)) at =
    let z = sum_below-zero (pay_all shape sizes list p (Some (Inst x))) (length shape) (λ v l. none_paid (λ u. pay sizes list p v u (Some (Inst x))) (children_of shape v) (λ u w. refl)) in
    omega arith
each_pays shape sizes list sh co p (Some (Comp x ys)) at =
    let ok = co.allowed p x ys at in
    let o = sum_below-only (pay_all shape sizes list p (Some (Comp x ys))) (length shape) x ok.0 (λ v l n. none_paid (λ u. pay sizes list p v u (Some (Comp x ys))) (children_of shape v) (λ u w. pay_apart sizes list p v x u w ys n)) in
    let c = comp_pays shape sizes list p x ys ok.2 (sh.distinct x) in
    omega arith

-- what all places pay
abbrev pub paid : (ℕ → Size) → List Expression → ℕ → ℕ → ℕ → ℕ
paid sizes list v u w = sum_below (λ p. pay sizes list p v u (slice_get list p) w) (length list)

abbrev pub rows_of : List (List ℕ) → (ℕ → Size) → List Expression → ℕ
rows_of shape sizes list = sum_below (λ p. comp_rows shape sizes list p (slice_get list p)) (length list)

all_pay : (shape : List (List ℕ)) (sizes : ℕ → Size) (list : List Expression) → IsShape shape → IsCorrect shape list → sum_below (λ v. sum_by (λ u. sum_by (paid sizes list v u) (children_of shape v)) (children_of shape v)) (length shape) ≤ rows_of shape sizes list
all_pay shape sizes list sh co =
    let le = sum_below-le (λ p. sum_below (pay_all shape sizes list p (slice_get list p)) (length shape)) (λ p. comp_rows shape sizes list p (slice_get list p)) (length list) (λ p l. each_pays shape sizes list sh co p (slice_get list p) refl) in
    let sw = sum_below-swap (λ p. pay_all shape sizes list p (slice_get list p)) (length list) (length shape) in
    let inside = sum_below-le (λ v. sum_by (λ u. sum_by (paid sizes list v u) (children_of shape v)) (children_of shape v)) (λ v. sum_below (λ p. pay_all shape sizes list p (slice_get list p) v) (length list)) (length shape) (λ v l. one v) in
    omega arith
  where
    one : (v : ℕ) → sum_by (λ u. sum_by (paid sizes list v u) (children_of shape v)) (children_of shape v) ≤ sum_below (λ p. pay_all shape sizes list p (slice_get list p) v) (length list)
    one v =
        let cs = children_of shape v in
        let a = sum_below-by (λ p u. sum_by (pay sizes list p v u (slice_get list p)) cs) cs (length list) in
        let b = sum_by-same (λ u. sum_below (λ p. sum_by (pay sizes list p v u (slice_get list p)) cs) (length list)) (λ u. sum_by (paid sizes list v u) cs) cs (λ u. sum_below-by (λ p w. pay sizes list p v u (slice_get list p) w) cs (length list)) in
        omega arith

-- one place pays
pub pays_at : (sizes : ℕ → Size) (list : List Expression) (p v u w : ℕ) (ys : List ℕ) → At list p (Comp v ys) → has ys w ≡ true → due (has ys u) (sizes u).change (state sizes list p u) u w ≤ paid sizes list v u w
pays_at sizes list p v u w ys at m =
    let d : ℕ = due (has ys u) (sizes u).change (state sizes list p u) u w in
    let a = sum_below-at (λ q. pay sizes list q v u (slice_get list q) w) (length list) p (slice_get_within list p (Comp v ys) at) in
    let b = ap (λ e. pay sizes list p v u e w) at in
    let c = cond-true (eqb v v) (cond (has ys w) d 0) 0 (eq-eqb v v refl) in
    let e = cond-true (has ys w) d 0 m in
    omega arith

pub self_paid : (shape : List (List ℕ)) (sizes : ℕ → Size) (list : List Expression) → IsCorrect shape list → (v u : ℕ) → has (children_of shape v) u ≡ true → (sizes u).change ≤ paid sizes list v u u
self_paid shape sizes list co v u m =
    let w = co.each v u m in
    let a = pays_at sizes list w.0 v u u w.1 w.2 w.3 in
    let b = cond-true (eqb u u) (sizes u).change (cond (has w.1 u) ((sizes u).change + state sizes list w.0 u) (state sizes list w.0 u)) (eq-eqb u u refl) in
    omega arith

-- Comps of two children: the one that comes first is new at the other
pub first_paid : (shape : List (List ℕ)) (sizes : ℕ → Size) (list : List Expression) → IsCorrect shape list → (v u w p q : ℕ) (ys zs : List ℕ) → (u ≡ w → ⊥) → At list p (Comp v ys) → has ys u ≡ true → At list q (Comp v zs) → has zs w ≡ true → p < q → in_order sizes u w ≤ paid sizes list v u w + paid sizes list v w u
first_paid shape sizes list co v u w p q ys zs n at m at' m' l =
    let a = pays_at sizes list q v u w zs at' m' in
    let b = pays_at sizes list p v w u ys at m in
    let i = co.between p q v u ys zs at at' l m in
    let new = new_after list q i.0 u i.1 i.2 in
    let old = old_before list p w (λ r h. let k = co.before_inst q r v w zs at' m' h in omega arith) in
    let s = cond-true (is_new list q u) (sizes u).post (sizes u).pre new in
    let t = cond-false (is_new list p w) (sizes w).post (sizes w).pre old in
    let d = other_due (has zs u) (sizes u).change (state sizes list q u) u w (λ e. n (sym e)) in
    let e = other_due (has ys w) (sizes w).change (state sizes list p w) w u n in
    omega arith
  where
    other_due : (b : Bool) (c s x y : ℕ) → (y ≡ x → ⊥) → s ≤ due b c s x y
    other_due true c s x y k = let h = cond-false (eqb y x) c (c + s) (ne_eqb y x k) in omega arith
    other_due false c s x y k = let h = cond-false (eqb y x) c s (ne_eqb y x k) in omega arith

same_paid : (shape : List (List ℕ)) (sizes : ℕ → Size) (list : List Expression) → GrowWithin sizes → IsCorrect shape list → (v u w p : ℕ) (ys : List ℕ) → (u ≡ w → ⊥) → At list p (Comp v ys) → has ys u ≡ true → has ys w ≡ true → in_order sizes u w ≤ paid sizes list v u w + paid sizes list v w u
same_paid shape sizes list si co v u w p ys n at m m' =
    let a = pays_at sizes list p v u w ys at m' in
    let b = pays_at sizes list p v w u ys at m in
    let ou = old_before list p u (λ r h. let k = co.before_inst p r v u ys at m h in omega arith) in
    let ow = old_before list p w (λ r h. let k = co.before_inst p r v w ys at m' h in omega arith) in
    let s = cond-false (is_new list p u) (sizes u).post (sizes u).pre ou in
    let t = cond-false (is_new list p w) (sizes w).post (sizes w).pre ow in
    let d = inner_due (has ys u) (sizes u).change (state sizes list p u) u w (λ e. n (sym e)) m in
    let e = inner_due (has ys w) (sizes w).change (state sizes list p w) w u n m' in
    let z = si u in
    omega arith
  where
    inner_due : (b : Bool) (c s x y : ℕ) → (y ≡ x → ⊥) → b ≡ true → c + s ≤ due b c s x y
    inner_due true c s x y k e = let h = cond-false (eqb y x) c (c + s) (ne_eqb y x k) in omega arith
    inner_due false c s x y k e = absurd (false≢true e)

pair_paid : (shape : List (List ℕ)) (sizes : ℕ → Size) (list : List Expression) → GrowWithin sizes → IsCorrect shape list → (v u w : ℕ) → has (children_of shape v) u ≡ true → has (children_of shape v) w ≡ true → (u ≡ w → ⊥) → pair_min sizes u w ≤ paid sizes list v u w + paid sizes list v w u
pair_paid shape sizes list si co v u w m m' n =
    let a = co.each v u m in
    let b = co.each v w m' in
    ⊎_elim
    (λ e.
    let same : At list a.0 (Comp v b.1) = rw e b.2 in
    let ys : has a.1 w ≡ true = subst (λ z. has z w ≡ true) (comps_same v b.1 a.1 (sym same ∙ a.2)) b.3 in
    let h = same_paid shape sizes list si co v u w a.0 a.1 n a.2 a.3 ys in
    omega arith)
    (λ r. ⊎_elim
    (λ l. let h = first_paid shape sizes list co v u w a.0 b.0 a.1 b.1 n a.2 a.3 b.2 b.3 l in omega arith)
    (λ l. let h = first_paid shape sizes list co v w u b.0 a.0 b.1 a.1 (λ e. n (sym e)) b.2 b.3 a.2 a.3 l in omega arith)
    r)
    (cases_order a.0 b.0)
  where
    comps_same : (v : ℕ) (ys zs : List ℕ) → ◌≡◌ {A = Option Expression} (Some (Comp v ys)) (Some (Comp v zs)) → ys ≡ zs
    comps_same v ys zs e = cc

-- the Comps of all views, where m is covered for each pair
pub comps_cost_least : (shape : List (List ℕ)) (sizes : ℕ → Size) (list : List Expression) (m : ℕ → ℕ → ℕ) → IsShape shape → IsCorrect shape list → ((v u w : ℕ) → has (children_of shape v) u ≡ true → has (children_of shape v) w ≡ true → (u ≡ w → ⊥) → m u w ≤ paid sizes list v u w + paid sizes list v w u) → sum_below (λ v. sum_by (λ u. (sizes u).change) (children_of shape v) + sum_pairs m (children_of shape v)) (length shape) ≤ rows_of shape sizes list
comps_cost_least shape sizes list m sh co two =
    let a = all_pay shape sizes list sh co in
    let b = sum_below-le (λ v. sum_by (λ u. (sizes u).change) (children_of shape v) + sum_pairs m (children_of shape v)) (λ v. sum_by (λ u. sum_by (paid sizes list v u) (children_of shape v)) (children_of shape v)) (length shape) (λ v l. pairs_within (paid sizes list v) m (λ u. (sizes u).change) (children_of shape v) (sh.distinct v) (λ u q. self_paid shape sizes list co v u q) (λ u w q q' n. two v u w q q' n)) in
    omega arith

comps_cost : (shape : List (List ℕ)) (sizes : ℕ → Size) (list : List Expression) → IsShape shape → GrowWithin sizes → IsCorrect shape list → sum_below (λ v. rows_by (pair_min sizes) sizes (children_of shape v)) (length shape) ≤ rows_of shape sizes list
comps_cost shape sizes list sh si co = comps_cost_least shape sizes list (pair_min sizes) sh co (λ v u w q q' n. pair_paid shape sizes list si co v u w q q' n)

-- the Insts
abbrev pub pay_inst : (ℕ → Size) → Option Expression → ℕ → ℕ
pay_inst sizes None v = 0
pay_inst sizes (Some (Comp x ys)) v = 0
pay_inst sizes (Some (Inst x)) v = cond (eqb x v) (sizes v).change 0

pub each_installs : (shape : List (List ℕ)) (sizes : ℕ → Size) (list : List Expression) → IsCorrect shape list → (p : ℕ) (e : Option Expression) → slice_get list p ≡ e → sum_below (pay_inst sizes e) (length shape) ≤ inst_rows sizes e
each_installs shape sizes list co p None at = let z = sum_below-zero (pay_inst sizes None) (length shape) (λ v l. refl) in omega arith
each_installs shape sizes list co p (Some (Comp x ys)) at = let z = sum_below-zero (pay_inst sizes (Some (Comp x ys))) (length shape) (λ v l. refl) in omega arith
each_installs shape sizes list co p (Some (Inst x)) at =
    let o = sum_below-only (pay_inst sizes (Some (Inst x))) (length shape) x (co.views p x at) (λ v l n. cond-false (eqb x v) (sizes v).change 0 (ne_eqb x v (λ e. n (sym e)))) in
    let s = cond-true (eqb x x) (sizes x).change 0 (eq-eqb x x refl) in
    omega arith

pub insts_cost : (shape : List (List ℕ)) (sizes : ℕ → Size) (list : List Expression) → IsCorrect shape list → sum_below (λ v. (sizes v).change) (length shape) ≤ sum_below (λ p. inst_rows sizes (slice_get list p)) (length list)
insts_cost shape sizes list co =
    let le = sum_below-le (λ p. sum_below (pay_inst sizes (slice_get list p)) (length shape)) (λ p. inst_rows sizes (slice_get list p)) (length list) (λ p l. each_installs shape sizes list co p (slice_get list p) refl) in
    let sw = sum_below-swap (λ p v. pay_inst sizes (slice_get list p) v) (length list) (length shape) in
    let b = sum_below-le (λ v. (sizes v).change) (λ v. sum_below (λ p. pay_inst sizes (slice_get list p) v) (length list)) (length shape) (λ v l. one v l) in
    omega arith
  where
    one : (v : ℕ) → v < length shape → (sizes v).change ≤ sum_below (λ p. pay_inst sizes (slice_get list p) v) (length list)
    one v l =
        let w = co.an_inst v l in
        let a = sum_below-at (λ p. pay_inst sizes (slice_get list p) v) (length list) w.0 (slice_get_within list w.0 (Inst v) w.1) in
        let b = ap (λ e. pay_inst sizes e v) w.1 in
        let s = cond-true (eqb v v) (sizes v).change 0 (eq-eqb v v refl) in
        omega arith

-- work, as its Comps and its Insts
pub work-parts : (shape : List (List ℕ)) (sizes : ℕ → Size) (prices : Prices) (list : List Expression) → work_of shape sizes prices list ≡ prices.comp * rows_of shape sizes list + prices.inst * sum_below (λ p. inst_rows sizes (slice_get list p)) (length list)
work-parts shape sizes prices list =
    let f : ℕ → ℕ = λ p. comp_rows shape sizes list p (slice_get list p) in
    let g : ℕ → ℕ = λ p. inst_rows sizes (slice_get list p) in
    let a = sum_below-add (λ p. prices.comp * f p) (λ p. prices.inst * g p) (length list) in
    let b = sum_below-mul prices.comp f (length list) in
    let c = sum_below-mul prices.inst g (length list) in
    omega arith

pub pair_bound-le_work : (shape : List (List ℕ)) (sizes : ℕ → Size) (prices : Prices) (list : List Expression) → IsShape shape → GrowWithin sizes → IsCorrect shape list → pair_bound_of shape sizes prices ≤ work_of shape sizes prices list
pair_bound-le_work shape sizes prices list sh si co =
    let a = mul-le-mul_left prices.comp (comps_cost shape sizes list sh si co) in
    let b = mul-le-mul_left prices.inst (insts_cost shape sizes list co) in
    let w = work-parts shape sizes prices list in
    omega arith
