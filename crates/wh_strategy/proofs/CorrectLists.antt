-- A list that is correct by its places passes the tests.
use Rattle.std.proofs.Common.{◌≡◌, ℕ, zero, suc, ◌+◌, ◌<◌, ◌≤◌, List, [], ◌∷◌, ◌++◌, Bool, true, false, eqb, not, refl, sym, ap, ◌∙◌, subst, length, take, Some, None, ◌||◌, arith, append_assoc}
use Rattle.std.specs.Prelude.{slice_get}
use Rattle.std.specs.List.{list_any}
use Rattle.std.proofs.lemmas.Option.{none-some, same_Some}
use Rattle.std.proofs.lemmas.Bool.{eqb-true, eq-eqb, ne_eqb, lt-leb, false≢true, or_left, or_right, and_parts, and_from, cond-false, both_ways, false_from_ne_true, not_from_true}
use Rattle.wh_dag.specs.Shape.{has, Distinct, IsShape, children_of}
use Rattle.wh_strategy.specs.declared.expression.Expression.{Expression}
use Rattle.wh_strategy.specs.declared.expression.Expression.TheVariants.{Comp, Inst}
use Rattle.wh_strategy.specs.declared.rule.Rule.{Rule}
use Rattle.wh_strategy.specs.declared.rule.Rule.TheVariants.{S1, S2, S3, S4, S5, S6}
use Rattle.wh_strategy.specs.Expression.{At, is_inst}
use Rattle.wh_strategy.specs.Rules.{IsCorrect}
use Rattle.wh_strategy.specs.Tests.{is_doubled, is_installed, takes, is_taken, leaves_open, reads, is_stray, is_broken, lacks_comp, lacks_inst, lacks, place_from, Passes}
use Rattle.wh_strategy.proofs.Found.{has-head, has-tail, any_before, found_before, is_that_inst}
use Rattle.wh_strategy.proofs.Passing.{take_front, get_front}

neither : (a b : Bool) → a ≡ false → b ≡ false → (a || b) ≡ false
neither a b x y = ap (λ z. z || b) x ∙ y

place_none : (rule : Rule) (shape : List (List ℕ)) (all before rest : List Expression) → all ≡ before ++ rest → ((p : ℕ) (e : Expression) → At all p e → is_broken rule shape (take p all) e ≡ false) → lacks rule shape all ≡ false → place_from rule shape before rest ≡ None
unfolding place_from
place_none rule shape all before [] same kept none =
    cond-false (lacks rule shape before) (Some (length before + 1)) None (ap (lacks rule shape) (sym (same ∙ append-nil before)) ∙ none)
  where
    append-nil : (xs : List Expression) → xs ++ [] ≡ xs
    append-nil [] = refl
    append-nil (x ∷ xs) = ap (λ z. x ∷ z) (append-nil xs)
place_none rule shape all before (x ∷ rest) same kept none =
    let at : At all (length before) x = ap (λ z. slice_get z (length before)) same ∙ get_front before x rest in
    let front : take (length before) all ≡ before = ap (take (length before)) same ∙ take_front before x rest in
    cond-false (is_broken rule shape before x) (Some (length before + 1)) (place_from rule shape (before ++ x ∷ []) rest) (ap (λ z. is_broken rule shape z x) (sym front) ∙ kept (length before) x at)
    ∙ place_none rule shape all (before ++ x ∷ []) rest (same ∙ sym (append_assoc before (x ∷ []) rest)) kept none

none_before : (t : Expression → Bool) (list : List Expression) (p : ℕ) → ((q : ℕ) (e : Expression) → At list q e → q < p → t e ≡ true → ⊥) → list_any t (take p list) ≡ false
none_before t list p h = false_from_ne_true _ (λ y. let r = found_before t list p y in h r.0 r.1 r.2 r.3 r.4)

none_of : (t : ℕ → Bool) (ys : List ℕ) → ((u : ℕ) → has ys u ≡ true → t u ≡ false) → list_any t ys ≡ false
none_of t [] h = refl
none_of t (y ∷ ys) h = neither (t y) (list_any t ys) (h y (has-head y ys)) (none_of t ys (λ u m. h u (has-tail y u ys m)))

pub any_at : (t : Expression → Bool) (list : List Expression) (p : ℕ) (e : Expression) → slice_get list p ≡ Some e → t e ≡ true → list_any t list ≡ true
any_at t [] p e at y = absurd (none-some e at)
any_at t (x ∷ xs) zero e at y = or_left (t x) (list_any t xs) (ap t (same_Some x e at) ∙ y)
any_at t (x ∷ xs) (suc p) e at y = or_right (t x) (list_any t xs) (any_at t xs p e at y)

pub once_each : (ys : List ℕ) → Distinct ys → is_doubled ys ≡ false
unfolding is_doubled Distinct
once_each [] d = refl
once_each (y ∷ ys) d = neither (has ys y) (is_doubled ys) d.0 (once_each ys d.1)

pub comp_of : (v u : ℕ) (e : Expression) → takes v u e ≡ true → (ys : List ℕ) × (e ≡ Comp v ys) × (has ys u ≡ true)
comp_of v u (Inst x) t = absurd (false≢true t)
comp_of v u (Comp x ys) t = let both = and_parts (eqb x v) (has ys u) t in (ys, ap (λ z. Comp z ys) (eqb-true x v both.0), both.1)

pub reader_of : (v : ℕ) (e : Expression) → reads v e ≡ true → (w : ℕ) × (ys : List ℕ) × (e ≡ Comp w ys) × (has ys v ≡ true)
reader_of v (Inst x) t = absurd (false≢true t)
reader_of v (Comp x ys) t = (x, ys, refl, t)

none_lacking : (all : List Expression) (shape : List (List ℕ)) (v : ℕ) → ((w u : ℕ) (own : List ℕ) → slice_get shape w ≡ Some own → has own u ≡ true → is_taken all (v + w) u ≡ true) → lacks_comp all v shape ≡ false
unfolding lacks_comp
none_lacking all [] v h = refl
none_lacking all (x ∷ xs) v h =
    let e : v + 0 ≡ v = omega arith in
    neither (list_any (λ u. not (is_taken all v u)) x) (lacks_comp all (v + 1) xs)
    (none_of (λ u. not (is_taken all v u)) x (λ u m. not_from_true (is_taken all v u) (subst (λ z. is_taken all z u ≡ true) e (h 0 u x refl m))))
    (none_lacking all xs (v + 1) (λ w u own at m. let f : v + suc w ≡ v + 1 + w = omega arith in subst (λ z. is_taken all z u ≡ true) f (h (suc w) u own at m)))

none_uninstalled : (all : List Expression) (shape : List (List ℕ)) (v : ℕ) → ((w : ℕ) → w < length shape → is_installed all (v + w) ≡ true) → lacks_inst all v shape ≡ false
unfolding lacks_inst
none_uninstalled all [] v h = refl
none_uninstalled all (x ∷ xs) v h =
    let e : v + 0 ≡ v = omega arith in
    neither (not (is_installed all v)) (lacks_inst all (v + 1) xs)
    (not_from_true (is_installed all v) (subst (λ z. is_installed all z ≡ true) e (h 0 (omega arith))))
    (none_uninstalled all xs (v + 1) (λ w l. let f : v + suc w ≡ v + 1 + w = omega arith in subst (λ z. is_installed all z ≡ true) f (h (suc w) (omega arith))))

child_list : (shape : List (List ℕ)) (w u : ℕ) (own : List ℕ) → slice_get shape w ≡ Some own → has own u ≡ true → has (children_of shape w) u ≡ true
unfolding children_of
child_list [] w u own at m = absurd (none-some own at)
child_list (x ∷ xs) zero u own at m = subst (λ z. has z u ≡ true) (sym (same_Some x own at)) m
child_list (x ∷ xs) (suc w) u own at m = child_list xs w u own at m

pub passes_all : (shape : List (List ℕ)) (list : List Expression) → IsShape shape → IsCorrect shape list → (rule : Rule) → Passes shape list rule
passes_all shape list sh co rule = place_none rule shape list [] list refl (λ p e at. kept rule p e at) (whole rule)
  where
    not_installed : (p u : ℕ) → ((q : ℕ) → At list q (Inst u) → p ≤ q) → is_installed (take p list) u ≡ false
    not_installed p u h = none_before (is_inst u) list p (λ q e at l y. let k = h q (at ∙ ap Some (is_that_inst u e y)) in omega arith)

    stray : (p v : ℕ) (ys : List ℕ) → At list p (Comp v ys) → is_stray (take p list) (children_of shape v) v ys ≡ false
    stray p v ys at =
        let ok = co.allowed p v ys at in
        let long : 1 ≤ length ys = ok.1 in
        neither _ _ (ne_eqb (length ys) 0 (λ e. omega arith))
        (neither _ _ (none_of (λ u. not (has (children_of shape v) u)) ys (λ u m. not_from_true (has (children_of shape v) u) (ok.3 u m)))
        (neither _ _ (once_each ys ok.2)
        (none_of (is_taken (take p list) v) ys (λ u m. none_before (takes v u) list p (λ q e a l t.
        let c = comp_of v u e t in
        let s : q ≡ p = co.once q p v u c.0 ys (a ∙ ap Some c.1) at c.2 m in
        omega arith)))))

    shut : (p v : ℕ) (zs : List ℕ) → At list p (Comp v zs) → (q : ℕ) (e : Expression) → At list q e → q < p → leaves_open (take p list) v e ≡ true → ⊥
    shut p v zs at q (Inst x) a l t = false≢true t
    shut p v zs at q (Comp x ys) a l t =
        let both = and_parts (eqb x v) (list_any (λ u. not (is_installed (take p list) u)) ys) t in
        let a' : At list q (Comp v ys) = subst (λ z. At list q (Comp z ys)) (eqb-true x v both.0) a in
        both_ways (list_any (λ u. not (is_installed (take p list) u)) ys) (none_of (λ u. not (is_installed (take p list) u)) ys (λ u m.
        let i = co.between q p v u ys zs a' at l m in
        not_from_true (is_installed (take p list) u) (any_before (is_inst u) list p i.0 (Inst u) i.1 i.2 (eq-eqb u u refl)))) both.1

    kept : (rule : Rule) (p : ℕ) (e : Expression) → At list p e → is_broken rule shape (take p list) e ≡ false
    kept S1 p (Comp v ys) at = stray p v ys at
    kept S1 p (Inst v) at = refl
    kept S2 p (Comp v ys) at = refl
    kept S2 p (Inst v) at = neither _ _ (lt-leb (length shape) v (co.views p v at)) (not_installed p v (λ q a. let e : q ≡ p = co.one_inst q p v a at in omega arith))
    kept S3 p (Comp v ys) at = none_of (is_installed (take p list)) ys (λ u m. not_installed p u (λ q a. let k : p < q = co.before_inst p q v u ys at m a in omega arith))
    kept S3 p (Inst v) at = refl
    kept S4 p (Comp v zs) at = none_before (leaves_open (take p list) v) list p (λ q e a l t. shut p v zs at q e a l t)
    kept S4 p (Inst v) at = refl
    kept S5 p (Comp v ys) at = not_installed p v (λ q a. let k : p < q = co.own_inst p q v ys at a in omega arith)
    kept S5 p (Inst v) at = refl
    kept S6 p (Comp v ys) at = none_before (reads v) list p (λ q e a l t.
        let c = reader_of v e t in
        let k : p < q = co.changes_first p q v c.0 ys c.1 at (a ∙ ap Some c.2) c.3 in
        omega arith)
    kept S6 p (Inst v) at = refl

    whole : (rule : Rule) → lacks rule shape list ≡ false
    whole S1 = none_lacking list shape 0 (λ w u own at m.
        let e : 0 + w ≡ w = omega arith in
        let r = co.each w u (child_list shape w u own at m) in
        subst (λ z. is_taken list z u ≡ true) (sym e) (any_at (takes w u) list r.0 (Comp w r.1) r.2 (and_from (eqb w w) (has r.1 u) (eq-eqb w w refl) r.3)))
    whole S2 = none_uninstalled list shape 0 (λ w l.
        let e : 0 + w ≡ w = omega arith in
        let r = co.an_inst w l in
        subst (λ z. is_installed list z ≡ true) (sym e) (any_at (is_inst w) list r.0 (Inst w) r.1 (eq-eqb w w refl)))
    whole S3 = refl
    whole S4 = refl
    whole S5 = refl
    whole S6 = refl
