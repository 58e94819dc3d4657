-- A list that passes the tests is correct by its places.
use Rattle.std.proofs.Common.{◌≡◌, ℕ, zero, suc, ◌+◌, ◌<◌, ◌≤◌, List, [], ◌∷◌, ◌++◌, Bool, true, false, cond, eqb, not, refl, sym, ap, ◌∙◌, subst, length, take, Option, Some, None, ◌||◌, ◌&&◌, ⊎_elim, arith, append_assoc}
use Rattle.std.specs.Prelude.{slice_get}
use Rattle.std.specs.List.{list_any}
use Rattle.std.proofs.lemmas.Option.{none-some, same_Some, slice_get_within}
use Rattle.std.proofs.lemmas.Bool.{cases_Bool, cases_order, cases_lt, eqb-true, eq-eqb, leb-false, false≢true, or_parts, and_parts, and_from, both_ways, not-false}
use Rattle.wh_dag.specs.Shape.{has, Distinct, IsShape, children_of}
use Rattle.wh_strategy.specs.declared.expression.Expression.{Expression}
use Rattle.wh_strategy.specs.declared.expression.Expression.TheVariants.{Comp, Inst}
use Rattle.wh_strategy.specs.declared.rule.Rule.{Rule}
use Rattle.wh_strategy.specs.declared.rule.Rule.TheVariants.{S1, S2, S3, S4, S5, S6}
use Rattle.wh_strategy.specs.Expression.{At, is_inst}
use Rattle.wh_strategy.specs.Rules.{IsCorrect}
use Rattle.wh_strategy.specs.Tests.{is_doubled, is_installed, takes, is_taken, leaves_open, reads, is_stray, is_broken, lacks_comp, lacks_inst, lacks, place_from, Passes}
use Rattle.wh_strategy.proofs.Found.{has-head, has_within, any_before, found_before, is_that_inst}

-- the place of the first broken rule, opened
step_none : (b : Bool) (n : ℕ) (o : Option ℕ) → cond b (Some n) o ≡ None → (b ≡ false) × (o ≡ None)
step_none true n o e = absurd (none-some n (sym e))
step_none false n o e = (refl, e)

pub take_front : (xs : List Expression) (e : Expression) (rest : List Expression) → take (length xs) (xs ++ e ∷ rest) ≡ xs
take_front [] e rest = refl
take_front (x ∷ xs) e rest = ap (λ z. x ∷ z) (take_front xs e rest)

pub get_front : (xs : List Expression) (e : Expression) (rest : List Expression) → slice_get (xs ++ e ∷ rest) (length xs) ≡ Some e
get_front [] e rest = refl
get_front (x ∷ xs) e rest = get_front xs e rest

pub length_one_more : (xs : List Expression) (e : Expression) → length (xs ++ e ∷ []) ≡ suc (length xs)
length_one_more [] e = refl
length_one_more (x ∷ xs) e = ap suc (length_one_more xs e)

get_past : (xs : List Expression) (p : ℕ) (e : Expression) → length xs ≤ p → slice_get xs p ≡ Some e → ⊥
get_past xs p e l at = let h = slice_get_within xs p e at in omega arith

pub each_kept : (rule : Rule) (shape : List (List ℕ)) (all before rest : List Expression) → all ≡ before ++ rest → place_from rule shape before rest ≡ None → (p : ℕ) (e : Expression) → length before ≤ p → At all p e → is_broken rule shape (take p all) e ≡ false
unfolding place_from
each_kept rule shape all before [] same none p e l at =
    absurd (get_past all p e (subst (λ z. length z ≤ p) (sym (same ∙ append-nil before)) l) at)
  where
    append-nil : (xs : List Expression) → xs ++ [] ≡ xs
    append-nil [] = refl
    append-nil (x ∷ xs) = ap (λ z. x ∷ z) (append-nil xs)
each_kept rule shape all before (x ∷ rest) same none p e l at =
    let both = step_none (is_broken rule shape before x) (length before + 1) (place_from rule shape (before ++ x ∷ []) rest) none in
    ⊎_elim
    (λ q.
    let is : Some x ≡ Some e = sym (ap (slice_get all) (sym q) ∙ ap (λ z. slice_get z (length before)) same ∙ get_front before x rest) ∙ at in
    let front : take p all ≡ before = ap (λ z. take z all) (sym q) ∙ ap (take (length before)) same ∙ take_front before x rest in
    ap (λ z. is_broken rule shape z e) front ∙ ap (is_broken rule shape before) (sym (same_Some x e is)) ∙ both.0)
    (λ o. ⊎_elim
    (λ k. let s = length_one_more before x in each_kept rule shape all (before ++ x ∷ []) rest (same ∙ sym (append_assoc before (x ∷ []) rest)) both.1 p e (omega arith) at)
    (λ k. absurd (omega arith))
    o)
    (cases_order (length before) p)

pub none_lacks : (rule : Rule) (shape : List (List ℕ)) (before rest : List Expression) → place_from rule shape before rest ≡ None → lacks rule shape (before ++ rest) ≡ false
unfolding place_from
none_lacks rule shape before [] none =
    ap (lacks rule shape) (append-nil before) ∙ (step_none (lacks rule shape before) (length before + 1) None none).0
  where
    append-nil : (xs : List Expression) → xs ++ [] ≡ xs
    append-nil [] = refl
    append-nil (x ∷ xs) = ap (λ z. x ∷ z) (append-nil xs)
none_lacks rule shape before (x ∷ rest) none =
    let both = step_none (is_broken rule shape before x) (length before + 1) (place_from rule shape (before ++ x ∷ []) rest) none in
    ap (lacks rule shape) (sym (append_assoc before (x ∷ []) rest)) ∙ none_lacks rule shape (before ++ x ∷ []) rest both.1

-- no element passes
not_before : (t : Expression → Bool) (list : List Expression) (p q : ℕ) (e : Expression) → list_any t (take p list) ≡ false → slice_get list q ≡ Some e → t e ≡ true → p ≤ q
not_before t list p q e n at y =
    ⊎_elim (λ l. absurd (both_ways _ n (any_before t list p q e at l y))) (λ l. l) (cases_lt q p)

not_member : (t : ℕ → Bool) (ys : List ℕ) (u : ℕ) → list_any t ys ≡ false → has ys u ≡ true → t u ≡ false
unfolding has
not_member t [] u n m = absurd (false≢true m)
not_member t (y ∷ ys) u n m =
    let both = or_parts _ _ n in
    ⊎_elim
    (λ e. ap t (sym (eqb-true y u e)) ∙ both.0)
    (λ e. not_member t ys u both.1 (sym (ap (λ b. b || has ys u) e) ∙ m))
    (cases_Bool (eqb y u))

pub not_doubled : (ys : List ℕ) → is_doubled ys ≡ false → Distinct ys
unfolding is_doubled Distinct
not_doubled [] n = tt
not_doubled (y ∷ ys) n = let both = or_parts _ _ n in (both.0, not_doubled ys both.1)

-- found anywhere in the list
found : (t : Expression → Bool) (list : List Expression) → list_any t list ≡ true → (q : ℕ) × (e : Expression) × (slice_get list q ≡ Some e) × (t e ≡ true)
found t [] y = absurd (false≢true y)
found t (x ∷ xs) y =
    ⊎_elim
    (λ e. (0, x, refl, e))
    (λ e. let r = found t xs (sym (ap (λ b. b || list_any t xs) e) ∙ y) in (suc r.0, r.1, r.2, r.3))
    (cases_Bool (t x))

pub taken_at : (list : List Expression) (v u : ℕ) → is_taken list v u ≡ true → (p : ℕ) × (ys : List ℕ) × At list p (Comp v ys) × (has ys u ≡ true)
taken_at list v u y = let r = found (takes v u) list y in open_it r.0 r.1 r.2 r.3
  where
    open_it : (p : ℕ) (e : Expression) → slice_get list p ≡ Some e → takes v u e ≡ true → (q : ℕ) × (ys : List ℕ) × At list q (Comp v ys) × (has ys u ≡ true)
    open_it p (Inst x) at t = absurd (false≢true t)
    open_it p (Comp x ys) at t = let both = and_parts _ _ t in (p, ys, subst (λ z. At list p (Comp z ys)) (eqb-true x v both.0) at, both.1)

each_taken : (all : List Expression) (shape : List (List ℕ)) (v w u : ℕ) (own : List ℕ) → lacks_comp all v shape ≡ false → slice_get shape w ≡ Some own → has own u ≡ true → is_taken all (v + w) u ≡ true
unfolding lacks_comp
each_taken all [] v w u own n at m = absurd (none-some own at)
each_taken all (x ∷ xs) v zero u own n at m =
    let both = or_parts _ _ n in
    let e : v + 0 ≡ v = omega arith in
    subst (λ z. is_taken all z u ≡ true) (sym e) (not-false _ (not_member (λ y. not (is_taken all v y)) x u both.0 (subst (λ z. has z u ≡ true) (sym (same_Some x own at)) m)))
each_taken all (x ∷ xs) v (suc w) u own n at m =
    let both = or_parts _ _ n in
    let e : v + 1 + w ≡ v + suc w = omega arith in
    subst (λ z. is_taken all z u ≡ true) e (each_taken all xs (v + 1) w u own both.1 at m)

each_installed : (all : List Expression) (shape : List (List ℕ)) (v w : ℕ) → lacks_inst all v shape ≡ false → w < length shape → is_installed all (v + w) ≡ true
unfolding lacks_inst
each_installed all [] v w n l = absurd (omega arith)
each_installed all (x ∷ xs) v zero n l =
    let both = or_parts _ _ n in
    let e : v + 0 ≡ v = omega arith in
    subst (λ z. is_installed all z ≡ true) (sym e) (not-false _ both.0)
each_installed all (x ∷ xs) v (suc w) n l =
    let both = or_parts _ _ n in
    let e : v + 1 + w ≡ v + suc w = omega arith in
    subst (λ z. is_installed all z ≡ true) e (each_installed all xs (v + 1) w both.1 (omega arith))

children_at : (shape : List (List ℕ)) (v u : ℕ) → has (children_of shape v) u ≡ true → slice_get shape v ≡ Some (children_of shape v)
unfolding children_of has
children_at [] v u m = absurd (false≢true m)
children_at (x ∷ xs) zero u m = refl
children_at (x ∷ xs) (suc v) u m = children_at xs v u m

no_member : (ys : List ℕ) → eqb (length ys) 0 ≡ false → (u : ℕ) × (has ys u ≡ true)
no_member [] n = absurd (false≢true (sym n))
no_member (y ∷ ys) n = (y, has-head y ys)

pub zero_plus : (v : ℕ) → 0 + v ≡ v
zero_plus v = omega arith

stray_parts : (before : List Expression) (own : List ℕ) (v : ℕ) (y : List ℕ) → is_stray before own v y ≡ false → (eqb (length y) 0 ≡ false) × (list_any (λ u. not (has own u)) y ≡ false) × (is_doubled y ≡ false) × (list_any (is_taken before v) y ≡ false)
stray_parts before own v y n =
    let a = or_parts (eqb (length y) 0) (list_any (λ u. not (has own u)) y || (is_doubled y || list_any (is_taken before v) y)) n in
    let b = or_parts (list_any (λ u. not (has own u)) y) (is_doubled y || list_any (is_taken before v) y) a.1 in
    let c = or_parts (is_doubled y) (list_any (is_taken before v) y) b.1 in
    (a.0, b.0, c.0, c.1)

pub by_tests : (shape : List (List ℕ)) (list : List Expression) → IsShape shape → ((rule : Rule) → Passes shape list rule) → IsCorrect shape list
by_tests shape list sh keeps =
    record {
      allowed = λ p v ys at. allow p v ys at;
      once = λ p q v u ys zs a b m m'. ⊎_elim (λ e. e) (λ o. ⊎_elim (λ l. absurd (apart p q v u ys zs a b m m' l)) (λ l. absurd (apart q p v u zs ys b a m' m l)) o) (cases_order p q);
      each = λ v u m. taken_at list v u (subst (λ z. is_taken list z u ≡ true) (zero_plus v) (each_taken list shape 0 v u (children_of shape v) (none_lacks S1 shape [] list (keeps S1)) (children_at shape v u m) m));
      views = λ p v at. leb-false (length shape) v (or_parts _ _ (ok S2 p (Inst v) at)).0;
      one_inst = λ p q v a b.
          let x = not_before (is_inst v) list p q (Inst v) (or_parts _ _ (ok S2 p (Inst v) a)).1 b (eq-eqb v v refl) in
          let y = not_before (is_inst v) list q p (Inst v) (or_parts _ _ (ok S2 q (Inst v) b)).1 a (eq-eqb v v refl) in
          omega arith;
      an_inst = λ v l. let r = found (is_inst v) list (subst (λ z. is_installed list z ≡ true) (zero_plus v) (each_installed list shape 0 v (none_lacks S2 shape [] list (keeps S2)) l)) in (r.0, r.2 ∙ ap Some (is_that_inst v r.1 r.3));
      before_inst = λ p q v u ys a m b. earlier p q v u ys a b (not_before (is_inst u) list p q (Inst u) (not_member (is_installed (take p list)) ys u (ok S3 p (Comp v ys) a) m) b (eq-eqb u u refl));
      between = λ p r v u ys zs a b l m. opened p r v u ys zs a b l m;
      own_inst = λ p q v ys a b. earlier p q v v ys a b (not_before (is_inst v) list p q (Inst v) (ok S5 p (Comp v ys) a) b (eq-eqb v v refl));
      changes_first = λ p q v w ys zs a b m. ahead p q v w ys zs a b m (not_before (reads v) list p q (Comp w zs) (ok S6 p (Comp v ys) a) b m);
    }
  where
    ok : (rule : Rule) (p : ℕ) (e : Expression) → At list p e → is_broken rule shape (take p list) e ≡ false
    ok rule p e at = each_kept rule shape list [] list refl (keeps rule) p e (omega arith) at

    allow : (p v : ℕ) (ys : List ℕ) → At list p (Comp v ys) → (v < length shape) × (1 ≤ length ys) × Distinct ys × ((u : ℕ) → has ys u ≡ true → has (children_of shape v) u ≡ true)
    allow p v ys at =
        let a = stray_parts (take p list) (children_of shape v) v ys (ok S1 p (Comp v ys) at) in
        let some = no_member ys a.0 in
        let own : (u : ℕ) → has ys u ≡ true → has (children_of shape v) u ≡ true = λ u m. not-false _ (not_member (λ y. not (has (children_of shape v) y)) ys u a.1 m) in
        (has_within shape v some.0 (own some.0 some.1), long ys a.0, not_doubled ys a.2, own)
      where
        long : (zs : List ℕ) → eqb (length zs) 0 ≡ false → 1 ≤ length zs
        long [] n = absurd (false≢true (sym n))
        long (z ∷ zs) n = omega arith

    apart : (p q v u : ℕ) (ys zs : List ℕ) → At list p (Comp v ys) → At list q (Comp v zs) → has ys u ≡ true → has zs u ≡ true → p < q → ⊥
    apart p q v u ys zs a b m m' l =
        let x = stray_parts (take q list) (children_of shape v) v zs (ok S1 q (Comp v zs) b) in
        let n = not_member (is_taken (take q list) v) zs u x.3 m' in
        let k = not_before (takes v u) list q p (Comp v ys) n a (and_from (eqb v v) (has ys u) (eq-eqb v v refl) m) in
        omega arith

    earlier : (p q v u : ℕ) (ys : List ℕ) → At list p (Comp v ys) → At list q (Inst u) → p ≤ q → p < q
    earlier p q v u ys a b l = ⊎_elim (λ e. absurd (differ (sym a ∙ ap (slice_get list) e ∙ b))) (λ o. ⊎_elim (λ k. k) (λ k. omega arith) o) (cases_order p q)
      where
        differ : ◌≡◌ {A = Option Expression} (Some (Comp v ys)) (Some (Inst u)) → ⊥
        differ e = cc

    opened : (p r v u : ℕ) (ys zs : List ℕ) → At list p (Comp v ys) → At list r (Comp v zs) → p < r → has ys u ≡ true → (q : ℕ) × At list q (Inst u) × (q < r)
    opened p r v u ys zs a b l m =
        let shut : leaves_open (take r list) v (Comp v ys) ≡ false = false_at (leaves_open (take r list) v) p r (Comp v ys) (ok S4 r (Comp v zs) b) a l in
        let inner : list_any (λ y. not (is_installed (take r list) y)) ys ≡ false = sym (ap (λ t. t && list_any (λ y. not (is_installed (take r list) y)) ys) (eq-eqb v v refl)) ∙ shut in
        let new : is_installed (take r list) u ≡ true = not-false _ (not_member (λ y. not (is_installed (take r list) y)) ys u inner m) in
        let f = found_before (is_inst u) list r new in
        (f.0, f.2 ∙ ap Some (is_that_inst u f.1 f.4), f.3)
      where
        false_at : (t : Expression → Bool) (p r : ℕ) (e : Expression) → list_any t (take r list) ≡ false → slice_get list p ≡ Some e → p < r → t e ≡ false
        false_at t p r e n at l = ⊎_elim (λ y. let k = not_before t list r p e n at y in absurd (omega arith)) (λ y. y) (cases_Bool (t e))

    ahead : (p q v w : ℕ) (ys zs : List ℕ) → At list p (Comp v ys) → At list q (Comp w zs) → has zs v ≡ true → p ≤ q → p < q
    ahead p q v w ys zs a b m l =
        ⊎_elim
        (λ e.
        let s : v ≡ w = same_view v w ys zs (sym a ∙ ap (slice_get list) e ∙ b) in
        let k : v < w = sh.lower w v ((allow q w zs b).3 v m) in
        absurd (omega arith))
        (λ o. ⊎_elim (λ k. k) (λ k. absurd (omega arith)) o)
        (cases_order p q)
      where
        same_view : (v w : ℕ) (ys zs : List ℕ) → ◌≡◌ {A = Option Expression} (Some (Comp v ys)) (Some (Comp w zs)) → v ≡ w
        same_view v w ys zs e = cc
