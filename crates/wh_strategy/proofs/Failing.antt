-- Where a rule's test fails, the rule is broken, and the other way round.
use Rattle.std.proofs.Common.{◌≡◌, ℕ, zero, suc, ◌+◌, ◌<◌, ◌≤◌, List, [], ◌∷◌, ◌++◌, ◌⊎◌, inl, inr, Bool, true, false, cond, eqb, not, refl, sym, ap, ◌∙◌, subst, length, take, Option, Some, None, ⊎_elim, arith, append_assoc}
use Rattle.std.specs.Prelude.{slice_get}
use Rattle.std.specs.List.{list_any}
use Rattle.std.proofs.lemmas.Option.{none-some, same_Some}
use Rattle.std.proofs.lemmas.Bool.{cases_Bool, cases_order, cases_lt, eqb-true, eq-eqb, leb-true, le-leb, false≢true, or_left, or_right, or_cases, and_parts, and_from, both_ways, false_from_ne_true}
use Rattle.wh_dag.specs.Shape.{has, Distinct, children_of}
use Rattle.wh_strategy.specs.declared.expression.Expression.{Expression}
use Rattle.wh_strategy.specs.declared.expression.Expression.TheVariants.{Comp, Inst}
use Rattle.wh_strategy.specs.declared.rule.Rule.{Rule}
use Rattle.wh_strategy.specs.declared.rule.Rule.TheVariants.{S1, S2, S3, S4, S5, S6}
use Rattle.wh_strategy.specs.Expression.{At, is_inst}
use Rattle.wh_strategy.specs.Rules.{IsStray, BreaksS4, Breaks, base_view, no_source, no_child, twice, again, stray_comp, missing_comp, no_view, second_inst, missing_inst}
use Rattle.wh_strategy.specs.Tests.{is_doubled, is_installed, takes, is_taken, leaves_open, reads, is_stray, is_broken, lacks_comp, lacks_inst, lacks, place_from}
use Rattle.wh_strategy.proofs.Found.{has-head, has-tail, any_before, found_before, is_that_inst}
use Rattle.wh_strategy.proofs.Passing.{take_front, get_front, length_one_more, not_doubled, taken_at}
use Rattle.wh_strategy.proofs.CorrectLists.{once_each, comp_of, reader_of, any_at}

-- the test of the rule fails at this place of the list
abbrev pub Fails : Rule → List (List ℕ) → List Expression → ℕ → Type 0
Fails rule shape list p = ((e : Expression) × At list p e × (is_broken rule shape (take p list) e ≡ true)) ⊎ ((p ≡ length list) × (lacks rule shape list ≡ true))

-- what some member passes
found_member : (t : ℕ → Bool) (ys : List ℕ) → list_any t ys ≡ true → (u : ℕ) × (has ys u ≡ true) × (t u ≡ true)
found_member t [] y = absurd (false≢true y)
found_member t (x ∷ xs) y =
    ⊎_elim
    (λ e. (x, has-head x xs, e))
    (λ e. let r = found_member t xs e in (r.0, has-tail x r.0 xs r.1, r.2))
    (or_cases _ _ y)

pub any_member : (t : ℕ → Bool) (ys : List ℕ) (u : ℕ) → has ys u ≡ true → t u ≡ true → list_any t ys ≡ true
unfolding has
any_member t [] u m y = absurd (false≢true m)
any_member t (x ∷ xs) u m y =
    ⊎_elim
    (λ e. or_left _ _ (ap t (eqb-true x u e) ∙ y))
    (λ e. or_right _ _ (any_member t xs u e y))
    (or_cases _ _ m)

installed_before : (list : List Expression) (p u : ℕ) → is_installed (take p list) u ≡ true → (q : ℕ) × (q < p) × At list q (Inst u)
installed_before list p u y = let r = found_before (is_inst u) list p y in (r.0, r.3, r.2 ∙ ap Some (is_that_inst u r.1 r.4))

is_new_at : (list : List Expression) (p q u : ℕ) → At list q (Inst u) → q < p → is_installed (take p list) u ≡ true
is_new_at list p q u at l = any_before (is_inst u) list p q (Inst u) at l (eq-eqb u u refl)

taken_before : (list : List Expression) (p v u : ℕ) → is_taken (take p list) v u ≡ true → (q : ℕ) × (zs : List ℕ) × (q < p) × At list q (Comp v zs) × (has zs u ≡ true)
taken_before list p v u y =
    let r = found_before (takes v u) list p y in
    let c = comp_of v u r.1 r.4 in
    (r.0, c.0, r.3, r.2 ∙ ap Some c.1, c.2)

doubled_twice : (ys : List ℕ) → is_doubled ys ≡ true → Distinct ys → ⊥
doubled_twice ys y d = both_ways _ (once_each ys d) y

empty_list : (ys : List ℕ) → eqb (length ys) 0 ≡ true → ys ≡ []
empty_list [] y = refl
empty_list (x ∷ xs) y = let e = eqb-true (length (x ∷ xs)) 0 y in absurd (omega arith)

stray_there : (shape : List (List ℕ)) (list : List Expression) (p v : ℕ) (ys : List ℕ) → is_stray (take p list) (children_of shape v) v ys ≡ true → IsStray shape list p v ys
stray_there shape list p v ys y =
    ⊎_elim
    (λ e. no_source (empty_list ys e))
    (λ o. ⊎_elim
    (λ e. let m = found_member (λ u. not (has (children_of shape v) u)) ys e in no_child m.0 m.1 (sym (not_not (has (children_of shape v) m.0)) ∙ ap not m.2))
    (λ o'. ⊎_elim
    (λ e. twice (doubled_twice ys e))
    (λ e. let m = found_member (is_taken (take p list) v) ys e in let t = taken_before list p v m.0 m.2 in again t.0 m.0 t.1 t.2 t.3 t.4 m.1)
    (or_cases _ _ o'))
    (or_cases _ _ o))
    (or_cases _ _ y)
  where
    not_not : (b : Bool) → not (not b) ≡ b
    not_not true = refl
    not_not false = refl

open_there : (list : List Expression) (p v : ℕ) (ys : List ℕ) (q : ℕ) (e : Expression) → At list p (Comp v ys) → q < p → At list q e → leaves_open (take p list) v e ≡ true → BreaksS4 list p
open_there list p v ys q (Inst x) at l a t = absurd (false≢true t)
open_there list p v ys q (Comp x zs) at l a t =
    let both = and_parts (eqb x v) (list_any (λ u. not (is_installed (take p list) u)) zs) t in
    let m = found_member (λ u. not (is_installed (take p list) u)) zs both.1 in
    record {
      target = v;
      sources = ys;
      comp = at;
      earlier = q;
      before = l;
      from = zs;
      first = subst (λ z. At list q (Comp z zs)) (eqb-true x v both.0) a;
      source = m.0;
      among = m.1;
      still_old = λ r i. ⊎_elim (λ k. absurd (both_ways (not (is_installed (take p list) m.0)) (ap not (is_new_at list p r m.0 i k)) m.2)) (λ k. k) (cases_lt r p);
    }

here_broken : (rule : Rule) (shape : List (List ℕ)) (list : List Expression) (p : ℕ) (e : Expression) → At list p e → is_broken rule shape (take p list) e ≡ true → Breaks rule shape list p
here_broken S1 shape list p (Comp v ys) at y = stray_comp v ys at (stray_there shape list p v ys y)
here_broken S1 shape list p (Inst v) at y = absurd (false≢true y)
here_broken S2 shape list p (Comp v ys) at y = absurd (false≢true y)
here_broken S2 shape list p (Inst v) at y =
    ⊎_elim
    (λ e. no_view v at (leb-true (length shape) v e))
    (λ e. let i = installed_before list p v e in second_inst v i.0 at i.1 i.2)
    (or_cases _ _ y)
here_broken S3 shape list p (Comp v ys) at y =
    let m = found_member (is_installed (take p list)) ys y in
    let i = installed_before list p m.0 m.2 in
    record { target = v; sources = ys; comp = at; source = m.0; among = m.1; earlier = i.0; before = i.1; inst = i.2 }
here_broken S3 shape list p (Inst v) at y = absurd (false≢true y)
here_broken S4 shape list p (Comp v ys) at y =
    let r = found_before (leaves_open (take p list) v) list p y in
    open_there list p v ys r.0 r.1 at r.3 r.2 r.4
here_broken S4 shape list p (Inst v) at y = absurd (false≢true y)
here_broken S5 shape list p (Comp v ys) at y =
    let i = installed_before list p v y in
    record { target = v; sources = ys; comp = at; earlier = i.0; before = i.1; inst = i.2 }
here_broken S5 shape list p (Inst v) at y = absurd (false≢true y)
here_broken S6 shape list p (Comp v ys) at y =
    let r = found_before (reads v) list p y in
    let c = reader_of v r.1 r.4 in
    record { target = v; sources = ys; comp = at; earlier = r.0; before = r.3; reader = c.0; from = c.1; reads = r.2 ∙ ap Some c.2; among = c.3 }
here_broken S6 shape list p (Inst v) at y = absurd (false≢true y)

inst_at : (list : List Expression) (v : ℕ) → is_installed list v ≡ true → (q : ℕ) × At list q (Inst v)
inst_at [] v y = absurd (false≢true y)
inst_at (x ∷ xs) v y =
    ⊎_elim
    (λ e. (0, ap Some (is_that_inst v x e)))
    (λ e. let r = inst_at xs v e in (suc r.0, r.1))
    (or_cases _ _ y)

-- a view that lacks a Comp or an Inst
lacking_comp : (all : List Expression) (shape : List (List ℕ)) (v : ℕ) → lacks_comp all v shape ≡ true → (w u : ℕ) × (has (children_of shape w) u ≡ true) × (is_taken all (v + w) u ≡ false)
unfolding lacks_comp children_of
lacking_comp all [] v y = absurd (false≢true y)
lacking_comp all (x ∷ xs) v y =
    ⊎_elim
    (λ e.
    let m = found_member (λ u. not (is_taken all v u)) x e in
    let z : v ≡ v + 0 = omega arith in
    (0, m.0, m.1, subst (λ n. is_taken all n m.0 ≡ false) z (false_from_ne_true _ (λ t. both_ways (not (is_taken all v m.0)) (ap not t) m.2))))
    (λ e.
    let r = lacking_comp all xs (v + 1) e in
    let z : v + 1 + r.0 ≡ v + suc r.0 = omega arith in
    (suc r.0, r.1, r.2, subst (λ n. is_taken all n r.1 ≡ false) z r.3))
    (or_cases _ _ y)

lacking_inst : (all : List Expression) (shape : List (List ℕ)) (v : ℕ) → lacks_inst all v shape ≡ true → (w : ℕ) × (w < length shape) × (is_installed all (v + w) ≡ false)
unfolding lacks_inst
lacking_inst all [] v y = absurd (false≢true y)
lacking_inst all (x ∷ xs) v y =
    ⊎_elim
    (λ e.
    let z : v ≡ v + 0 = omega arith in
    (0, omega arith, subst (λ n. is_installed all n ≡ false) z (false_from_ne_true _ (λ t. both_ways (not (is_installed all v)) (ap not t) e))))
    (λ e.
    let r = lacking_inst all xs (v + 1) e in
    let z : v + 1 + r.0 ≡ v + suc r.0 = omega arith in
    (suc r.0, omega (arith, r.1), subst (λ n. is_installed all n ≡ false) z r.2))
    (or_cases _ _ y)

end_broken : (rule : Rule) (shape : List (List ℕ)) (list : List Expression) (p : ℕ) → p ≡ length list → lacks rule shape list ≡ true → Breaks rule shape list p
end_broken S1 shape list p e y =
    let r = lacking_comp list shape 0 y in
    let z : 0 + r.0 ≡ r.0 = omega arith in
    missing_comp r.0 r.1 r.2
    (λ q ys at. false_from_ne_true _ (λ m. both_ways (is_taken list r.0 r.1) (subst (λ n. is_taken list n r.1 ≡ false) z r.3) (any_at (takes r.0 r.1) list q (Comp r.0 ys) at (and_from (eqb r.0 r.0) (has ys r.1) (eq-eqb r.0 r.0 refl) m))))
    e
end_broken S2 shape list p e y =
    let r = lacking_inst list shape 0 y in
    let z : 0 + r.0 ≡ r.0 = omega arith in
    missing_inst r.0 r.1
    (λ q at. both_ways (is_installed list r.0) (subst (λ n. is_installed list n ≡ false) z r.2) (any_at (is_inst r.0) list q (Inst r.0) at (eq-eqb r.0 r.0 refl)))
    e
end_broken S3 shape list p e y = absurd (false≢true y)
end_broken S4 shape list p e y = absurd (false≢true y)
end_broken S5 shape list p e y = absurd (false≢true y)
end_broken S6 shape list p e y = absurd (false≢true y)

-- where the test fails, the rule is broken
pub fails_breaks : (rule : Rule) (shape : List (List ℕ)) (list : List Expression) (p : ℕ) → Fails rule shape list p → Breaks rule shape list p
fails_breaks rule shape list p f =
    ⊎_elim
    (λ h. here_broken rule shape list p h.0 h.1 h.2)
    (λ h. end_broken rule shape list p h.0 h.1)
    f

stray_here : (shape : List (List ℕ)) (list : List Expression) (p v : ℕ) (ys : List ℕ) → IsStray shape list p v ys → is_stray (take p list) (children_of shape v) v ys ≡ true
unfolding has
stray_here shape list p v [] (base_view e) = refl
stray_here shape list p v (y ∷ ys) (base_view e) =
    or_right (eqb (length (y ∷ ys)) 0) _ (or_left _ _ (any_member (λ u. not (has (children_of shape v) u)) (y ∷ ys) y (has-head y ys) (ap (λ own. not (has own y)) e)))
stray_here shape list p v ys (no_source e) = or_left _ _ (ap (λ zs. eqb (length zs) 0) e)
stray_here shape list p v ys (no_child u m n) = or_right (eqb (length ys) 0) _ (or_left _ _ (any_member (λ w. not (has (children_of shape v) w)) ys u m (ap not n)))
stray_here shape list p v ys (twice d) =
    or_right (eqb (length ys) 0) _ (or_right (list_any (λ u. not (has (children_of shape v) u)) ys) _ (or_left _ _ (⊎_elim (λ y. y) (λ n. absurd (d (not_doubled ys n))) (cases_Bool (is_doubled ys)))))
stray_here shape list p v ys (again q u zs l at m n) =
    or_right (eqb (length ys) 0) _ (or_right (list_any (λ w. not (has (children_of shape v) w)) ys) _ (or_right (is_doubled ys) _
    (any_member (is_taken (take p list) v) ys u n (any_before (takes v u) list p q (Comp v zs) at l (and_from (eqb v v) (has zs u) (eq-eqb v v refl) m)))))

lacks_comp_at : (all : List Expression) (shape : List (List ℕ)) (v w u : ℕ) → has (children_of shape w) u ≡ true → is_taken all (v + w) u ≡ false → lacks_comp all v shape ≡ true
unfolding lacks_comp children_of has
lacks_comp_at all [] v w u m n = absurd (false≢true m)
lacks_comp_at all (x ∷ xs) v zero u m n =
    let z : v + 0 ≡ v = omega arith in
    or_left _ _ (any_member (λ y. not (is_taken all v y)) x u m (ap not (subst (λ k. is_taken all k u ≡ false) z n)))
lacks_comp_at all (x ∷ xs) v (suc w) u m n =
    let z : v + suc w ≡ v + 1 + w = omega arith in
    or_right (list_any (λ y. not (is_taken all v y)) x) _ (lacks_comp_at all xs (v + 1) w u m (subst (λ k. is_taken all k u ≡ false) z n))

lacks_inst_at : (all : List Expression) (shape : List (List ℕ)) (v w : ℕ) → w < length shape → is_installed all (v + w) ≡ false → lacks_inst all v shape ≡ true
unfolding lacks_inst
lacks_inst_at all [] v w l n = absurd (omega arith)
lacks_inst_at all (x ∷ xs) v zero l n =
    let z : v + 0 ≡ v = omega arith in
    or_left _ _ (ap not (subst (λ k. is_installed all k ≡ false) z n))
lacks_inst_at all (x ∷ xs) v (suc w) l n =
    let z : v + suc w ≡ v + 1 + w = omega arith in
    or_right (not (is_installed all v)) _ (lacks_inst_at all xs (v + 1) w (omega arith) (subst (λ k. is_installed all k ≡ false) z n))

-- where the rule is broken, the test fails
pub breaks_fails : (rule : Rule) (shape : List (List ℕ)) (list : List Expression) (p : ℕ) → Breaks rule shape list p → Fails rule shape list p
breaks_fails S1 shape list p (stray_comp v ys at s) = inl (Comp v ys, at, stray_here shape list p v ys s)
breaks_fails S1 shape list p (missing_comp v u m none e) =
    let z : v ≡ 0 + v = omega arith in
    inr (e, lacks_comp_at list shape 0 v u m (subst (λ n. is_taken list n u ≡ false) z (false_from_ne_true _ (λ t. let r = taken_at list v u t in both_ways _ (none r.0 r.1 r.2) r.3))))
breaks_fails S2 shape list p (no_view v at l) = inl (Inst v, at, or_left _ _ (le-leb (length shape) v l))
breaks_fails S2 shape list p (second_inst v q at l a) = inl (Inst v, at, or_right _ _ (is_new_at list p q v a l))
breaks_fails S2 shape list p (missing_inst v l none e) =
    let z : v ≡ 0 + v = omega arith in
    inr (e, lacks_inst_at list shape 0 v l (subst (λ n. is_installed list n ≡ false) z (false_from_ne_true _ (λ t. let r = inst_at list v t in none r.0 r.1))))
breaks_fails S3 shape list p r =
    inl (Comp r.target r.sources, r.comp, any_member (is_installed (take p list)) r.sources r.source r.among (is_new_at list p r.earlier r.source r.inst r.before))
breaks_fails S4 shape list p r =
    let old : is_installed (take p list) r.source ≡ false = false_from_ne_true _ (λ y. let i = installed_before list p r.source y in let l = r.still_old i.0 i.2 in let k : i.0 < p = i.1 in omega arith) in
    inl (
      Comp r.target r.sources,
      r.comp,
      any_before (leaves_open (take p list) r.target) list p r.earlier (Comp r.target r.from) r.first r.before
          (and_from (eqb r.target r.target) _ (eq-eqb r.target r.target refl) (any_member (λ u. not (is_installed (take p list) u)) r.from r.source r.among (ap not old))),
    )
breaks_fails S5 shape list p r = inl (Comp r.target r.sources, r.comp, is_new_at list p r.earlier r.target r.inst r.before)
breaks_fails S6 shape list p r = inl (Comp r.target r.sources, r.comp, any_before (reads r.target) list p r.earlier (Comp r.reader r.from) r.reads r.before r.among)

-- the first place at which a test fails
step_some : (b : Bool) (m n : ℕ) (o : Option ℕ) → cond b (Some m) o ≡ Some n → ((b ≡ true) × (m ≡ n)) ⊎ ((b ≡ false) × (o ≡ Some n))
step_some true m n o e = inl (refl, same_Some m n e)
step_some false m n o e = inr (refl, e)

append_none : (xs : List Expression) → xs ++ [] ≡ xs
append_none [] = refl
append_none (x ∷ xs) = ap (λ z. x ∷ z) (append_none xs)

pub place_fails : (rule : Rule) (shape : List (List ℕ)) (all before rest : List Expression) (n : ℕ) → all ≡ before ++ rest → place_from rule shape before rest ≡ Some n → (p : ℕ) × (n ≡ p + 1) × (length before ≤ p) × Fails rule shape all p × ((q : ℕ) (e : Expression) → length before ≤ q → q < p → At all q e → is_broken rule shape (take q all) e ≡ false)
unfolding place_from
place_fails rule shape all before [] n same found =
    let whole : all ≡ before = same ∙ append_none before in
    ⊎_elim
    (λ t. (length before, sym t.1, omega arith, inr (sym (ap length whole), ap (lacks rule shape) whole ∙ t.0), λ q e l k at. absurd (omega arith)))
    (λ t. absurd (none-some n t.1))
    (step_some (lacks rule shape before) (length before + 1) n None found)
place_fails rule shape all before (x ∷ rest) n same found =
    let at : At all (length before) x = ap (λ z. slice_get z (length before)) same ∙ get_front before x rest in
    let front : take (length before) all ≡ before = ap (take (length before)) same ∙ take_front before x rest in
    ⊎_elim
    (λ t. (length before, sym t.1, omega arith, inl (x, at, ap (λ z. is_broken rule shape z x) front ∙ t.0), λ q e l k a. absurd (omega arith)))
    (λ t.
    let long = length_one_more before x in
    let r = place_fails rule shape all (before ++ x ∷ []) rest n (same ∙ sym (append_assoc before (x ∷ []) rest)) t.1 in
    let low : length (before ++ x ∷ []) ≤ r.0 = r.2 in (
      r.0,
      r.1,
      omega arith,
      r.3,
      λ q e l k a. ⊎_elim
          (λ s.
          let is : Some x ≡ Some e = sym at ∙ ap (slice_get all) s ∙ a in
          ap (λ z. is_broken rule shape (take z all) e) (sym s) ∙ ap (λ z. is_broken rule shape z e) front ∙ ap (is_broken rule shape before) (sym (same_Some x e is)) ∙ t.0)
          (λ o. ⊎_elim (λ m. let j : length (before ++ x ∷ []) ≤ q = omega arith in r.4 q e j k a) (λ m. absurd (omega arith)) o)
          (cases_order (length before) q),
    ))
    (step_some (is_broken rule shape before x) (length before + 1) n (place_from rule shape (before ++ x ∷ []) rest) found)
