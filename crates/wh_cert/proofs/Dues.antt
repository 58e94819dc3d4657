-- What one Comp charges a child is at least what the child owes for each member of the Comp.
use Rattle.std.proofs.Common.{◌≡◌, ℕ, ◌+◌, ◌≤◌, List, [], ◌∷◌, Bool, true, false, cond, eqb, sym, ap, ◌∙◌, subst, ⊎_elim, arith}
use Rattle.std.specs.List.{sum_by}
use Rattle.std.proofs.lemmas.List.Sums.{sum_by-cons}
use Rattle.std.proofs.lemmas.Bool.{cases_Bool, eqb-true, false≢true, or_parts}
use Rattle.wh_dag.specs.Shape.{has, Distinct}
use Rattle.wh_strategy.specs.Sums.{parts}
use Rattle.wh_dag.proofs.PartSums.{charged, charged-hit, charged-miss, has-miss, sum_by-parts}

-- what u is to be charged for w: its change for itself, for another of its Comp change and state, else its state
abbrev pub due : Bool → ℕ → ℕ → ℕ → ℕ → ℕ
due inside c s u w = cond (eqb w u) c (cond inside (c + s) s)

due-self : (b : Bool) (c s u w : ℕ) → eqb w u ≡ true → due b c s u w ≡ c
due-self b c s u w e = ap (λ t. cond t c (cond b (c + s) s)) e

due-other : (b : Bool) (c s u w : ℕ) → eqb w u ≡ false → due b c s u w ≡ cond b (c + s) s
due-other b c s u w e = ap (λ t. cond t c (cond b (c + s) s)) e

-- u is outside of the Comp
pub due_outside : (c s u : ℕ) (ys : List ℕ) → has ys u ≡ false → sum_by (due false c s u) ys ≤ charged c s u ys
unfolding has parts
due_outside c s u [] h = omega arith
due_outside c s u (y ∷ ys) h =
    let both = or_parts _ _ h in
    let a = charged-miss c s u y ys both.0 in
    let b = sum_by-cons (due false c s u) y ys in
    let d = due-other false c s u y both.0 in
    let r = due_outside c s u ys both.1 in
    omega arith

-- the members of the Comp beside u
due_beside : (c s u : ℕ) (ys : List ℕ) → has ys u ≡ false → sum_by (due true c s u) ys ≤ charged c s u ys + sum_by (λ p. c) (parts ys)
unfolding has parts
due_beside c s u [] h = omega arith
due_beside c s u (y ∷ ys) h =
    let both = or_parts _ _ h in
    let a = charged-miss c s u y ys both.0 in
    let b = sum_by-cons (due true c s u) y ys in
    let d = due-other true c s u y both.0 in
    let r = due_beside c s u ys both.1 in
    let m = sum_by-parts (λ p. c) y ys in
    omega arith

charged_once : (c s u : ℕ) (ys : List ℕ) → has ys u ≡ true → c ≤ charged c s u ys
unfolding has
charged_once c s u [] h = absurd (false≢true h)
charged_once c s u (y ∷ ys) h =
    ⊎_elim
    (λ e. let a = charged-hit c s u y ys e in omega arith)
    (λ e.
    let a = charged-miss c s u y ys e in
    let r = charged_once c s u ys (sym (has-miss y u ys e) ∙ h) in
    omega arith)
    (cases_Bool (eqb y u))

pub due_inside : (c s u : ℕ) (ys : List ℕ) → Distinct ys → has ys u ≡ true → sum_by (due true c s u) ys ≤ charged c s u ys
unfolding has Distinct
due_inside c s u [] dis h = absurd (false≢true h)
due_inside c s u (y ∷ ys) dis h =
    let b = sum_by-cons (due true c s u) y ys in
    ⊎_elim
    (λ e.
    let a = charged-hit c s u y ys e in
    let d = due-self true c s u y e in
    let r = due_beside c s u ys (subst (λ x. has ys x ≡ false) (eqb-true y u e) dis.0) in
    omega arith)
    (λ e.
    let a = charged-miss c s u y ys e in
    let d = due-other true c s u y e in
    let inner : has ys u ≡ true = sym (has-miss y u ys e) ∙ h in
    let r = due_inside c s u ys dis.1 inner in
    let o = charged_once c s u ys inner in
    omega arith)
    (cases_Bool (eqb y u))

-- what the terms of a Comp charge u is at least what u is to be charged for each member
pub due_to : (c s u : ℕ) (ys : List ℕ) → Distinct ys → sum_by (due (has ys u) c s u) ys ≤ charged c s u ys
due_to c s u ys dis =
    ⊎_elim
    (λ e. subst (λ b. sum_by (due b c s u) ys ≤ charged c s u ys) (sym e) (due_inside c s u ys dis e))
    (λ e. subst (λ b. sum_by (due b c s u) ys ≤ charged c s u ys) (sym e) (due_outside c s u ys e))
    (cases_Bool (has ys u))
