-- Members of a list of views: the first, those of the rest, and that distinct ones are no more than the list has.
use Rattle.std.proofs.Common.{◌≡◌, ℕ, suc, ◌≤◌, List, [], ◌∷◌, true, false, cond, eqb, refl, sym, ap, ◌∙◌, subst, length, ◌||◌, ⊎_elim, arith}
use Rattle.std.proofs.lemmas.Bool.{cases_Bool, eqb-true, eq-eqb, ne_eqb, false≢true, or_left, or_right, or_cases, both_ways, cond-true, cond-false}
use Rattle.wh_dag.specs.Shape.{has, Distinct}

pub has-head : (x : ℕ) (xs : List ℕ) → has (x ∷ xs) x ≡ true
unfolding has
has-head x xs = or_left _ _ (eq-eqb x x refl)

pub has-tail : (x y : ℕ) (xs : List ℕ) → has xs y ≡ true → has (x ∷ xs) y ≡ true
unfolding has
has-tail x y xs h = or_right _ _ h

-- the list without one u
without : ℕ → List ℕ → List ℕ
without u [] = []
without u (x ∷ xs) = cond (eqb x u) xs (x ∷ without u xs)

length-without : (u : ℕ) (xs : List ℕ) → has xs u ≡ true → length xs ≡ suc (length (without u xs))
unfolding without has
length-without u [] m = absurd (false≢true m)
length-without u (x ∷ xs) m =
    ⊎_elim
    (λ e. ap (λ z. suc (length z)) (sym (cond-true (eqb x u) xs (x ∷ without u xs) e)))
    (λ e.
    let inner : has xs u ≡ true = sym (ap (λ b. b || has xs u) e) ∙ m in
    ap suc (length-without u xs inner) ∙ ap (λ z. suc (length z)) (sym (cond-false (eqb x u) xs (x ∷ without u xs) e)))
    (cases_Bool (eqb x u))

has-without : (u w : ℕ) (xs : List ℕ) → has xs w ≡ true → (w ≡ u → ⊥) → has (without u xs) w ≡ true
unfolding without has
has-without u w [] m d = absurd (false≢true m)
has-without u w (x ∷ xs) m d =
    ⊎_elim
    (λ e.
    let there : has xs w ≡ true = sym (ap (λ b. b || has xs w) (ne_eqb x w (λ s. d (sym s ∙ eqb-true x u e)))) ∙ m in
    ap (λ z. has z w) (cond-true (eqb x u) xs (x ∷ without u xs) e) ∙ there)
    (λ e.
    ap (λ z. has z w) (cond-false (eqb x u) xs (x ∷ without u xs) e)
    ∙ ⊎_elim (λ t. or_left _ _ t) (λ t. or_right (eqb x w) _ (has-without u w xs t d)) (or_cases _ _ m))
    (cases_Bool (eqb x u))

pub length-le_members : (ys xs : List ℕ) → Distinct ys → ((u : ℕ) → has ys u ≡ true → has xs u ≡ true) → length ys ≤ length xs
unfolding Distinct
length-le_members [] xs d within = omega arith
length-le_members (y ∷ ys) xs d within =
    let here = length-without y xs (within y (has-head y ys)) in
    let rest = length-le_members ys (without y xs) d.1
    (λ u m. has-without y u xs (within u (has-tail y u ys m)) (λ e. both_ways (has ys u) (subst (λ z. has ys z ≡ false) (sym e) d.0) m)) in
    omega arith
