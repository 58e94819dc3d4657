-- The Comps of a one-way strategy.
use Rattle.std.proofs.Common.{◌≡◌, ℕ, ◌<◌, List, [], ◌∷◌, true, refl, ap, subst, length, Option, Some, ⊎_elim, arith}
use Rattle.std.proofs.lemmas.Bool.{eqb-true, eq-eqb, false≢true, or_left, or_cases}
use Rattle.wh_dag.specs.Shape.{has, children_of}
use Rattle.wh_strategy.specs.declared.expression.Expression.{Expression}
use Rattle.wh_strategy.specs.declared.expression.Expression.TheVariants.{Comp, Inst}
use Rattle.wh_strategy.specs.Expression.{At}
use Rattle.wh_strategy.specs.Rules.{IsCorrect, IsOneWay}

pub comps_same : (v : ℕ) (ys zs : List ℕ) → ◌≡◌ {A = Option Expression} (Some (Comp v ys)) (Some (Comp v zs)) → ys ≡ zs
comps_same v ys zs e = cc

pub single : (ys : List ℕ) (u : ℕ) → length ys ≡ 1 → has ys u ≡ true → ys ≡ u ∷ []
unfolding has
single [] u l h = absurd (false≢true h)
single (y ∷ []) u l h = ⊎_elim (λ e. ap (λ z. z ∷ []) (eqb-true y u e)) (λ e. absurd (false≢true e)) (or_cases _ _ h)
single (y ∷ x ∷ ys) u l h = absurd (omega arith)

pub single_has : (w u : ℕ) → has (w ∷ []) u ≡ true → w ≡ u
unfolding has
single_has w u h = ⊎_elim (λ e. eqb-true w u e) (λ e. absurd (false≢true e)) (or_cases _ _ h)

pub single_own : (w : ℕ) → has (w ∷ []) w ≡ true
unfolding has
single_own w = or_left _ _ (eq-eqb w w refl)

-- the Comp of v from u
pub comp_at : (shape : List (List ℕ)) (list : List Expression) → IsCorrect shape list → IsOneWay list → (v u : ℕ) → has (children_of shape v) u ≡ true → (p : ℕ) × At list p (Comp v (u ∷ []))
comp_at shape list co ow v u m =
    let a = co.each v u m in
    let s = single a.1 u (ow a.0 v a.1 a.2) a.3 in
    (a.0, subst (λ z. At list a.0 (Comp v z)) s a.2)

-- the Comp of the view that is installed first stands first, and the other way round
pub comps_in_order : (shape : List (List ℕ)) (list : List Expression) → IsCorrect shape list → (v u w p q r t : ℕ) → At list p (Comp v (u ∷ [])) → At list q (Comp v (w ∷ [])) → At list r (Inst u) → At list t (Inst w) → p < q → (r < q) × (r < t)
comps_in_order shape list co v u w p q r t a b c d l =
    let i = co.between p q v u (u ∷ []) (w ∷ []) a b l (single_own u) in
    let e = co.one_inst i.0 r u i.1 c in
    let k = co.before_inst q t v w (w ∷ []) b (single_own w) d in
    (omega arith, omega arith)
