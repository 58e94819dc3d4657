-- A view that is over both of two, and the test for it.
use Rattle.std.proofs.Common.{◌≡◌, ℕ, zero, suc, List, [], ◌∷◌, true, ⊎_elim}
use Rattle.std.proofs.lemmas.Bool.{false≢true, or_left, or_right, or_cases, and_parts, and_from}
use Rattle.wh_dag.specs.Shape.{has, children_of}
use Rattle.wh_dag.specs.Siblings.{have_parent}

pub parent_of_both : (shape : List (List ℕ)) (u w : ℕ) → have_parent shape u w ≡ true → (v : ℕ) × (has (children_of shape v) u ≡ true) × (has (children_of shape v) w ≡ true)
unfolding have_parent children_of
parent_of_both [] u w h = absurd (false≢true h)
parent_of_both (own ∷ rest) u w h =
    ⊎_elim
    (λ e. let b = and_parts (has own u) (has own w) e in (0, b.0, b.1))
    (λ e. let r = parent_of_both rest u w e in (suc r.0, r.1, r.2))
    (or_cases _ _ h)

pub both_have_parent : (shape : List (List ℕ)) (v u w : ℕ) → has (children_of shape v) u ≡ true → has (children_of shape v) w ≡ true → have_parent shape u w ≡ true
unfolding have_parent children_of has
both_have_parent [] v u w hu hw = absurd (false≢true hu)
both_have_parent (own ∷ rest) zero u w hu hw = or_left _ _ (and_from (has own u) (has own w) hu hw)
both_have_parent (own ∷ rest) (suc v) u w hu hw = or_right _ _ (both_have_parent rest v u w hu hw)
