-- The children of a view are views.
use Rattle.std.proofs.Common.{◌≡◌, ℕ, zero, suc, ◌<◌, List, [], ◌∷◌, true, subst, length, get_or, arith}
use Rattle.std.specs.List.{All}
use Rattle.wh_dag.specs.Shape.{has, IsShape, children_of}
use Rattle.wh_dag.proofs.Members.{has-head, has-tail}

has_at : (own : List ℕ) (k d : ℕ) → k < length own → has own (get_or own k d) ≡ true
has_at [] k d l = absurd (omega arith)
has_at (y ∷ ys) zero d l = has-head y ys
has_at (y ∷ ys) (suc k) d l = has-tail y (get_or ys k d) ys (has_at ys k d (omega arith))

-- each is below any number that is above the view itself
pub children_are_views : (shape : List (List ℕ)) (v n : ℕ) (own : List ℕ) → IsShape shape → v < n → own ≡ children_of shape v → All (λ w. w < n) own
children_are_views shape v n own sh l e k d m =
    let h : has own (get_or own k d) ≡ true = has_at own k d m in
    let s : get_or own k d < v = sh.lower v (get_or own k d) (subst (λ z. has z (get_or own k d) ≡ true) e h) in
    omega arith
