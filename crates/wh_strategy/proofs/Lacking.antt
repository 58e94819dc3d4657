-- What is missing, view by view.
use Rattle.std.proofs.Common.{◌≡◌, ℕ, zero, suc, ◌+◌, ◌<◌, ◌≤◌, List, [], ◌∷◌, not, refl, ap, ◌∙◌, length, drop, ◌||◌, arith}
use Rattle.std.specs.List.{list_any}
use Rattle.std.proofs.lemmas.List.{get_or_past}
use Rattle.wh_dag.specs.Shape.{children_of}
use Rattle.wh_strategy.specs.declared.expression.Expression.{Expression}
use Rattle.wh_strategy.specs.Tests.{is_taken, is_installed, lacks_comp, lacks_inst}

-- a number that is no view's has no children
pub children_past : (shape : List (List ℕ)) (v : ℕ) → length shape ≤ v → children_of shape v ≡ []
unfolding children_of
children_past shape v l = get_or_past shape v [] l

drop_at : (shape : List (List ℕ)) (v : ℕ) → v < length shape → drop v shape ≡ children_of shape v ∷ drop (suc v) shape
unfolding children_of
drop_at [] v l = absurd (omega arith)
drop_at (x ∷ xs) zero l = refl
drop_at (x ∷ xs) (suc v) l = drop_at xs v (omega arith)

pub lacks_comp_drop : (all : List Expression) (shape : List (List ℕ)) (v : ℕ) → v < length shape → lacks_comp all v (drop v shape) ≡ (list_any (λ u. not (is_taken all v u)) (children_of shape v) || lacks_comp all (v + 1) (drop (v + 1) shape))
unfolding lacks_comp
lacks_comp_drop all shape v l =
    let next : suc v ≡ v + 1 = omega arith in
    ap (lacks_comp all v) (drop_at shape v l) ∙ ap (λ n. list_any (λ u. not (is_taken all v u)) (children_of shape v) || lacks_comp all (v + 1) (drop n shape)) next

pub lacks_inst_drop : (all : List Expression) (shape : List (List ℕ)) (v : ℕ) → v < length shape → lacks_inst all v (drop v shape) ≡ (not (is_installed all v) || lacks_inst all (v + 1) (drop (v + 1) shape))
unfolding lacks_inst
lacks_inst_drop all shape v l =
    let next : suc v ≡ v + 1 = omega arith in
    ap (lacks_inst all v) (drop_at shape v l) ∙ ap (λ n. not (is_installed all v) || lacks_inst all (v + 1) (drop n shape)) next
