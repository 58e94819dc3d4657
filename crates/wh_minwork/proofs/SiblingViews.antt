-- The sibling pairs of a shape are of its views.
use Rattle.std.proofs.Common.{◌≡◌, ℕ, zero, suc, ◌<◌, List, [], ◌∷◌, Bool, true, false, cond, refl, sym, subst, length, get_or, arith}
use Rattle.std.specs.Prelude.{filter}
use Rattle.std.proofs.lemmas.Bool.{and_parts}
use Rattle.wh_dag.specs.Shape.{IsShape}
use Rattle.wh_dag.specs.Siblings.{is_sibling_pair, sibling_pairs_of, triples_below}
use Rattle.wh_dag.specs.declared.siblings.SiblingPair.{SiblingPair}
use Rattle.wh_strategy.proofs.Found.{has_within}

filter_step : {X : Type 0} (p : X → Bool) (x : X) (rest : List X) (b : Bool) → p x ≡ b → ((k : ℕ) (d : X) → k < length rest → p (get_or rest k d) ≡ true) → (k : ℕ) (d : X) → k < length (cond b (x ∷ rest) rest) → p (get_or (cond b (x ∷ rest) rest) k d) ≡ true
filter_step p x rest true e h zero d l = e
filter_step p x rest true e h (suc k) d l = h k d (omega arith)
filter_step p x rest false e h k d l = h k d l

-- what a filter leaves passes its test
filter_at : {X : Type 0} (p : X → Bool) (xs : List X) (k : ℕ) (d : X) → k < length (filter p xs) → p (get_or (filter p xs) k d) ≡ true
filter_at p [] k d l = absurd (omega arith)
filter_at p (x ∷ xs) k d l = filter_step p x (filter p xs) (p x) refl (filter_at p xs) k d l

pair_at : (shape : List (List ℕ)) (k : ℕ) (d : SiblingPair) → k < length (sibling_pairs_of shape) → is_sibling_pair shape (get_or (sibling_pairs_of shape) k d) ≡ true
unfolding sibling_pairs_of
pair_at shape k d l = filter_at (is_sibling_pair shape) (triples_below (length shape)) k d l

two_within : (shape : List (List ℕ)) (pair : SiblingPair) → IsShape shape → is_sibling_pair shape pair ≡ true → (pair.lower < length shape) × (pair.higher < length shape)
two_within shape pair sh h =
    let p = and_parts _ _ h in
    let q = and_parts _ _ p.1 in
    let v : pair.parent < length shape = has_within shape pair.parent pair.lower q.0 in
    let a : pair.lower < pair.parent = sh.lower pair.parent pair.lower q.0 in
    let b : pair.higher < pair.parent = sh.lower pair.parent pair.higher q.1 in
    (omega arith, omega arith)

pub pair_within : (shape : List (List ℕ)) (pairs : List SiblingPair) (k : ℕ) (d : SiblingPair) → IsShape shape → pairs ≡ sibling_pairs_of shape → k < length pairs → ((get_or pairs k d).lower < length shape) × ((get_or pairs k d).higher < length shape)
pair_within shape pairs k d sh e l =
    two_within shape (get_or pairs k d) sh
    (subst (λ ps. is_sibling_pair shape (get_or ps k d) ≡ true) (sym e) (pair_at shape k d (subst (λ ps. k < length ps) e l)))
