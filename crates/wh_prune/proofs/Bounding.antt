-- The bound does not depend on how decisions are listed, nor on couples that stand in the desired order.
use Rattle.std.proofs.Common.{◌≡◌, ℕ, zero, suc, ◌+◌, ◌*◌, List, [], ◌∷◌, true, false, not, ◌&&◌, ◌||◌, cond, refl, sym, ap, ◌∙◌, length, reverse, ⊎_elim, inl, inr, arith}
use Rattle.std.specs.List.{sum_by}
use Rattle.std.proofs.lemmas.Bool.{cases_Bool, cond-true, cond-false, and_parts, or_left, or_right, or_cases}
use Rattle.wh_dag.specs.Shape.{children_of}
use Rattle.wh_dag.proofs.Sums.{sum_by-same}
use Rattle.wh_strategy.specs.Prices.{Prices}
use Rattle.wh_strategy.specs.declared.sizes.Size.{Size}
use Rattle.wh_strategy.specs.Sums.{sum_below}
use Rattle.wh_cert.specs.Bound.{cost_by, decided_bound_of, decided_value, in_order, pair_min, rows_by, sum_pairs}
use Rattle.wh_cert.specs.Graph.{decides, DecidesAll, DecidesAsDesired}
use Rattle.wh_cert.proofs.DesiredOrder.{desired_is_least, pair_min-swap}
use Rattle.wh_minwork.specs.Draft.{completed, DecidesCouples}
use Rattle.wh_minwork.specs.Inner.Draft.{DecidesOneWay}
use Rattle.wh_minwork.proofs.Drafting.{completed_decides}
use Rattle.wh_prune.proofs.Deciding.{decides-reverse}

sum_below-same : (f g : ℕ → ℕ) (n : ℕ) → ((k : ℕ) → f k ≡ g k) → sum_below f n ≡ sum_below g n
unfolding sum_below
sum_below-same f g zero h = refl
sum_below-same f g (suc n) h = let r = sum_below-same f g n h in let k = h n in omega arith

sum_pairs-same : (f g : ℕ → ℕ → ℕ) (xs : List ℕ) → ((u w : ℕ) → f u w ≡ g u w) → sum_pairs f xs ≡ sum_pairs g xs
unfolding sum_pairs
sum_pairs-same f g [] h = refl
sum_pairs-same f g (x ∷ xs) h =
    let a = sum_by-same (f x) (g x) xs (h x) in
    let r = sum_pairs-same f g xs h in
    omega arith

-- the cost where each pair costs the same
cost-same : (f g : ℕ → ℕ → ℕ) (shape : List (List ℕ)) (sizes : ℕ → Size) (prices : Prices) → ((u w : ℕ) → f u w ≡ g u w) → cost_by f shape sizes prices ≡ cost_by g shape sizes prices
cost-same f g shape sizes prices h =
    ap (λ n. prices.comp * n + prices.inst * sum_below (λ v. (sizes v).change) (length shape))
    (sum_below-same (λ v. rows_by f sizes (children_of shape v)) (λ v. rows_by g sizes (children_of shape v)) (length shape)
    (λ v. ap (λ n. sum_by (λ u. (sizes u).change) (children_of shape v) + n) (sum_pairs-same f g (children_of shape v) h)))

-- the value of a pair where the same is decided
value-same : (sizes : ℕ → Size) (ds es : List (ℕ × ℕ)) → ((u w : ℕ) → decides ds u w ≡ decides es u w) → (u w : ℕ) → decided_value sizes ds u w ≡ decided_value sizes es u w
value-same sizes ds es h u w =
    ap (λ b. cond b (in_order sizes u w) (cond (decides ds w u) (in_order sizes w u) (pair_min sizes u w))) (h u w)
    ∙ ap (λ b. cond (decides es u w) (in_order sizes u w) (cond b (in_order sizes w u) (pair_min sizes u w))) (h w u)

pub bound-reverse : (shape : List (List ℕ)) (sizes : ℕ → Size) (prices : Prices) (ds : List (ℕ × ℕ)) → decided_bound_of shape sizes prices (reverse ds) ≡ decided_bound_of shape sizes prices ds
bound-reverse shape sizes prices ds =
    cost-same (decided_value sizes (reverse ds)) (decided_value sizes ds) shape sizes prices (value-same sizes (reverse ds) ds (decides-reverse ds))

-- each couple is decided by the completed list
pub completed_all : (shape : List (List ℕ)) (ordered ds : List (ℕ × ℕ)) → DecidesAll shape ordered → DecidesCouples shape ds → DecidesAll shape (completed ordered ds)
completed_all shape ordered ds all couples = record {
  couples = λ u w t.
      ⊎_elim
      (λ d. couples u w d)
      (λ o. all.couples u w (and_parts (not (decides ds u w || decides ds w u)) (decides ordered u w) o).1)
      (or_cases (decides ds u w) (not (decides ds u w || decides ds w u) && decides ordered u w) (sym (completed_decides ordered ds u w) ∙ t));
  all = λ u w c.
      ⊎_elim
      (λ d. inl (by_decision u w d))
      (λ (n : decides ds u w ≡ false). ⊎_elim
      (λ d. inr (by_decision w u d))
      (λ (m : decides ds w u ≡ false). ⊎_elim (λ o. inl (by_order u w n m o)) (λ o. inr (by_order w u m n o)) (all.all u w c))
      (cases_Bool (decides ds w u)))
      (cases_Bool (decides ds u w));
}
  where
    by_decision : (u w : ℕ) → decides ds u w ≡ true → decides (completed ordered ds) u w ≡ true
    by_decision u w d = completed_decides ordered ds u w ∙ or_left (decides ds u w) (not (decides ds u w || decides ds w u) && decides ordered u w) d

    by_order : (u w : ℕ) → decides ds u w ≡ false → decides ds w u ≡ false → decides ordered u w ≡ true → decides (completed ordered ds) u w ≡ true
    by_order u w n m o = completed_decides ordered ds u w ∙ or_right (decides ds u w) (not (decides ds u w || decides ds w u) && decides ordered u w) (rw (n, m) o)

-- a couple that is left as it is ordered costs its minimum
pub bound-completed : (shape : List (List ℕ)) (sizes : ℕ → Size) (prices : Prices) (ordered ds : List (ℕ × ℕ)) → DecidesAsDesired sizes ordered → DecidesOneWay ds → decided_bound_of shape sizes prices (completed ordered ds) ≡ decided_bound_of shape sizes prices ds
bound-completed shape sizes prices ordered ds des one =
    cost-same (decided_value sizes (completed ordered ds)) (decided_value sizes ds) shape sizes prices value
  where
    value : (u w : ℕ) → decided_value sizes (completed ordered ds) u w ≡ decided_value sizes ds u w
    value u w =
        let f = completed_decides ordered ds u w in
        let g = completed_decides ordered ds w u in
        ⊎_elim
        (λ (d : decides ds u w ≡ true).
        let a : decides (completed ordered ds) u w ≡ true = f ∙ or_left (decides ds u w) (not (decides ds u w || decides ds w u) && decides ordered u w) d in
        cond-true _ _ _ a ∙ sym (cond-true _ _ _ d))
        (λ (n : decides ds u w ≡ false).
        ⊎_elim
        (λ (d : decides ds w u ≡ true).
        let a : decides (completed ordered ds) u w ≡ false = f ∙ rw (n, d) refl in
        let b : decides (completed ordered ds) w u ≡ true = g ∙ or_left (decides ds w u) (not (decides ds w u || decides ds u w) && decides ordered w u) d in
        cond-false _ _ _ a ∙ cond-true _ _ _ b ∙ sym (cond-false _ _ _ n ∙ cond-true _ _ _ d))
        (λ (m : decides ds w u ≡ false).
        let a : decides (completed ordered ds) u w ≡ decides ordered u w = f ∙ rw (n, m) refl in
        let b : decides (completed ordered ds) w u ≡ decides ordered w u = g ∙ rw (m, n) refl in
        let least : decided_value sizes ds u w ≡ pair_min sizes u w = cond-false _ _ _ n ∙ cond-false _ _ _ m in
        ⊎_elim
        (λ o. cond-true _ _ _ (a ∙ o) ∙ desired_is_least sizes u w (des u w o) ∙ sym least)
        (λ p. ⊎_elim
        (λ o. cond-false _ _ _ (a ∙ p) ∙ cond-true _ _ _ (b ∙ o) ∙ desired_is_least sizes w u (des w u o) ∙ pair_min-swap sizes w u ∙ sym least)
        (λ q. cond-false _ _ _ (a ∙ p) ∙ cond-false _ _ _ (b ∙ q) ∙ sym least)
        (cases_Bool (decides ordered w u)))
        (cases_Bool (decides ordered u w)))
        (cases_Bool (decides ds w u)))
        (cases_Bool (decides ds u w))
