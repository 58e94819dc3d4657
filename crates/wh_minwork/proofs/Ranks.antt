-- Why some shapes have no cycle, whatever the sizes: their views have ranks, and each edge leads to a view of a higher rank, or of
-- the same rank and later in the desired order, or from a Comp to the Inst of the view that it is from.
use Rattle.std.proofs.Common.{◌≡◌, ℕ, zero, suc, ◌<◌, ◌≤◌, ◌⊎◌, List, [], ◌∷◌, true, cond, refl, sym, ap, ◌∙◌, subst, length, ⊎_elim, inl, inr, arith}
use Rattle.std.proofs.lemmas.Bool.{cases_Bool, cases_lt, cond-true, cond-false, both_ways}
use Rattle.wh_dag.specs.Kinds.{IsTree, IsUniform}
use Rattle.wh_dag.specs.Level.{level_of}
use Rattle.wh_dag.specs.Shape.{has, IsShape, children_of}
use Rattle.wh_strategy.specs.declared.expression.Expression.{Expression}
use Rattle.wh_strategy.specs.declared.expression.Expression.TheVariants.{Comp, Inst}
use Rattle.wh_strategy.specs.declared.sizes.Size.{Size}
use Rattle.wh_strategy.proofs.Found.{has_within}
use Rattle.wh_cert.specs.Graph.{IsNode, HasEdge, Leads, DecidesAsDesired}
use Rattle.wh_cert.specs.Order.{ComesFirst}
use Rattle.wh_cert.proofs.DesiredOrder.{not_both_come}
use Rattle.wh_minwork.specs.Plan.{IsAcyclicAsDesired, IsMinReason}
use Rattle.wh_minwork.specs.declared.minwork.MinFault.{MinFault}
use Rattle.wh_minwork.specs.declared.minwork.MinFault.TheVariants.{Cyclic, Memory}
use Rattle.wh_minwork.proofs.Inserted.{comes_trans}

-- a view ranks above each view that it is over, and all of these have one rank
record HasRanks (shape : List (List ℕ)) (rank : ℕ → ℕ) : Type 0 where
  pub rises : (v u : ℕ) → has (children_of shape v) u ≡ true → rank u < rank v
  pub beside : (v u w : ℕ) → has (children_of shape v) u ≡ true → has (children_of shape v) w ≡ true → rank u ≡ rank w

-- in a uniform shape the levels are ranks
levels_are_ranks : (shape : List (List ℕ)) → IsUniform shape → HasRanks shape (level_of shape)
levels_are_ranks shape uniform = record {
  rises = λ v u m. let e = uniform v u m in omega arith;
  beside = λ v u w m n. let e = uniform v u m in let f = uniform v w n in omega arith;
}

-- the highest view below n that is over this one, or else a number given
parent_or : List (List ℕ) → ℕ → ℕ → ℕ → ℕ
parent_or shape none u zero = none
parent_or shape none u (suc n) = cond (has (children_of shape n) u) n (parent_or shape none u n)

only_parent : (shape : List (List ℕ)) (none u v n : ℕ) → IsTree shape → has (children_of shape v) u ≡ true → v < n → parent_or shape none u n ≡ v
unfolding parent_or
only_parent shape none u v zero t m l = absurd (omega arith)
only_parent shape none u v (suc n) t m l =
    ⊎_elim
    (λ e. cond-true _ n (parent_or shape none u n) e ∙ t u n v e m)
    (λ e. cond-false _ n (parent_or shape none u n) e
    ∙ ⊎_elim
    (λ k. only_parent shape none u v n t m k)
    (λ k. absurd (both_ways _ e (subst (λ z. has (children_of shape z) u ≡ true) (same k) m)))
    (cases_lt v n))
    (cases_Bool (has (children_of shape n) u))
  where
    same : n ≤ v → v ≡ n
    same k = omega arith

above_none : (shape : List (List ℕ)) (none u n : ℕ) → IsShape shape → u < none → u < parent_or shape none u n
unfolding parent_or
above_none shape none u zero s l = l
above_none shape none u (suc n) s l =
    ⊎_elim
    (λ e. subst (λ z. u < z) (sym (cond-true _ n (parent_or shape none u n) e)) (s.lower n u e))
    (λ e. subst (λ z. u < z) (sym (cond-false _ n (parent_or shape none u n) e)) (above_none shape none u n s l))
    (cases_Bool (has (children_of shape n) u))

-- in a tree the number of the only parent is a view's rank, and the number of views that of a view without one
parents_are_ranks : (shape : List (List ℕ)) → IsShape shape → IsTree shape → HasRanks shape (λ u. parent_or shape (length shape) u (length shape))
parents_are_ranks shape s t = record {
  rises = λ v u m.
      let l : v < length shape = has_within shape v u m in
      subst (λ z. z < parent_or shape (length shape) v (length shape)) (sym (parent v u m)) (above_none shape (length shape) v (length shape) s l);
  beside = λ v u w m n. parent v u m ∙ sym (parent v w n);
}
  where
    parent : (v u : ℕ) → has (children_of shape v) u ≡ true → parent_or shape (length shape) u (length shape) ≡ v
    parent v u m = only_parent shape (length shape) u v (length shape) t m (has_within shape v u m)

-- The place of a one-way expression: the view that a Comp is from, or that an Inst is of, and the Inst after the Comps.
abbrev view_of : Expression → ℕ
view_of (Comp v []) = 0
view_of (Comp v (u ∷ us)) = u
view_of (Inst u) = u

abbrev turn_of : Expression → ℕ
turn_of (Comp v ys) = 0
turn_of (Inst u) = 1

-- a place below another: by rank, then by the desired order, then by turn
abbrev IsBelow : (ℕ → ℕ) → (ℕ → Size) → ℕ → ℕ → ℕ → ℕ → Type 0
IsBelow rank sizes u k w l = (rank u < rank w) ⊎ ((rank u ≡ rank w) × (ComesFirst sizes u w ⊎ ((u ≡ w) × (k < l))))

below_trans : (rank : ℕ → ℕ) (sizes : ℕ → Size) (u k w l x m : ℕ) → IsBelow rank sizes u k w l → IsBelow rank sizes w l x m → IsBelow rank sizes u k x m
below_trans rank sizes u k w l x m a b =
    ⊎_elim
    (λ (i : rank u < rank w). ⊎_elim (λ (j : rank w < rank x). inl (omega arith)) (λ j. let e : rank w ≡ rank x = j.0 in inl (omega arith)) b)
    (λ i. let d : rank u ≡ rank w = i.0 in
    ⊎_elim (λ (j : rank w < rank x). inl (omega arith)) (λ j. let e : rank w ≡ rank x = j.0 in inr (d ∙ e, later i.1 j.1)) b)
    a
  where
    later : ComesFirst sizes u w ⊎ ((u ≡ w) × (k < l)) → ComesFirst sizes w x ⊎ ((w ≡ x) × (l < m)) → ComesFirst sizes u x ⊎ ((u ≡ x) × (k < m))
    later p q =
        ⊎_elim
        (λ c. ⊎_elim (λ d. inl (comes_trans sizes u w x c d)) (λ d. inl (subst (λ z. ComesFirst sizes u z) d.0 c)) q)
        (λ c. ⊎_elim (λ d. inl (subst (λ z. ComesFirst sizes z x) (sym c.0) d)) (λ d. let g : k < l = c.1 in let h : l < m = d.1 in inr (c.0 ∙ d.0, omega arith)) q)
        p

below_itself : (rank : ℕ → ℕ) (sizes : ℕ → Size) (u k : ℕ) → IsBelow rank sizes u k u k → ⊥
below_itself rank sizes u k a =
    ⊎_elim
    (λ (l : rank u < rank u). omega arith)
    (λ i. ⊎_elim (λ c. not_both_come sizes u u c c) (λ d. let l : k < k = d.1 in omega arith) i.1)
    a

abbrev IsBefore : (ℕ → ℕ) → (ℕ → Size) → Expression → Expression → Type 0
IsBefore rank sizes x y = IsBelow rank sizes (view_of x) (turn_of x) (view_of y) (turn_of y)

from_one : (v u : ℕ) (ys : List ℕ) → ys ≡ u ∷ [] → view_of (Comp v ys) ≡ u
from_one v u ys e = ap (λ z. view_of (Comp v z)) e

-- each edge leads to a place above
edge_rises : (shape : List (List ℕ)) (rank : ℕ → ℕ) (sizes : ℕ → Size) (decided : List (ℕ × ℕ)) → HasRanks shape rank → DecidesAsDesired sizes decided →
    (x y : Expression) → IsNode shape x → IsNode shape y → HasEdge shape decided x y → IsBefore rank sizes x y
edge_rises shape rank sizes decided r d (Comp v ys) (Inst w) n o h =
    let e = from_one v n.0 ys n.1 in
    ⊎_elim
    (λ s. let f = from_one v w ys s in
    subst (λ z. IsBelow rank sizes (view_of (Comp v ys)) 0 z 1) f (inr (refl, inr (refl, omega arith))))
    (λ s. subst (λ z. IsBelow rank sizes z 0 w 1) (sym e)
    (subst (λ z. IsBelow rank sizes n.0 0 z 1) (sym s) (inl (r.rises v n.0 n.2))))
    h
edge_rises shape rank sizes decided r d (Inst u) (Comp v ys) n o h =
    subst (λ z. IsBelow rank sizes u 1 z 0) (sym (from_one v h.0 ys h.1))
    (inr (r.beside v u h.0 h.2 (child v h.0 ys o h.1), inl (d u h.0 h.3)))
  where
    child : (v w : ℕ) (ys : List ℕ) → IsNode shape (Comp v ys) → ys ≡ w ∷ [] → has (children_of shape v) w ≡ true
    child v w ys node e = subst (λ z. has (children_of shape v) z ≡ true) (sym (from_one v node.0 ys node.1) ∙ from_one v w ys e) node.2
edge_rises shape rank sizes decided r d (Comp u xs) (Comp v ys) n o h =
    subst (λ z. IsBelow rank sizes z 0 (view_of (Comp v ys)) 0) (sym (from_one u n.0 xs n.1))
    (subst (λ z. IsBelow rank sizes n.0 0 z 0) (sym (from_one v u ys h)) (inl (r.rises u n.0 n.2)))
edge_rises shape rank sizes decided r d (Inst u) (Inst w) n o h = absurd h

way_rises : (shape : List (List ℕ)) (rank : ℕ → ℕ) (sizes : ℕ → Size) (decided : List (ℕ × ℕ)) → HasRanks shape rank → DecidesAsDesired sizes decided →
    (x : Expression) (ys : List Expression) (z : Expression) → IsNode shape x → IsNode shape z → Leads shape decided x ys z → IsBefore rank sizes x z
way_rises shape rank sizes decided r d x [] z n o h = edge_rises shape rank sizes decided r d x z n o h
way_rises shape rank sizes decided r d x (y ∷ ys) z n o h =
    below_trans rank sizes (view_of x) (turn_of x) (view_of y) (turn_of y) (view_of z) (turn_of z)
    (edge_rises shape rank sizes decided r d x y n h.0 h.1)
    (way_rises shape rank sizes decided r d y ys z h.0 o h.2)

ranked_has_no_cycle : (shape : List (List ℕ)) (rank : ℕ → ℕ) (sizes : ℕ → Size) → HasRanks shape rank → IsAcyclicAsDesired shape sizes
ranked_has_no_cycle shape rank sizes r decided o [] h = h
ranked_has_no_cycle shape rank sizes r decided o (x ∷ xs) h =
    below_itself rank sizes (view_of x) (turn_of x) (way_rises shape rank sizes decided r o.1 x xs x h.0 h.0 h.1)

pub kinds_have_no_cycle : (shape : List (List ℕ)) (sizes : ℕ → Size) → IsShape shape → IsTree shape ⊎ IsUniform shape → IsAcyclicAsDesired shape sizes
kinds_have_no_cycle shape sizes s k =
    ⊎_elim
    (λ t. ranked_has_no_cycle shape _ sizes (parents_are_ranks shape s t))
    (λ u. ranked_has_no_cycle shape _ sizes (levels_are_ranks shape u))
    k

-- so the only reason to have no plan of them is want of memory
pub only_memory : (shape : List (List ℕ)) (sizes : ℕ → Size) (fault : MinFault) → IsShape shape → IsMinReason shape sizes fault → IsTree shape ⊎ IsUniform shape → fault ≡ Memory
only_memory shape sizes (Cyclic cycle) s r k = absurd (kinds_have_no_cycle shape sizes s k r.0 r.1 cycle.items r.2.cycle)
only_memory shape sizes Memory s r k = refl
