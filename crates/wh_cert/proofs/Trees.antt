-- An accepted tree: no one-way strategy costs less.
use Rattle.std.proofs.Common.{◌≡◌, ℕ, suc, ◌+◌, ◌<◌, ◌≤◌, List, [], ◌∷◌, ◌++◌, ◌⊎◌, inl, inr, Bool, true, false, cond, sym, ap, ◌∙◌, subst, length, ⊎_elim, arith}
use Rattle.std.specs.Prelude.{slice_get}
use Rattle.std.specs.List.{All}
use Rattle.std.proofs.Math.Nat.{mul-le-mul_left}
use Rattle.std.proofs.lemmas.Option.{same_Some}
use Rattle.std.proofs.lemmas.Bool.{cases_order, eqb-true, false≢true, or_cases, and_parts, ltb-true, false_from_ne_true}
use Rattle.wh_dag.specs.Shape.{has, children_of, IsShape}
use Rattle.wh_dag.specs.Siblings.{have_parent}
use Rattle.wh_strategy.specs.declared.expression.Expression.{Expression}
use Rattle.wh_strategy.specs.declared.expression.Expression.TheVariants.{Comp, Inst}
use Rattle.wh_strategy.specs.Expression.{At}
use Rattle.wh_strategy.specs.Prices.{Prices}
use Rattle.wh_strategy.specs.Rules.{IsCorrect, IsOneWay}
use Rattle.wh_strategy.specs.declared.sizes.Size.{Size}
use Rattle.wh_strategy.specs.Work.{work_of}
use Rattle.wh_cert.specs.Bound.{in_order, pair_min, decided_value, decided_bound_of}
use Rattle.wh_cert.specs.Graph.{decides, IsNode, HasEdge, Leads, IsCycle}
use Rattle.wh_cert.specs.Search.{Placed, IsOpen, IsGoodNode, IsAcceptedTree, lower_first, higher_first, nodes_below}
use Rattle.wh_cert.specs.Tree.{CaseTree, Bound, Cycle, Branch}
use Rattle.wh_cert.proofs.OneWay.{comp_at, comps_in_order, comps_same, single_has, single_own}
use Rattle.wh_cert.proofs.Least.{comps_cost_least, first_paid, insts_cost, work-parts, paid}

-- the strategy installs as it is decided
abbrev pub Agrees : List Expression → List (ℕ × ℕ) → Type 0
Agrees list decided = (u w p q : ℕ) → decides decided u w ≡ true → At list p (Inst u) → At list q (Inst w) → p < q

-- an edge says which place comes first
edge_forward : (shape : List (List ℕ)) (list : List Expression) (decided : List (ℕ × ℕ)) → IsShape shape → IsCorrect shape list → IsOneWay list → Agrees list decided → (x y : Expression) → HasEdge shape decided x y → (p q : ℕ) → At list p x → At list q y → p < q
edge_forward shape list decided sh co ow ag (Comp v ys) (Inst w) edge p q a b =
    ⊎_elim
    (λ e. co.before_inst p q v w ys a (subst (λ z. has z w ≡ true) (sym e) (single_own w)) b)
    (λ e. co.own_inst p q v ys a (subst (λ z. At list q (Inst z)) e b))
    edge
edge_forward shape list decided sh co ow ag (Comp u xs) (Comp v ys) edge p q a b =
    co.changes_first p q u v xs ys a b (subst (λ z. has z u ≡ true) (sym edge) (single_own u))
edge_forward shape list decided sh co ow ag (Inst u) (Inst w) edge p q a b = absurd edge
edge_forward shape list decided sh co ow ag (Inst u) (Comp v ys) edge p q a b =
    let w : ℕ = edge.0 in
    let b' : At list q (Comp v (w ∷ [])) = subst (λ z. At list q (Comp v z)) edge.1 b in
    decision v u w p q a b' edge.2 edge.3
  where
    decision : (v u w p q : ℕ) → At list p (Inst u) → At list q (Comp v (w ∷ [])) → has (children_of shape v) u ≡ true → decides decided u w ≡ true → p < q
    decision v u w p q a b m d =
        let mine = comp_at shape list co ow v u m in
        let r : ℕ = mine.0 in
        let at : At list r (Comp v (u ∷ [])) = mine.1 in
        let ok = co.allowed q v (w ∷ []) b in
        let low : w < v = sh.lower v w (ok.3 w (single_own w)) in
        let high : v < length shape = ok.0 in
        let its = co.an_inst w (omega arith) in
        let t : ℕ = its.0 in
        let ahead : p < t = ag u w p t d a its.1 in
        ⊎_elim
        (λ e.
        let same : u ∷ [] ≡ w ∷ [] = comps_same v (u ∷ []) (w ∷ []) (sym at ∙ ap (slice_get list) e ∙ b) in
        let k : p < p = ag u w p p d a (subst (λ z. At list p (Inst z)) (single_has u w (subst (λ z. has z w ≡ true) (sym same) (single_own w))) a) in
        absurd (omega arith))
        (λ o. ⊎_elim
        (λ l. (comps_in_order shape list co v u w r q p t at b a its.1 l).0)
        (λ l. let k : t < p = (comps_in_order shape list co v w u q r t p b at its.1 a l).1 in absurd (omega arith))
        o)
        (cases_order r q)

-- each node has a place
pub node_at : (shape : List (List ℕ)) (list : List Expression) → IsCorrect shape list → IsOneWay list → (x : Expression) → IsNode shape x → (p : ℕ) × At list p x
node_at shape list co ow (Inst v) n = co.an_inst v n
node_at shape list co ow (Comp v ys) n =
    let a = comp_at shape list co ow v n.0 n.2 in
    (a.0, subst (λ z. At list a.0 (Comp v z)) (sym n.1) a.1)

leads_forward : (shape : List (List ℕ)) (list : List Expression) (decided : List (ℕ × ℕ)) → IsShape shape → IsCorrect shape list → IsOneWay list → Agrees list decided → (x : Expression) (ys : List Expression) (z : Expression) → Leads shape decided x ys z → (p q : ℕ) → At list p x → At list q z → p < q
leads_forward shape list decided sh co ow ag x [] z h p q a b = edge_forward shape list decided sh co ow ag x z h p q a b
leads_forward shape list decided sh co ow ag x (y ∷ ys) z h p q a b =
    let at = node_at shape list co ow y h.0 in
    let k : p < at.0 = edge_forward shape list decided sh co ow ag x y h.1 p at.0 a at.1 in
    let r : at.0 < q = leads_forward shape list decided sh co ow ag y ys z h.2 at.0 q at.1 b in
    omega arith

pub no_cycle : (shape : List (List ℕ)) (list : List Expression) (decided : List (ℕ × ℕ)) → IsShape shape → IsCorrect shape list → IsOneWay list → Agrees list decided → (es : List Expression) → IsCycle shape decided es → ⊥
no_cycle shape list decided sh co ow ag [] h = h
no_cycle shape list decided sh co ow ag (x ∷ xs) h =
    let at = node_at shape list co ow x h.0 in
    let k : at.0 < at.0 = leads_forward shape list decided sh co ow ag x xs x h.1 at.0 at.0 at.1 at.1 in
    omega arith

-- the pair in the order of its Comps
decided_paid : (shape : List (List ℕ)) (sizes : ℕ → Size) (list : List Expression) (decided : List (ℕ × ℕ)) → IsShape shape → IsCorrect shape list → IsOneWay list → Agrees list decided → (v u w p q : ℕ) → (u ≡ w → ⊥) → At list p (Comp v (u ∷ [])) → At list q (Comp v (w ∷ [])) → p < q → (n : ℕ) → (decides decided w u ≡ false → n ≤ in_order sizes u w) → n ≤ paid sizes list v u w + paid sizes list v w u
decided_paid shape sizes list decided sh co ow ag v u w p q ne a b l n h =
    let ok = co.allowed p v (u ∷ []) a in
    let ok' = co.allowed q v (w ∷ []) b in
    let high : v < length shape = ok.0 in
    let lu : u < v = sh.lower v u (ok.3 u (single_own u)) in
    let lw : w < v = sh.lower v w (ok'.3 w (single_own w)) in
    let iu = co.an_inst u (omega arith) in
    let iw = co.an_inst w (omega arith) in
    let first : iu.0 < iw.0 = (comps_in_order shape list co v u w p q iu.0 iw.0 a b iu.1 iw.1 l).1 in
    let not_other : decides decided w u ≡ false = false_from_ne_true _ (λ e. let k : iw.0 < iu.0 = ag w u iw.0 iu.0 e iw.1 iu.1 in omega arith) in
    let g = h not_other in
    let f = first_paid shape sizes list co v u w p q (u ∷ []) (w ∷ []) ne a (single_own u) b (single_own w) l in
    omega arith

value_paid : (shape : List (List ℕ)) (sizes : ℕ → Size) (list : List Expression) (decided : List (ℕ × ℕ)) → IsShape shape → IsCorrect shape list → IsOneWay list → Agrees list decided → (v u w : ℕ) → has (children_of shape v) u ≡ true → has (children_of shape v) w ≡ true → (u ≡ w → ⊥) → decided_value sizes decided u w ≤ paid sizes list v u w + paid sizes list v w u
value_paid shape sizes list decided sh co ow ag v u w m m' ne =
    let a = comp_at shape list co ow v u m in
    let b = comp_at shape list co ow v w m' in
    ⊎_elim
    (λ e. absurd (ne (single_has u w (subst (λ z. has z w ≡ true) (comps_same v (w ∷ []) (u ∷ []) (sym b.1 ∙ ap (slice_get list) (sym e) ∙ a.1)) (single_own w)))))
    (λ o. ⊎_elim
    (λ l. decided_paid shape sizes list decided sh co ow ag v u w a.0 b.0 ne a.1 b.1 l (decided_value sizes decided u w) (λ f. forward (decides decided u w) (decides decided w u) f))
    (λ l. let k = decided_paid shape sizes list decided sh co ow ag v w u b.0 a.0 (λ e. ne (sym e)) b.1 a.1 l (decided_value sizes decided u w) (λ f. backward (decides decided u w) (decides decided w u) f) in omega arith)
    o)
    (cases_order a.0 b.0)
  where
    forward : (x y : Bool) → y ≡ false → cond x (in_order sizes u w) (cond y (in_order sizes w u) (pair_min sizes u w)) ≤ in_order sizes u w
    forward true y f = omega arith
    forward false true f = absurd (false≢true (sym f))
    forward false false f = omega arith

    backward : (x y : Bool) → x ≡ false → cond x (in_order sizes u w) (cond y (in_order sizes w u) (pair_min sizes u w)) ≤ in_order sizes w u
    backward true y f = absurd (false≢true (sym f))
    backward false true f = omega arith
    backward false false f = omega arith

-- no one-way strategy that agrees costs less than the decided bound
pub decided_bound-le_work : (shape : List (List ℕ)) (sizes : ℕ → Size) (prices : Prices) (list : List Expression) (decided : List (ℕ × ℕ)) → IsShape shape → IsCorrect shape list → IsOneWay list → Agrees list decided → decided_bound_of shape sizes prices decided ≤ work_of shape sizes prices list
decided_bound-le_work shape sizes prices list decided sh co ow ag =
    let a = mul-le-mul_left prices.comp (comps_cost_least shape sizes list (decided_value sizes decided) sh co (λ v u w m m' n. value_paid shape sizes list decided sh co ow ag v u w m m' n)) in
    let b = mul-le-mul_left prices.inst (insts_cost shape sizes list co) in
    let w = work-parts shape sizes prices list in
    omega arith

-- one more decision
decides_more : (decided : List (ℕ × ℕ)) (u w x y : ℕ) → decides ((u, w) ∷ decided) x y ≡ true → ((u ≡ x) × (w ≡ y)) ⊎ (decides decided x y ≡ true)
unfolding decides
decides_more decided u w x y d =
    ⊎_elim
    (λ e. let both = and_parts _ _ e in inl (eqb-true u x both.0, eqb-true w y both.1))
    (λ e. inr e)
    (or_cases _ _ d)

agrees_more : (list : List Expression) (decided : List (ℕ × ℕ)) (u w : ℕ) → ((r t : ℕ) → At list r (Inst u) → At list t (Inst w) → r < t) → Agrees list decided → Agrees list ((u, w) ∷ decided)
agrees_more list decided u w first ag x y r t e a b =
    ⊎_elim
    (λ both. first r t (subst (λ z. At list r (Inst z)) (sym both.0) a) (subst (λ z. At list t (Inst z)) (sym both.1) b))
    (λ d. ag x y r t d a b)
    (decides_more decided u w x y e)

pub agrees_with_none : (list : List Expression) → Agrees list []
unfolding decides
agrees_with_none list u w p q d a b = absurd (false≢true d)

-- a couple has a parent
pub has_parent : (shape : List (List ℕ)) (u w : ℕ) → have_parent shape u w ≡ true → (v : ℕ) × (v < length shape) × (has (children_of shape v) u ≡ true) × (has (children_of shape v) w ≡ true)
unfolding children_of have_parent
has_parent [] u w h = absurd (false≢true h)
has_parent (own ∷ rest) u w h =
    ⊎_elim
    (λ e. let p = and_parts _ _ e in (0, omega arith, p.0, p.1))
    (λ e. let r = has_parent rest u w e in (suc r.0, let l : r.0 < length rest = r.1 in omega arith, r.2, r.3))
    (or_cases _ _ h)

-- a fact of each member of a list, one after another
abbrev pub Each : (Placed → Type 0) → List Placed → Type 0
Each P [] = Unit {0}
Each P (x ∷ xs) = P x × Each P xs

pub each_of_all : (P : Placed → Type 0) (xs : List Placed) → All P xs → Each P xs
each_of_all P [] h = tt
each_of_all P (x ∷ xs) h = (h 0 x (omega arith), each_of_all P xs (λ k d l. h (suc k) d (omega arith)))

each_left : (P : Placed → Type 0) (xs ys : List Placed) → Each P (xs ++ ys) → Each P xs
each_left P [] ys h = tt
each_left P (x ∷ xs) ys h = (h.0, each_left P xs ys h.1)

each_right : (P : Placed → Type 0) (xs ys : List Placed) → Each P (xs ++ ys) → Each P ys
each_right P [] ys h = h
each_right P (x ∷ xs) ys h = each_right P xs ys h.1

insts_differ : (list : List Expression) (p u w : ℕ) → At list p (Inst u) → At list p (Inst w) → u < w → ⊥
insts_differ list p u w a b l =
    let k : Inst u ≡ Inst w = same_Some _ _ (sym a ∙ b) in
    let s : u ≡ w = cc k in
    omega arith

-- below any decisions: where each node is good, no one-way strategy that agrees with them costs less
pub good_shows : (shape : List (List ℕ)) (sizes : ℕ → Size) (prices : Prices) (work : ℕ) (list : List Expression) → IsShape shape → IsCorrect shape list → IsOneWay list → (above : List (ℕ × ℕ)) (tree : CaseTree) → Each (IsGoodNode shape sizes prices work) (nodes_below above tree) → Agrees list above → work ≤ work_of shape sizes prices list
good_shows shape sizes prices work list sh co ow above Bound good ag =
    let b = decided_bound-le_work shape sizes prices list above sh co ow ag in
    let g : work ≤ decided_bound_of shape sizes prices above = good.0 in
    omega arith
good_shows shape sizes prices work list sh co ow above (Cycle es) good ag = absurd (no_cycle shape list above sh co ow ag es good.0)
good_shows shape sizes prices work list sh co ow above (Branch couple left right) good ag =
    let P : Placed → Type 0 = IsGoodNode shape sizes prices work in
    let free : IsOpen shape above couple = good.0 in
    let both = and_parts _ _ free.couple in
    let lt : couple.lower < couple.higher = ltb-true couple.lower couple.higher both.0 in
    let parent = has_parent shape couple.lower couple.higher both.1 in
    let v : ℕ = parent.0 in
    let inside : v < length shape = parent.1 in
    let ll : couple.lower < v = sh.lower v couple.lower parent.2 in
    let lh : couple.higher < v = sh.lower v couple.higher parent.3 in
    let a = co.an_inst couple.lower (omega arith) in
    let b = co.an_inst couple.higher (omega arith) in
    ⊎_elim
    (λ e. absurd (insts_differ list b.0 couple.lower couple.higher (subst (λ z. At list z (Inst couple.lower)) e a.1) b.1 lt))
    (λ o. ⊎_elim
    (λ l. good_shows shape sizes prices work list sh co ow (lower_first couple ∷ above) left
    (each_left P (nodes_below (lower_first couple ∷ above) left) (nodes_below (higher_first couple ∷ above) right) good.1)
    (agrees_more list above couple.lower couple.higher (λ r t x y. let i = co.one_inst r a.0 couple.lower x a.1 in let j = co.one_inst t b.0 couple.higher y b.1 in omega arith) ag))
    (λ l. good_shows shape sizes prices work list sh co ow (higher_first couple ∷ above) right
    (each_right P (nodes_below (lower_first couple ∷ above) left) (nodes_below (higher_first couple ∷ above) right) good.1)
    (agrees_more list above couple.higher couple.lower (λ r t x y. let i = co.one_inst r b.0 couple.higher x b.1 in let j = co.one_inst t a.0 couple.lower y a.1 in omega arith) ag))
    o)
    (cases_order a.0 b.0)

pub accepted_shows : (shape : List (List ℕ)) (sizes : ℕ → Size) (prices : Prices) (work : ℕ) (tree : CaseTree) (list : List Expression) → IsShape shape → IsAcceptedTree shape sizes prices work tree → IsCorrect shape list → IsOneWay list → work ≤ work_of shape sizes prices list
accepted_shows shape sizes prices work tree list sh good co ow =
    good_shows shape sizes prices work list sh co ow [] tree (each_of_all (IsGoodNode shape sizes prices work) (nodes_below [] tree) good) (agrees_with_none list)
