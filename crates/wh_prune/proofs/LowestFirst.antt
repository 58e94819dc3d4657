-- Installing the lower number of each couple first makes no cycle.
use Rattle.std.proofs.Common.{◌≡◌, ℕ, ◌+◌, ◌<◌, List, [], ◌∷◌, ◌++◌, refl, sym, ap, ◌∙◌, ⊎_elim, arith}
use Rattle.std.proofs.lemmas.Bool.{false≢true}
use Rattle.wh_dag.specs.Shape.{IsShape}
use Rattle.wh_strategy.specs.declared.expression.Expression.{Expression}
use Rattle.wh_strategy.specs.declared.expression.Expression.TheVariants.{Comp, Inst}
use Rattle.wh_cert.specs.Graph.{decides, IsNode, HasEdge, Leads, IsCycle, DecidesAll}
use Rattle.wh_minwork.specs.Sorted.{IsSorted}
use Rattle.wh_minwork.proofs.Decisions.{decides_was}
use Rattle.wh_minwork.proofs.Sorting.{sorted_agrees}
use Rattle.wh_prune.specs.Inner.Searching.{DecidesLowerFirst}
use Rattle.wh_prune.specs.Spent.{InstallsLowerFirst}

pub lower_none : DecidesLowerFirst []
unfolding decides
lower_none u w t = absurd (false≢true t)

pub lower_more : (ds : List (ℕ × ℕ)) (a b : ℕ) → a < b → DecidesLowerFirst ds → DecidesLowerFirst (ds ++ (a, b) ∷ [])
lower_more ds a b l h u w t = ⊎_elim (λ o. h u w o) (λ e. let x : a ≡ u = e.0 in let y : b ≡ w = e.1 in omega arith) (decides_was ds a b u w t)

-- a number that rises along each edge: what reads a view comes before its Inst, and its Inst before what reads a higher one
rank : Expression → ℕ
rank (Comp v []) = 0
rank (Comp v (u ∷ us)) = u + u
rank (Inst v) = v + v + 1

rank_comp : (v u : ℕ) (ys : List ℕ) → ys ≡ u ∷ [] → rank (Comp v ys) ≡ u + u
unfolding rank
rank_comp v u ys e = ap (λ z. rank (Comp v z)) e

rank_inst : (v : ℕ) → rank (Inst v) ≡ v + v + 1
unfolding rank
rank_inst v = refl

same_head : (u w : ℕ) → u ∷ [] ≡ w ∷ [] → u ≡ w
same_head u w e = cc

edge_up : (shape : List (List ℕ)) (ds : List (ℕ × ℕ)) → IsShape shape → DecidesLowerFirst ds → (x y : Expression) → IsNode shape x → IsNode shape y → HasEdge shape ds x y → rank x < rank y
edge_up shape ds sh lo (Comp v xs) (Inst w) nx ny e =
    let k = rank_comp v nx.0 xs nx.1 in
    let i = rank_inst w in
    let l : nx.0 < v = sh.lower v nx.0 nx.2 in
    ⊎_elim
    (λ s. let t : nx.0 ≡ w = same_head nx.0 w (sym nx.1 ∙ s) in omega arith)
    (λ (s : w ≡ v). omega arith)
    e
edge_up shape ds sh lo (Comp u xs) (Comp v ys) nx ny e =
    let k = rank_comp u nx.0 xs nx.1 in
    let i = rank_comp v u ys e in
    let l : nx.0 < u = sh.lower u nx.0 nx.2 in
    omega arith
edge_up shape ds sh lo (Inst u) (Inst w) nx ny e = absurd e
edge_up shape ds sh lo (Inst u) (Comp v ys) nx ny e =
    let k = rank_inst u in
    let i = rank_comp v e.0 ys e.1 in
    let l : u < e.0 = lo u e.0 e.3 in
    omega arith

leads_up : (shape : List (List ℕ)) (ds : List (ℕ × ℕ)) → IsShape shape → DecidesLowerFirst ds → (x : Expression) (ys : List Expression) (z : Expression) → IsNode shape x → IsNode shape z → Leads shape ds x ys z → rank x < rank z
leads_up shape ds sh lo x [] z nx nz h = edge_up shape ds sh lo x z nx nz h
leads_up shape ds sh lo x (y ∷ ys) z nx nz h =
    let a : rank x < rank y = edge_up shape ds sh lo x y nx h.0 h.1 in
    let b : rank y < rank z = leads_up shape ds sh lo y ys z h.0 nz h.2 in
    omega arith

pub no_cycle_lowest : (shape : List (List ℕ)) (ds : List (ℕ × ℕ)) → IsShape shape → DecidesLowerFirst ds → (es : List Expression) → IsCycle shape ds es → ⊥
no_cycle_lowest shape ds sh lo [] h = h
no_cycle_lowest shape ds sh lo (x ∷ xs) h =
    let k : rank x < rank x = leads_up shape ds sh lo x xs x h.0 h.0 h.1 in
    omega arith

-- what is sorted then installs the lower numbers first
pub lowest_installs : (shape : List (List ℕ)) (ds : List (ℕ × ℕ)) (list : List Expression) → DecidesAll shape ds → DecidesLowerFirst ds → IsSorted shape ds list → InstallsLowerFirst shape list
lowest_installs shape ds list da lo so u w p q c l a b =
    sorted_agrees shape ds list so da u w p q
    (⊎_elim (λ t. t) (λ t. let k : w < u = lo w u t in absurd (omega arith)) (da.all u w c))
    a b
