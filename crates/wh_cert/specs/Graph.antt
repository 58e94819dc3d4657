-- The graph of a set of decided couples: which one-way expression has to stand before which.
use Rattle.std.specs.Prelude.{◌≡◌, ℕ, ◌<◌, List, [], ◌∷◌, length, Bool, true, ◌&&◌, ◌==◌, ◌⊎◌}
use Rattle.std.specs.List.{list_any}
use Rattle.wh_dag.specs.Shape.{has, children_of}
use Rattle.wh_dag.specs.Siblings.{IsCouple}
use Rattle.wh_strategy.specs.declared.expression.Expression.{Expression}
use Rattle.wh_strategy.specs.declared.expression.Expression.TheVariants.{Comp, Inst}
use Rattle.wh_strategy.specs.declared.sizes.Size.{Size}
use Rattle.wh_cert.specs.Order.{ComesFirst}

-- Decided couples are a list of pairs, the view that is installed first standing first.

-- it is decided that u is installed before w
unfoldable pub decides : List (ℕ × ℕ) → ℕ → ℕ → Bool
decides decided u w = list_any (λ d. (d.0 == u) && (d.1 == w)) decided

-- the nodes: a Comp of a view from one child of it, and an Inst of a view
abbrev pub IsNode : List (List ℕ) → Expression → Type 0
IsNode shape (Inst v) = v < length shape
IsNode shape (Comp v ys) = (u : ℕ) × (ys ≡ u ∷ []) × (has (children_of shape v) u ≡ true)

-- The edges: the first expression has to stand before the second.
--   from Comp(V, {U}) to Inst(U), by S3, and to Inst(V), by S5;
--   from Inst(U) to Comp(V, {W}), by S4, where U is a child of that V too and is decided to be installed before W;
--   from Comp(U, {X}) to Comp(V, {U}), by S6.
abbrev pub HasEdge : List (List ℕ) → List (ℕ × ℕ) → Expression → Expression → Type 0
HasEdge shape decided (Comp v ys) (Inst w) = (ys ≡ w ∷ []) ⊎ (w ≡ v)
HasEdge shape decided (Inst u) (Comp v ys) = (w : ℕ) × (ys ≡ w ∷ []) × (has (children_of shape v) u ≡ true) × (decides decided u w ≡ true)
HasEdge shape decided (Comp u xs) (Comp v ys) = ys ≡ u ∷ []
HasEdge shape decided (Inst u) (Inst w) = ⊥

-- edges lead from x along the nodes of the list, and from the last one to z
abbrev pub Leads : List (List ℕ) → List (ℕ × ℕ) → Expression → List Expression → Expression → Type 0
Leads shape decided x [] z = HasEdge shape decided x z
Leads shape decided x (y ∷ ys) z = IsNode shape y × HasEdge shape decided x y × Leads shape decided y ys z

-- a cycle: a non-empty list of nodes, each with an edge to the next, and the last one to the first
abbrev pub IsCycle : List (List ℕ) → List (ℕ × ℕ) → List Expression → Type 0
IsCycle shape decided [] = ⊥
IsCycle shape decided (x ∷ xs) = IsNode shape x × Leads shape decided x xs x

-- each couple is decided, and nothing else
pub record DecidesAll (shape : List (List ℕ)) (decided : List (ℕ × ℕ)) : Type 0 where
  pub couples : (u w : ℕ) → decides decided u w ≡ true → IsCouple shape u w
  pub all : (u w : ℕ) → IsCouple shape u w → (decides decided u w ≡ true) ⊎ (decides decided w u ≡ true)

-- the couples are decided by the desired order
abbrev pub DecidesAsDesired : (ℕ → Size) → List (ℕ × ℕ) → Type 0
DecidesAsDesired sizes decided = (u w : ℕ) → decides decided u w ≡ true → ComesFirst sizes u w

-- the decisions of the ordered graph: all couples, by the desired order
abbrev pub IsOrdered : List (List ℕ) → (ℕ → Size) → List (ℕ × ℕ) → Type 0
IsOrdered shape sizes decided = DecidesAll shape decided × DecidesAsDesired sizes decided
