-- Graphs of which couples are decided one after another.
use Rattle.std.specs.Prelude.{◌≡◌, ℕ, ◌+◌, ◌<◌, List, [], ◌∷◌, ◌++◌, Bool, true, not, ◌||◌, filter}
use Rattle.wh_dag.specs.Siblings.{IsCouple}
use Rattle.wh_dag.specs.declared.siblings.Couple.{Couple}
use Rattle.wh_strategy.specs.declared.expression.Expression.{Expression}
use Rattle.wh_strategy.specs.declared.expression.Expression.TheVariants.{Comp, Inst}
use Rattle.wh_strategy.specs.Expression.{At}
use Rattle.wh_cert.specs.Graph.{decides, HasEdge, IsCycle}
use Rattle.wh_cert.specs.Search.{IsOpen}
use Rattle.wh_minwork.specs.Left.{AreOf}
use Rattle.wh_minwork.specs.Sorted.{IsSorted}
use Rattle.wh_minwork.specs.declared.draft.Found.{Found}
use Rattle.wh_minwork.specs.declared.draft.Found.TheVariants.{Sorted, Cycle, Open}

-- the child lists of a shape, all its couples in an order that they stand in as long as nothing else is decided, and the decisions
pub record Drafted : Type 0 where
  pub children : List (List ℕ)
  pub ordered : List (ℕ × ℕ)
  pub decided : List (ℕ × ℕ)

-- neither of the two is decided to be installed before the other
abbrev pub leaves_open : List (ℕ × ℕ) → ℕ × ℕ → Bool
leaves_open decided couple = not (decides decided couple.0 couple.1 || decides decided couple.1 couple.0)

-- the decisions, and of the ordered couples those that they leave open
abbrev pub completed : List (ℕ × ℕ) → List (ℕ × ℕ) → List (ℕ × ℕ)
completed ordered decided = decided ++ filter (leaves_open decided) ordered

-- each decision is on a couple of the shape
abbrev pub DecidesCouples : List (List ℕ) → List (ℕ × ℕ) → Type 0
DecidesCouples shape decided = (u w : ℕ) → decides decided u w ≡ true → IsCouple shape u w

-- the expressions of a cycle in its order, at the end the first one once more: edges lead from each to the next
abbrev pub around : List Expression → List Expression
around [] = []
around (x ∷ xs) = x ∷ (xs ++ x ∷ [])

-- The couple is the first one along the cycle that is not decided. An edge of the cycle leads from the Inst of one of its views
-- to a Comp from the other one, and each edge of the cycle before that one is there by the decisions alone.
pub record IsFirstOpen (shape : List (List ℕ)) (decided : List (ℕ × ℕ)) (cycle : List Expression) (couple : Couple) : Type 0 where
  pub undecided : IsOpen shape decided couple
  pub first : ℕ
  pub second : ℕ
  pub parent : ℕ
  pub views : AreOf couple first second
  pub place : ℕ
  pub from : At (around cycle) place (Inst first)
  pub to : At (around cycle) (place + 1) (Comp parent (second ∷ []))
  pub earlier : (p : ℕ) (x y : Expression) → p < place → At (around cycle) p x → At (around cycle) (p + 1) y → HasEdge shape decided x y

-- the couple is the first one that is not decided along some cycle of the completed graph
abbrev pub OpensCycle : List (List ℕ) → List (ℕ × ℕ) → List (ℕ × ℕ) → Couple → Type 0
OpensCycle shape ordered decided couple =
    (cycle : List Expression) × IsCycle shape (completed ordered decided) cycle × IsFirstOpen shape decided cycle couple

-- What is found of a graph where each couple that is not decided stands in this order. It is the nodes sorted, or a cycle by decisions
-- alone, or of a cycle that is not, the first couple along it that is not decided.
abbrev pub IsFound : List (List ℕ) → List (ℕ × ℕ) → List (ℕ × ℕ) → Found → Type 0
IsFound shape ordered decided (Sorted list) = IsSorted shape (completed ordered decided) list
IsFound shape ordered decided (Cycle cycle) = IsCycle shape decided cycle
IsFound shape ordered decided (Open couple) = OpensCycle shape ordered decided couple
