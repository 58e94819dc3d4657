-- Graphs of which couples are decided one after another: what only proofs and private contracts use.
use Rattle.std.specs.Prelude.{◌≡◌, ◌<◌, ℕ, List, true, false, ◌||◌}
use Rattle.wh_cert.specs.Graph.{decides, DecidesAll}
use Rattle.wh_minwork.specs.Inner.Left.{AreEdges}
use Rattle.wh_minwork.specs.Inner.Sets.{in_rows}
use Rattle.wh_minwork.specs.Draft.{completed, DecidesCouples}

-- of no couple both orders are in the list
abbrev pub DecidesOneWay : List (ℕ × ℕ) → Type 0
DecidesOneWay decided = (u w : ℕ) → decides decided u w ≡ true → decides decided w u ≡ false

-- the sets of a draft tell of its graph, of the order of all couples, and of what is decided
pub record AreDraftSets (views : ℕ) (over under before desired settled : List ℕ) (shape : List (List ℕ)) (ordered decided : List (ℕ × ℕ)) : Type 0 where
  pub edges : AreEdges views over under before shape (completed ordered decided)
  pub desired_are : (u w : ℕ) → u < 64 → w < 64 → in_rows desired w u ≡ decides ordered u w
  pub settled_are : (u w : ℕ) → in_rows settled u w ≡ (decides decided u w || decides decided w u)
  pub ordered_all : DecidesAll shape ordered
  pub ordered_once : DecidesOneWay ordered
  pub decided_couples : DecidesCouples shape decided
