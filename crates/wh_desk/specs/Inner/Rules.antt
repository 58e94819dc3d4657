-- The rule of the published store: what only proofs and private contracts use.
use Rattle.std.specs.Prelude.{◌≡◌, ℕ, List, Option}
use mathlib.Core.Option.{some}
use lib.ListN.{get_elem?}
use Rattle.wh_desk.specs.declared.kept.Kept.{Kept}
use Rattle.wh_desk.specs.Known.{Known}
use Rattle.wh_desk.specs.Rules.{IsCopy, Fits}

-- the store shows its list, and each place knows a beginning of that
pub record Holds (x : Kept) (views : List (Option Known)) : Type 0 where
  pub copy : IsCopy x
  pub each : (seat : ℕ) (v : Option Known) → get_elem? views seat ≡ some v → Fits x.front v
