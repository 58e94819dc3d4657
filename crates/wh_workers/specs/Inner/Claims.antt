-- What only proofs and private contracts use. The claim word: a number from which workers draw the numbers of jobs, and what each seat at it knows.
use Rattle.std.specs.Prelude.{◌≡◌, ℕ, ◌+◌, ◌^◌, ◌<◌, min, max, List, [], ◌∷◌, length}
use mathlib.Core.Option.{some}
use lib.ListN.{get_elem?}
use Rattle.atomic_table.specs.Table.{State}
use Rattle.wh_workers.specs.declared.claim.Hand.{Hand}
use Rattle.wh_workers.specs.Claims.{times, once_below}

-- of each, added up
abbrev pub total : (Hand → ℕ) → List Hand → ℕ
total f [] = 0
total f (v ∷ vs) = f v + total f vs

-- The rule: of n jobs, those below the word are drawn, each once, and none by a seat that stands for no worker any more. The seats stand
-- for 16 workers in all; each of these can find no job once, so that the word never wraps.
pub record Holds (n : ℕ) (s : State (Unit {0}) Hand) : Type 0 where
  pub word : ℕ
  pub words : s.words ≡ word ∷ []
  pub small : n + 16 < 2 ^ 64
  pub parts : total (λ v. v.parts) s.views ≡ 16
  pub room : max word n + total (λ v. v.left) s.views ≡ n + 16
  pub drawn : (x : ℕ) → total (λ v. times x v.drawn) s.views ≡ once_below x (min word n)
  pub each : total (λ v. length v.drawn) s.views ≡ min word n
  pub idle : (seat : ℕ) (v : Hand) → get_elem? s.views seat ≡ some v → v.parts ≡ 0 → (v.drawn ≡ []) × (v.left ≡ 0)
  pub known : (seat : ℕ) (v : Hand) → get_elem? s.views seat ≡ some v → 0 < v.parts → v.jobs ≡ n
