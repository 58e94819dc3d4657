-- What workers bring, and what comes of it: what only proofs and private contracts use.
use Rattle.std.specs.Prelude.{◌≡◌, ℕ, List, ◌∷◌, ◌++◌, map, length, Ok, Err, Result, ⊤}
use Rattle.wh_workers.specs.declared.jobs.JobsFault.{JobsFault}
use Rattle.wh_workers.specs.declared.jobs.JobsFault.TheVariants.{Memory, Refused}

-- the first of these that is a refusal
pub record IsFirst {T E : Type 0} (os : List (Result T E)) (number : ℕ) (refusal : E) : Type 0 where
  pub before : List T
  pub rest : List (Result T E)
  pub all : os ≡ map Ok before ++ Err refusal ∷ rest
  pub at : number ≡ length before

abbrev pub IsLowest : {T E : Type 0} → List (Result T E) → JobsFault E → Type 0
IsLowest os Memory = ⊤
IsLowest os (Refused number refusal) = IsFirst os number refusal
