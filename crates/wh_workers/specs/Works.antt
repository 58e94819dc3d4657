-- What workers bring, and what comes of it.
use Rattle.std.specs.Prelude.{◌≡◌, ℕ, ◌<◌, List, map, length, slice_get, Some, Ok, Err, All, Result, ⊤}
use denote.Param.Members.{Shared}
use Rattle.std.specs.Fn.{FnReturns}
use Rattle.wh_workers.specs.Claims.{times, once_below}
use Rattle.wh_workers.specs.declared.jobs.JobsFault.{JobsFault}
use Rattle.wh_workers.specs.declared.jobs.JobsFault.TheVariants.{Memory, Refused}
use Rattle.wh_workers.specs.declared.work.JobResult.{JobResult}

-- the numbers of the jobs that gave these results
abbrev pub numbers : {X : Type 0} → List (JobResult X) → List ℕ
numbers bs = map (λ b. b.number) bs

-- there is one result for each number below count, and no other
abbrev pub OneEach : {X : Type 0} → ℕ → List (JobResult X) → Type 0
OneEach count bs = (x : ℕ) → times x (numbers bs) ≡ once_below x count

-- one of these results says that the job of this number gave x
abbrev pub IsBrought : {X : Type 0} → List (JobResult X) → ℕ → X → Type 0
IsBrought {X} bs number x = (place : ℕ) × (slice_get bs place ≡ Some (record { number = number; value = x }))

module _ {F X : Type 0} (g : Shared F (ℕ × Unit {0}) X) (f : F) where
  -- each result is what a call of f with its number, which is below count, may give
  abbrev pub AreGiven : ℕ → List (JobResult X) → Type 0
  AreGiven count bs = All (λ b. (b.number < count) × FnReturns g f (b.number, tt) b.value) bs

  -- there are count results, and each is what a call of f with its place may give
  pub record AreResults (count : ℕ) (xs : List X) : Type 0 where
    pub len : length xs ≡ count
    pub each : (i : ℕ) (x : X) → slice_get xs i ≡ Some x → FnReturns g f (i, tt) x

module _ {F T E : Type 0} (g : Shared F (ℕ × Unit {0}) (Result T E)) (f : F) where
  -- there are count values, and each is what a call of f with its place, which is not refused, may give
  pub record AreDone (count : ℕ) (values : List T) : Type 0 where
    pub len : length values ≡ count
    pub each : (i : ℕ) (x : T) → slice_get values i ≡ Some x → FnReturns g f (i, tt) (Ok x)

  -- a call of f with this number is refused, and one with any lower number may give a value
  pub record IsRefusedFirst (count number : ℕ) (refusal : E) : Type 0 where
    pub below : number < count
    pub refused : FnReturns g f (number, tt) (Err refusal)
    pub earlier : (j : ℕ) → j < number → (x : T) × FnReturns g f (j, tt) (Ok x)

  abbrev pub IsLowestRefused : ℕ → JobsFault E → Type 0
  IsLowestRefused count Memory = ⊤
  IsLowestRefused count (Refused number refusal) = IsRefusedFirst count number refusal
