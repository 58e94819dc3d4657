-- The first refusal of a list of outcomes.
use Rattle.std.proofs.Common.{◌≡◌, ℕ, zero, suc, ◌<◌, List, [], ◌∷◌, ◌++◌, length, map, slice_get, Some, Result, Ok, Err, refl, ap, ◌∙◌, arith}
use denote.Param.Members.{Shared}
use Rattle.wh_workers.specs.Works.{AreResults, IsLowestRefused}
use Rattle.wh_workers.specs.Inner.Works.{IsLowest}
use Rattle.wh_workers.specs.declared.jobs.JobsFault.{JobsFault}
use Rattle.wh_workers.specs.declared.jobs.JobsFault.TheVariants.{Memory, Refused}

module _ {T E : Type 0} where
  first_at : (before : List T) (e : E) (rest : List (Result T E)) → slice_get (map Ok before ++ Err e ∷ rest) (length before) ≡ Some (Err e)
  first_at [] e rest = refl
  first_at (x ∷ before) e rest = first_at before e rest

  first_within : (before : List T) (e : E) (rest : List (Result T E)) → length before < length (map Ok before ++ Err e ∷ rest)
  first_within [] e rest = omega arith
  first_within (x ∷ before) e rest = omega (arith, first_within before e rest)

  first_earlier : (before : List T) (e : E) (rest : List (Result T E)) (j : ℕ) → j < length before → (x : T) × (slice_get (map Ok before ++ Err e ∷ rest) j ≡ Some (Ok x))
  first_earlier [] e rest j l = absurd (omega arith)
  first_earlier (x ∷ before) e rest zero l = (x, refl)
  first_earlier (x ∷ before) e rest (suc j) l = first_earlier before e rest j (omega arith)

  pub lowest_refused : {F : Type 0} (g : Shared F (ℕ × Unit {0}) (Result T E)) (f : F) (count : ℕ) (os : List (Result T E)) → AreResults g f count os → (fault : JobsFault E) → IsLowest os fault → IsLowestRefused g f count fault
  lowest_refused g f count os are Memory is = tt
  lowest_refused g f count os are (Refused number e) is = record {
    below = (let l = first_within is.before e is.rest in let k = ap length is.all in let n = are.len in let a = is.at in omega arith);
    refused = are.each number (Err e) (ap (λ xs. slice_get xs number) is.all ∙ (ap (slice_get (map Ok is.before ++ Err e ∷ is.rest)) is.at ∙ first_at is.before e is.rest));
    earlier = λ j l.
        let x = first_earlier is.before e is.rest j (let a = is.at in omega arith) in
        (x.0, are.each j (Ok x.0) (ap (λ xs. slice_get xs j) is.all ∙ x.1));
  }
