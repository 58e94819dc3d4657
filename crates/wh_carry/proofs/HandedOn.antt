-- A refusal that is handed on as it came.
use Rattle.std.proofs.Common.{◌≡◌, sym, subst}
use Rattle.std.specs.Prelude.{Result, Ok, Err, IfErr}
use Rattle.std.specs.Result.{IsErr, IsErrAnd}

pub handed_on : {T : Type 0} {E : Type 0} (P : E → Type 0) (r : Result T E) (x : E) → IsErr r × IsErrAnd r (λ y. y ≡ x) → P x → IfErr r P
handed_on P (Ok t) x h p = tt
handed_on P (Err y) x h p = subst P (sym h.1) p
