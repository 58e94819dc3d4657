-- What the program has written, from what it was to tell.
use Rattle.std.proofs.Common.{ℕ, ◌⊎◌, List, Result, Ok, Err, inl, inr, subst, sym}
use Rattle.std.specs.Prelude.{IfOk}
use Rattle.whview.specs.Output.{IsMemoryTold}
use Rattle.whview.specs.Inner.Output.{IsTold}
use Rattle.whview.specs.Status.{status_number}
use Rattle.whview.specs.declared.answer.Answer.{Answer}

pub memory_or : {E : Type 0} (answer : Result Answer E) (P : List ℕ → ℕ → Type 0) (text : List ℕ) (status : ℕ)
    → IfOk answer (λ a. P a.text (status_number a.status)) → IsTold answer text status → IsMemoryTold text status ⊎ P text status
memory_or (Ok answer) P text status is told = inr (subst (λ s. P text s) (sym told.1) (subst (λ t. P t (status_number answer.status)) (sym told.0) is))
memory_or (Err e) P text status is told = inl told
