-- What the program prints for words and what it reads, and the status that it ends with: what only proofs and private contracts use.
use Rattle.std.specs.Prelude.{◌≡◌, ℕ, Bool, true, false, List, None, Result, MatchResult}
use Rattle.wh_text.specs.declared.fault.LoadFault.TheVariants as fault
use Rattle.wh_text_bundle.specs.declared.read.ReadFault.{ReadFault}
use Rattle.wh_text_bundle.specs.declared.read.ReadFault.TheVariants.{Memory, Read, TooLong}
use Rattle.whview.specs.CheckOutput.{IsFaultShown}
use Rattle.whview.specs.Status.{status_number}
use Rattle.whview.specs.declared.answer.Answer.{Answer}
use Rattle.whview.specs.declared.command_line.Asked.{Asked}
use Rattle.whview.specs.declared.command_line.Asked.TheVariants as asked
use Rattle.whview.specs.Output.{IsMemoryTold, file_of}

-- an answer is told as it is, and want of memory where there is none
abbrev pub IsTold : {E : Type 0} → Result Answer E → List ℕ → ℕ → Type 0
IsTold answer text status = MatchResult answer (λ a. (text ≡ a.text) × (status ≡ status_number a.status)) (λ _. IsMemoryTold text status)

-- the command is `live`
abbrev pub is_live : Asked → Bool
is_live (asked.Live how input) = true
is_live command = false

-- the command is another than `live`, or names no file
abbrev pub OpensNothing : Asked → Type 0
OpensNothing (asked.Live how input) = file_of (asked.Live how input) ≡ None
OpensNothing command = Unit {0}

-- (of a call in the program) what is printed where the bytes could not be had, and the status; of want of memory nothing is
abbrev pub IsUnreadShown : ReadFault → List ℕ → ℕ → Type 0
IsUnreadShown Read text status = IsFaultShown fault.Read text status
IsUnreadShown TooLong text status = IsFaultShown fault.TooLong text status
IsUnreadShown Memory text status = ⊥
