-- What the program comes to for a command and for words that were handed in, from what its parts answer.
use Rattle.std.proofs.Common.{◌≡◌, ℕ, List, Option, Some, Result, inl, inr, refl, sym, subst, ⊎_elim}
use Rattle.std.specs.Prelude.{IfOk, IsSome}
use Rattle.std.specs.Io.KnownBytes.{Appends}
use Rattle.whview.specs.Inner.LiveOutput.{IsAskedAnswer, IsLiveAnswer, IsLiveSo, by_talk, once}
use Rattle.whview.specs.Inner.Output.{IsTold}
use Rattle.whview.specs.LiveOutput.{IsHandedAnswer, IsLiveTold, a_talk, one_answer}
use Rattle.whview.specs.Output.{AskFor, HoldsOfReading, IsAskedOutput, IsHandedOutput, ReadsInput, answered, file_of, limit_of}
use Rattle.whview.specs.Status.{status_number}
use Rattle.whview.specs.declared.answer.Answer.{Answer}
use Rattle.whview.specs.declared.command_line.Asked.{Asked}
use Rattle.whview.specs.declared.command_line.Asked.TheVariants as asked
use Rattle.whview.specs.declared.live.ToOpen.{ToOpen}
use Rattle.whview.specs.declared.live_options.LiveOptions.{LiveOptions}
use Rattle.whview.proofs.Told.{memory_or}

-- ---- a command

-- a command that opens a warehouse
pub by_warehouse : (warehouse : ToOpen) (command : Asked) (known : Option (List ℕ)) (faults failed : ℕ) (before after : Option (List ℕ)) (status : ℕ)
    → IsLiveSo warehouse.how command → file_of command ≡ Some warehouse.from.path.now → limit_of command ≡ warehouse.from.limit
    → IsLiveAnswer warehouse.how warehouse.from.limit known faults failed before after status → IsAskedAnswer command known faults failed before after status
by_warehouse warehouse (asked.Live how input) known faults failed before after status is names most (inl memory) = once memory.text memory.written (inl memory.told)
by_warehouse warehouse (asked.Live how input) known faults failed before after status is names most (inr live) =
    by_talk how input warehouse.from.path.now refl names
    (subst (λ h. IsLiveTold h input.limit known faults failed before after status) (sym is) (subst (λ n. IsLiveTold warehouse.how n known faults failed before after status) (sym most) live))
by_warehouse warehouse (asked.Check costs input) known faults failed before after status is names most live = absurd is
by_warehouse warehouse (asked.Plan costs budget input) known faults failed before after status is names most live = absurd is
by_warehouse warehouse (asked.Certify costs input) known faults failed before after status is names most live = absurd is
by_warehouse warehouse (asked.Night how input) known faults failed before after status is names most live = absurd is
by_warehouse warehouse (asked.Replay input) known faults failed before after status is names most live = absurd is

named : (file : Option (List ℕ)) (path : List ℕ) → file ≡ Some path → IsSome file
named file path e = subst IsSome (sym e) refl

-- it reads the program's reader
pub opens_reads : (how : LiveOptions) (command : Asked) (path : List ℕ) → IsLiveSo how command → file_of command ≡ Some path → ReadsInput command
opens_reads how (asked.Live own input) path is names = named (file_of (asked.Live own input)) path names
opens_reads how (asked.Check costs input) path is names = absurd is
opens_reads how (asked.Plan costs budget input) path is names = absurd is
opens_reads how (asked.Certify costs input) path is names = absurd is
opens_reads how (asked.Night own input) path is names = absurd is
opens_reads how (asked.Replay input) path is names = absurd is

-- a command that has one answer
pub by_answer : {E : Type 0} (command : Asked) (answer : Result Answer E) (known : Option (List ℕ)) (faults failed : ℕ) (before after : Option (List ℕ)) (status : ℕ)
    → IfOk answer (λ a. HoldsOfReading known faults failed (λ reading. IsAskedOutput command reading a.text (status_number a.status)))
    → (text : List ℕ) → Appends before after text → IsTold answer text status → IsAskedAnswer command known faults failed before after status
by_answer command answer known faults failed before after status holds text written is =
    once text written (memory_or answer (λ t n. HoldsOfReading known faults failed (λ reading. IsAskedOutput command reading t n)) text status holds is)

-- ---- words

handed_reading : (words : List (List ℕ)) (command : Asked) (known : Option (List ℕ)) (faults failed : ℕ) (text : List ℕ) (status : ℕ) → AskFor words command
    → HoldsOfReading known faults failed (λ reading. IsAskedOutput command reading text status) → HoldsOfReading known faults failed (λ reading. IsHandedOutput words reading text status)
handed_reading words command known faults failed text status ask holds = (holds.0, holds.1, answered command ask holds.2)

-- words that ask for a command
pub by_command : (words : List (List ℕ)) (command : Asked) (known : Option (List ℕ)) (faults failed : ℕ) (before after : Option (List ℕ)) (status : ℕ) → AskFor words command
    → IsAskedAnswer command known faults failed before after status → IsHandedAnswer words known faults failed before after status
by_command words command known faults failed before after status ask (once text written is) =
    one_answer text written (⊎_elim (λ memory. inl memory) (λ holds. inr (handed_reading words command known faults failed text status ask holds)) is)
by_command words command known faults failed before after status ask (by_talk how input path same names live) =
    a_talk how input path (subst (AskFor words) same ask) names live

-- words that are no command line
pub by_refusal : {E : Type 0} (words : List (List ℕ)) (answer : Result Answer E) (known : Option (List ℕ)) (faults failed : ℕ) (before after : Option (List ℕ)) (status : ℕ)
    → IfOk answer (λ a. HoldsOfReading known faults failed (λ reading. IsHandedOutput words reading a.text (status_number a.status)))
    → (text : List ℕ) → Appends before after text → IsTold answer text status → IsHandedAnswer words known faults failed before after status
by_refusal words answer known faults failed before after status holds text written is =
    one_answer text written (memory_or answer (λ t n. HoldsOfReading known faults failed (λ reading. IsHandedOutput words reading t n)) text status holds is)
