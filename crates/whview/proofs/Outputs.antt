-- What the program prints, from what its parts answer.
use Rattle.std.proofs.Common.{◌≡◌, ◌≢◌, ◌≤◌, ◌<◌, inl, inr, ℕ, zero, suc, arith, List, [], ◌∷◌, Bool, true, false, ◌||◌, Option, Some, None, Result, Ok, Err, length, refl, sym, ap, subst, ◌∙◌, ⊎_elim}
use Rattle.std.specs.Prelude.{IfOk, IfSome, IsErrOf, MatchResult, OnOk, map}
use Rattle.std.specs.Borrow.{Bor}
use Rattle.std.specs.List.{list_any}
use Rattle.wh_text.specs.declared.fault.LoadFault.{LoadFault}
use Rattle.wh_text.specs.declared.fault.LoadFault.TheVariants as fault
use Rattle.wh_text_bundle.specs.declared.read.ReadFault.{ReadFault}
use Rattle.wh_text_bundle.specs.declared.read.ReadFault.TheVariants as reading
use Rattle.whview.specs.BundleFiles.{AreFilled}
use Rattle.whview.specs.CheckOutput.{IsFaultShown}
use Rattle.whview.specs.CommandFault.{FailsAs, status_of}
use Rattle.whview.specs.CommandLine.{words_fault}
use Rattle.whview.specs.FirstLine.{words_in, names_input, names_most}
use Rattle.whview.specs.Output.{Bytes, Failed, HoldsOfFile, HoldsOfReading, IsAskedOutput, IsBundleAnswer, IsCommandOutput, IsFileOutput, IsFilledAnswer, IsHandedOutput, IsInputWanted, IsReadAnswer, IsRefused, IsSourceAnswer, IsUnopened, Reading, ReadsInput, file_of, had, limit_of, reads_rows, refused, too_long, unread, within}
use Rattle.whview.specs.Inner.BundleFiles.{IsBundleFault, IsFileFaultShown, IsUnread}
use Rattle.whview.specs.Inner.Output.{IsUnreadShown, OpensNothing, is_live}
use Rattle.whview.specs.Status.{status_number}
use Rattle.whview.specs.declared.answer.Answer.{Answer}
use Rattle.whview.specs.declared.command_line.Asked.{Asked}
use Rattle.whview.specs.declared.command_line.Asked.TheVariants as asked
use Rattle.whview.specs.declared.command_line.fault.CommandFault.{CommandFault}
use Rattle.whview.specs.declared.command_line.fault.CommandFault.TheVariants.{Memory}
use Rattle.whview.specs.declared.files.FileFault.{FileFault}
use Rattle.whview.specs.declared.files.FileFault.TheVariants.{Input, Named}

pub refused_as : (words : List (List ℕ)) (f : CommandFault) (status : ℕ) → FailsAs (words_fault words) f → f ≢ Memory → status ≡ status_number (status_of f) → IsRefused words status
refused_as words f status fails told ended =
    ⊎_elim
    (λ memory. absurd (told memory))
    (λ k. record { kind = k.0; found = k.1; ended = ended ∙ ap status_number k.2 })
    fails

-- ---- what was read

pub longer : (n : ℕ) → (xs : List ℕ) × (n < length xs)
longer zero = (0 ∷ [], omega arith)
longer (suc n) = let shorter = longer n in (0 ∷ shorter.0, let l : n < length shorter.0 = shorter.1 in omega arith)

-- there are bytes of this reader, more than a limit
pub many_read : (known : Option (List ℕ)) (limit : ℕ) → IfSome known (λ all. limit < length all) → (bytes : List ℕ) × IfSome known (λ all. bytes ≡ all) × (limit < length bytes)
many_read (Some all) limit many = (all, refl, many)
many_read None limit many = let long = longer limit in (long.0, tt, long.1)

-- an answer to what was read, from the reader's bytes or from why they could not be had
pub answers_reading : {B : Type 0} (read : Result B ReadFault) (items : B → List ℕ) (len : B → ℕ) (same : (v : B) → len v ≡ length (items v)) (known : Option (List ℕ)) (before after limit : ℕ) (of : List ℕ → List ℕ → ℕ → Type 0) (text : List ℕ) (status : ℕ)
    → IfOk read (λ v. len v ≤ limit) → IfOk read (λ v. IfSome known (λ all. items v ≡ all)) → (IsErrOf read reading.TooLong → IfSome known (λ all. limit < length all))
    → (IsErrOf read reading.Read → before < after) → (¬ (IsErrOf read reading.Read) → after ≡ before)
    → MatchResult read (λ v. of (items v) text status) (λ fault. IsUnreadShown fault text status) → HoldsOfReading known before after (λ r. IsReadAnswer limit r of text status)
answers_reading (Ok v) items len same known before after limit of text status fits all long failed kept is =
    (Bytes (items v), (all, kept (λ e. cc)), within (subst (λ n. n ≤ limit) (same v) fits) is)
answers_reading (Err reading.Read) items len same known before after limit of text status fits all long failed kept is = (Failed, failed refl, is)
answers_reading (Err reading.TooLong) items len same known before after limit of text status fits all long failed kept is =
    let many = many_read known limit (long refl) in (Bytes many.0, (many.1, kept (λ e. cc)), too_long many.2 is)
answers_reading (Err reading.Memory) items len same known before after limit of text status fits all long failed kept is = absurd is

-- the same where the limit is known by another number
pub answers_within : {B : Type 0} (limit most : ℕ) → limit ≡ most → (read : Result B ReadFault) (items : B → List ℕ) (len : B → ℕ) (same : (v : B) → len v ≡ length (items v)) (known : Option (List ℕ)) (before after : ℕ) (of : List ℕ → List ℕ → ℕ → Type 0) (text : List ℕ) (status : ℕ)
    → IfOk read (λ v. len v ≤ limit) → IfOk read (λ v. IfSome known (λ all. items v ≡ all)) → (IsErrOf read reading.TooLong → IfSome known (λ all. limit < length all))
    → (IsErrOf read reading.Read → before < after) → (¬ (IsErrOf read reading.Read) → after ≡ before)
    → MatchResult read (λ v. of (items v) text status) (λ fault. IsUnreadShown fault text status) → HoldsOfReading known before after (λ r. IsReadAnswer most r of text status)
answers_within limit most e read items len same known before after of text status fits all long failed kept is =
    subst (λ n. HoldsOfReading known before after (λ r. IsReadAnswer n r of text status)) e
    (answers_reading read items len same known before after limit of text status fits all long failed kept is)

-- ---- files

-- what is printed for a bundle and for those files that it names
abbrev pub HoldsOfFiles : ℕ → (List ℕ → List ℕ → ℕ → Type 0) → List ℕ → ℕ → Type 0
HoldsOfFiles limit of text status = HoldsOfFile (λ reading. IsReadAnswer limit reading (λ bundle. IsFilledAnswer limit bundle of) text status)

pub filled_answer : (limit : ℕ) (of : List ℕ → List ℕ → ℕ → Type 0) (bytes text : List ℕ) (status : ℕ) → AreFilled limit bytes → of bytes text status → HoldsOfFiles limit of text status
filled_answer limit of bytes text status h is =
    (Bytes h.bundle, within h.fits (had h.files h.of (within (subst (λ bs. length bs ≤ limit) h.is h.within) (subst (λ bs. of bs text status) h.is is))))

unread_bundle : (limit : ℕ) (of : List ℕ → List ℕ → ℕ → Type 0) (f : LoadFault) (text : List ℕ) (status : ℕ) → IsUnread f → f ≢ fault.Memory → IsFaultShown f text status → HoldsOfFiles limit of text status
unread_bundle limit of f text status (inl read) told shown = (Failed, subst (λ x. IsFaultShown x text status) read shown)
unread_bundle limit of f text status (inr (inl long)) told shown =
    let many = longer limit in (Bytes many.0, too_long many.1 (subst (λ x. IsFaultShown x text status) long shown))
unread_bundle limit of f text status (inr (inr memory)) told shown = absurd (told memory)

pub bundle_fault : (limit : ℕ) (of : List ℕ → List ℕ → ℕ → Type 0) (f : FileFault) → IsBundleFault limit f → f ≢ Input fault.Memory → (text : List ℕ) (status : ℕ) → IsFileFaultShown f text status → HoldsOfFiles limit of text status
bundle_fault limit of (Named path) why told text status shown = (Bytes why.0, within why.1 (unread path.items why.2 shown))
bundle_fault limit of (Input f) why told text status shown = unread_bundle limit of f text status why (λ memory. told (ap Input memory)) shown

pub shown_fault : {E : Type 0} (answer : Result Answer E) (limit : ℕ) (of : List ℕ → List ℕ → ℕ → Type 0) (f : FileFault) → IsBundleFault limit f
    → IfOk answer (λ a. IsFileFaultShown f a.text (status_number a.status)) → OnOk answer (f ≢ Input fault.Memory) → IfOk answer (λ a. HoldsOfFiles limit of a.text (status_number a.status))
shown_fault (Ok a) limit of f why shown told = bundle_fault limit of f why told a.text (status_number a.status) shown
shown_fault (Err e) limit of f why shown told = tt

-- a file of which the headings may name others, or may not
pub by_rows : (command : Asked) (text : List ℕ) (status : ℕ) → reads_rows command ≡ true → HoldsOfFiles (limit_of command) (IsCommandOutput command) text status
    → HoldsOfFile (λ reading. IsReadAnswer (limit_of command) reading (IsFileOutput command) text status)
by_rows command text status e holds =
    subst (λ b. HoldsOfFile (λ reading. IsReadAnswer (limit_of command) reading (IsBundleAnswer b (limit_of command) (IsCommandOutput command)) text status)) (sym e) holds

pub by_itself : (command : Asked) (text : List ℕ) (status : ℕ) → reads_rows command ≡ false → HoldsOfFile (λ reading. IsReadAnswer (limit_of command) reading (IsCommandOutput command) text status)
    → HoldsOfFile (λ reading. IsReadAnswer (limit_of command) reading (IsFileOutput command) text status)
by_itself command text status e holds =
    subst (λ b. HoldsOfFile (λ reading. IsReadAnswer (limit_of command) reading (IsBundleAnswer b (limit_of command) (IsCommandOutput command)) text status)) (sym e) holds

-- ---- words that were handed in

-- bytes that a reader may have, of which these are known
pub some_bytes : (known : Option (List ℕ)) → (bytes : List ℕ) × IfSome known (λ all. bytes ≡ all)
some_bytes (Some all) = (all, refl)
some_bytes None = ([], tt)

-- what holds whatever was read, of a reader that was left unread
pub left_unread : (known : Option (List ℕ)) (faults : ℕ) (P : Reading → Type 0) → ((reading : Reading) → P reading) → HoldsOfReading known faults faults P
left_unread known faults P holds = let some = some_bytes known in (Bytes some.0, (some.1, refl), holds (Bytes some.0))

-- what is printed of a command other than `live`
of_source : (command : Asked) (reading : Reading) (text : List ℕ) (status : ℕ) → is_live command ≡ false
    → IsSourceAnswer command (file_of command) reading text status → IsAskedOutput command reading text status
of_source (asked.Check costs input) reading text status e is = is
of_source (asked.Plan costs budget input) reading text status e is = is
of_source (asked.Certify costs input) reading text status e is = is
of_source (asked.Night how input) reading text status e is = is
of_source (asked.Replay input) reading text status e is = is
of_source (asked.Live how input) reading text status e is = let bad : true ≡ false = e in cc

unopened : (file : Option (List ℕ)) (text : List ℕ) (status : ℕ) → file ≡ None → IsInputWanted text status → IsUnopened file text status
unopened None text status e is = is
unopened (Some path) text status e is = let bad : ⊥ = cc in absurd bad

-- of `live` that names no file
pub from_none : (command : Asked) (known : Option (List ℕ)) (faults : ℕ) (text : List ℕ) (status : ℕ) → is_live command ≡ true → OpensNothing command
    → IsInputWanted text status → HoldsOfReading known faults faults (λ reading. IsAskedOutput command reading text status)
from_none (asked.Live how input) known faults text status e nothing is =
    left_unread known faults (λ reading. IsAskedOutput (asked.Live how input) reading text status) (λ reading. unopened (file_of (asked.Live how input)) text status nothing is)
from_none (asked.Check costs input) known faults text status e nothing is = let bad : false ≡ true = e in cc
from_none (asked.Plan costs budget input) known faults text status e nothing is = let bad : false ≡ true = e in cc
from_none (asked.Certify costs input) known faults text status e nothing is = let bad : false ≡ true = e in cc
from_none (asked.Night how input) known faults text status e nothing is = let bad : false ≡ true = e in cc
from_none (asked.Replay input) known faults text status e nothing is = let bad : false ≡ true = e in cc

pub from_file : (command : Asked) (known : Option (List ℕ)) (faults : ℕ) (text : List ℕ) (status : ℕ) (path : List ℕ) → is_live command ≡ false → Some path ≡ file_of command
    → HoldsOfFile (λ own. IsReadAnswer (limit_of command) own (IsFileOutput command) text status) → HoldsOfReading known faults faults (λ reading. IsAskedOutput command reading text status)
from_file command known faults text status path other is holds =
    left_unread known faults (λ reading. IsAskedOutput command reading text status)
    (λ reading. of_source command reading text status other (subst (λ file. IsSourceAnswer command file reading text status) is holds))

pub from_reader : (command : Asked) (known : Option (List ℕ)) (before after : ℕ) (text : List ℕ) (status : ℕ) → is_live command ≡ false → None ≡ file_of command
    → HoldsOfReading known before after (λ own. IsReadAnswer (limit_of command) own (IsCommandOutput command) text status) → HoldsOfReading known before after (λ reading. IsAskedOutput command reading text status)
from_reader command known before after text status other is holds =
    (holds.0, holds.1, of_source command holds.0 text status other (subst (λ file. IsSourceAnswer command file holds.0 text status) is holds.2))

-- a command other than `live` that names no file reads the program's reader
pub reads_input : (command : Asked) → is_live command ≡ false → None ≡ file_of command → ReadsInput command
reads_input (asked.Check costs input) e none = sym none
reads_input (asked.Plan costs budget input) e none = sym none
reads_input (asked.Certify costs input) e none = sym none
reads_input (asked.Night how input) e none = sym none
reads_input (asked.Replay input) e none = sym none
reads_input (asked.Live how input) e none = let bad : true ≡ false = e in cc

-- of words that are no command line
pub of_refusal : (words : List (List ℕ)) (known : Option (List ℕ)) (faults : ℕ) (text : List ℕ) (status : ℕ) → IsRefused words status
    → HoldsOfReading known faults faults (λ reading. IsHandedOutput words reading text status)
of_refusal words known faults text status is = left_unread known faults (λ reading. IsHandedOutput words reading text status) (λ reading. refused is)

-- ---- words on the first line

pub list_any-map : {X Y : Type 0} (p : Y → Bool) (f : X → Y) (xs : List X) → list_any p (map f xs) ≡ list_any (λ x. p (f x)) xs
list_any-map p f [] = refl
list_any-map p f (x ∷ xs) = ap (λ b. p (f x) || b) (list_any-map p f xs)

-- whether the line names a file, or a limit, by the words that the code has
pub names_file : (line : List ℕ) (words : List (Bor (List ℕ))) (b : Bool) → map (λ w. w.now) words ≡ words_in line → list_any (λ w. names_input w.now) words ≡ b → list_any names_input (words_in line) ≡ b
names_file line words b same named = ap (list_any names_input) (sym same) ∙ list_any-map names_input (λ w. w.now) words ∙ named

pub names_limit : (line : List ℕ) (words : List (Bor (List ℕ))) (b : Bool) → map (λ w. w.now) words ≡ words_in line → list_any (λ w. names_most w.now) words ≡ b → list_any names_most (words_in line) ≡ b
names_limit line words b same named = ap (list_any names_most) (sym same) ∙ list_any-map names_most (λ w. w.now) words ∙ named
