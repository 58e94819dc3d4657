-- What the program prints for words and what it reads, and the status that it ends with.
use Rattle.std.specs.Prelude.{◌≡◌, ◌<◌, ◌≤◌, ◌++◌, ℕ, List, [], length, Bool, Option, None, Some, IfSome, IsSome, codes, option_map, true, false}
use Rattle.std.specs.List.{list_any}
use Rattle.std.specs.Str.{is_utf8}
use Rattle.clap.specs.Words.{IsAmong, subcommand_of}
use Rattle.clap.specs.declared.error.kind.ErrorKind.{ErrorKind}
use Rattle.wh_text.specs.declared.fault.LoadFault.TheVariants as fault
use Rattle.wh_text_bundle.specs.Files.{filled}
use Rattle.whview.specs.BundleFiles.{AreOfItsFiles, NamesFile}
use Rattle.whview.specs.CertifyOutput.{IsCertifyOutput}
use Rattle.whview.specs.CheckOutput.{IsCheckOutput, IsFaultShown, line}
use Rattle.whview.specs.CommandFault.{status_of_kind}
use Rattle.whview.specs.CommandLine.{IsAsked, usual_limit, whview_app, words_fault}
use Rattle.whview.specs.FirstLine.{first_line_of, after_first_line, words_in, names_input, names_most}
use Rattle.whview.specs.NightOutput.{IsNightOutput}
use Rattle.whview.specs.PlanOutput.{IsPlanOutput}
use Rattle.whview.specs.ReplayOutput.{IsReplayOutput}
use Rattle.whview.specs.Status.{status_number}
use Rattle.whview.specs.declared.command_line.Asked.{Asked}
use Rattle.whview.specs.declared.command_line.Asked.TheVariants as asked

-- ---- commands

-- what is printed of `live` where it names no file, and the status
pub record IsInputWanted (text : List ℕ) (status : ℕ) : Type 0 where
  pub printed : text ≡ line (codes "error: `live` needs `--input`")
  pub ended : status ≡ 2

-- what a command prints for the bytes of a bundle, and the status; `live` has no use for them where it names no file
abbrev pub IsCommandOutput : Asked → List ℕ → List ℕ → ℕ → Type 0
IsCommandOutput (asked.Check costs input) bytes text status = IsCheckOutput costs bytes text status
IsCommandOutput (asked.Plan costs budget input) bytes text status = IsPlanOutput costs budget.nodes bytes text status
IsCommandOutput (asked.Certify costs input) bytes text status = IsCertifyOutput costs bytes text status
IsCommandOutput (asked.Night how input) bytes text status = IsNightOutput how.print how.readers bytes text status
IsCommandOutput (asked.Replay input) bytes text status = IsReplayOutput bytes text status
IsCommandOutput (asked.Live how input) bytes text status = IsInputWanted text status

-- the file that the command reads: in place of the program's reader, or for `live` beside it
abbrev pub file_of : Asked → Option (List ℕ)
file_of (asked.Check costs input) = option_map (λ path. path.now) input
file_of (asked.Plan costs budget input) = option_map (λ path. path.now) input
file_of (asked.Certify costs input) = option_map (λ path. path.now) input
file_of (asked.Night how input) = option_map (λ path. path.now) input.file
file_of (asked.Replay input) = option_map (λ path. path.now) input.file
file_of (asked.Live how input) = option_map (λ path. path.now) input.file

-- the most bytes that the input of the command may have
abbrev pub limit_of : Asked → ℕ
limit_of (asked.Night how input) = input.limit
limit_of (asked.Replay input) = input.limit
limit_of (asked.Live how input) = input.limit
limit_of _ = usual_limit

-- the command reads rows: the headings of its bundle, where that is a file, may name further files
abbrev pub reads_rows : Asked → Bool
reads_rows (asked.Night how input) = true
reads_rows (asked.Replay input) = true
reads_rows (asked.Live how input) = true
reads_rows command = false

-- the command reads the program's reader: `live` where it names a file, and any other where it names none
abbrev pub ReadsInput : Asked → Type 0
ReadsInput (asked.Live how input) = IsSome (option_map (λ path. path.now) input.file)
ReadsInput command = file_of command ≡ None

-- ---- answers

-- it is told that memory was refused
pub record IsMemoryTold (text : List ℕ) (status : ℕ) : Type 0 where
  pub printed : text ≡ line (codes "memory")
  pub ended : status ≡ 4

-- ---- what was read

-- what reading to the end came to: all the bytes, or a read that failed
pub data Reading : Type 0 where
  Bytes : List ℕ → Reading
  Failed : Reading

-- This was read of a reader of which these bytes are known, and which had counted so many failed reads before and so many after.
-- Where no read failed it is those bytes and no others (any, where none are known), and where one did it is a failure.
abbrev pub IsReadingOf : Option (List ℕ) → ℕ → ℕ → Reading → Type 0
IsReadingOf known before after (Bytes bytes) = IfSome known (λ all. bytes ≡ all) × (after ≡ before)
IsReadingOf known before after Failed = before < after

-- this holds of what was read of a reader of which these bytes are known, with so many failed reads before and after
abbrev pub HoldsOfReading : Option (List ℕ) → ℕ → ℕ → (Reading → Type 0) → Type 0
HoldsOfReading known before after P = (reading : Reading) × IsReadingOf known before after reading × P reading

-- This holds of what may have been read of a file: any bytes, or a failure. What a file holds, and when opening or reading it fails,
-- no clause of the system's files says.
abbrev pub HoldsOfFile : (Reading → Type 0) → Type 0
HoldsOfFile P = (reading : Reading) × P reading

-- what is printed for these bytes, and the status: more than the limit are a fault, and for others it is this
pub data IsLimited (limit : ℕ) (bytes : List ℕ) (of : List ℕ → ℕ → Type 0) (text : List ℕ) (status : ℕ) : Type 0 where
  too_long : limit < length bytes → IsFaultShown fault.TooLong text status → IsLimited limit bytes of text status
  within : length bytes ≤ limit → of text status → IsLimited limit bytes of text status

-- what is printed for what was read up to a limit, and the status, where this is printed for bytes
abbrev pub IsReadAnswer : ℕ → Reading → (List ℕ → List ℕ → ℕ → Type 0) → List ℕ → ℕ → Type 0
IsReadAnswer limit (Bytes bytes) of text status = IsLimited limit bytes (of bytes) text status
IsReadAnswer limit Failed of text status = IsFaultShown fault.Read text status

-- ---- files that a bundle names

-- what is printed where a file cannot be read that a bundle names by this path, and the status
pub record IsNamedUnread (path text : List ℕ) (status : ℕ) : Type 0 where
  pub printed : text ≡ line (codes "fault read " ++ path)
  pub ended : status ≡ 3

-- What is printed for a bundle that was read from a file, and the status, where this is printed for bytes. A file that it names cannot be
-- read; or there are bytes of each, and with their lines in the places of the parts that name them the bundle is what is answered, unless it
-- is longer then than the limit. Which bytes a file holds no clause says.
pub data IsFilledAnswer (limit : ℕ) (bundle : List ℕ) (of : List ℕ → List ℕ → ℕ → Type 0) (text : List ℕ) (status : ℕ) : Type 0 where
  unread : (path : List ℕ) → NamesFile bundle path → IsNamedUnread path text status → IsFilledAnswer limit bundle of text status
  had : (files : List (List ℕ)) → AreOfItsFiles bundle files → IsLimited limit (filled bundle files) (of (filled bundle files)) text status
      → IsFilledAnswer limit bundle of text status

-- what is printed for a bundle that was read from a file, and the status: its headings may name files, or may not
abbrev pub IsBundleAnswer : Bool → ℕ → (List ℕ → List ℕ → ℕ → Type 0) → List ℕ → List ℕ → ℕ → Type 0
IsBundleAnswer true limit of bundle text status = IsFilledAnswer limit bundle of text status
IsBundleAnswer false limit of bundle text status = of bundle text status

-- what a command prints for a bundle that was read from a file, and the status
abbrev pub IsFileOutput : Asked → List ℕ → List ℕ → ℕ → Type 0
IsFileOutput command bundle text status = IsBundleAnswer (reads_rows command) (limit_of command) (IsCommandOutput command) bundle text status

-- ---- what words ask for

-- these words are no command line, or ask for help. The text is not promised, and the status is that of what is wrong with them
pub record IsRefused (words : List (List ℕ)) (status : ℕ) : Type 0 where
  pub kind : ErrorKind
  pub found : IsAmong kind (words_fault words)
  pub ended : status ≡ status_number (status_of_kind kind)

-- nothing is wrong with these words, and they ask for this command
pub record AskFor (words : List (List ℕ)) (command : Asked) : Type 0 where
  pub taken : words_fault words ≡ []
  pub asked : IsAsked (subcommand_of whview_app words) command

-- what is printed for these words, and the status, where this is printed for a command
pub data IsWordsAnswer (words : List (List ℕ)) (of : Asked → List ℕ → ℕ → Type 0) (text : List ℕ) (status : ℕ) : Type 0 where
  refused : IsRefused words status → IsWordsAnswer words of text status
  answered : (command : Asked) → AskFor words command → of command text status → IsWordsAnswer words of text status

-- ---- words that were handed in

-- what is printed of a command where this was read of the program's reader; of a file, where one is named, anything may have been
abbrev pub IsSourceAnswer : Asked → Option (List ℕ) → Reading → List ℕ → ℕ → Type 0
IsSourceAnswer command None reading text status = IsReadAnswer (limit_of command) reading (IsCommandOutput command) text status
IsSourceAnswer command (Some path) reading text status = HoldsOfFile (λ own. IsReadAnswer (limit_of command) own (IsFileOutput command) text status)

-- what is printed of `live` where it names this file or none: that it needs one. Where it names one, there is no single answer
abbrev pub IsUnopened : Option (List ℕ) → List ℕ → ℕ → Type 0
IsUnopened None text status = IsInputWanted text status
IsUnopened (Some path) text status = ⊥

-- what is printed of a command that was handed in, and the status, where this was read of the program's reader
abbrev pub IsAskedOutput : Asked → Reading → List ℕ → ℕ → Type 0
IsAskedOutput (asked.Live how input) reading text status = IsUnopened (file_of (asked.Live how input)) text status
IsAskedOutput command reading text status = IsSourceAnswer command (file_of command) reading text status

-- what the program prints for words that were handed in, and the status, where this was read of its reader
abbrev pub IsHandedOutput : List (List ℕ) → Reading → List ℕ → ℕ → Type 0
IsHandedOutput words reading text status = IsWordsAnswer words (λ command. IsAskedOutput command reading) text status

-- the words ask for a command that reads the program's reader
abbrev pub AskToRead : List (List ℕ) → Type 0
AskToRead words = (command : Asked) × AskFor words command × ReadsInput command

-- ---- words on the first line

-- what the program prints for these bytes, whose first line gives the words, and the status
pub data IsLineAnswer (input text : List ℕ) (status : ℕ) : Type 0 where
  not_text : is_utf8 (first_line_of input) ≡ false → text ≡ line (codes "fault words") → status ≡ 2 → IsLineAnswer input text status
  names_a_file : is_utf8 (first_line_of input) ≡ true → list_any names_input (words_in (first_line_of input)) ≡ true
      → text ≡ line (codes "error: `--input` cannot stand in the words of an input") → status ≡ 2 → IsLineAnswer input text status
  names_a_limit : is_utf8 (first_line_of input) ≡ true → list_any names_input (words_in (first_line_of input)) ≡ false
      → list_any names_most (words_in (first_line_of input)) ≡ true
      → text ≡ line (codes "error: `--most` cannot stand in the words of an input") → status ≡ 2 → IsLineAnswer input text status
  of_words : is_utf8 (first_line_of input) ≡ true → list_any names_input (words_in (first_line_of input)) ≡ false
      → list_any names_most (words_in (first_line_of input)) ≡ false
      → IsWordsAnswer (words_in (first_line_of input)) (λ command. IsCommandOutput command (after_first_line input)) text status → IsLineAnswer input text status

-- What the program prints where it is handed no words, and the status, where this was read of its reader. As it is read before its words
-- are known, the limit is the usual one.
abbrev pub IsInputOutput : Reading → List ℕ → ℕ → Type 0
IsInputOutput reading text status = IsReadAnswer usual_limit reading IsLineAnswer text status
