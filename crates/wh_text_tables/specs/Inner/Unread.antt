-- What a reader of records shows: how many it gave, and the records that are left: what only proofs and private contracts use.
use Rattle.std.specs.Prelude.{◌≡◌, ℕ, ◌+◌, ◌^◌, ◌<◌, Bool, false, List, ◌∷◌, length, Option, Some, IsSome}
use denote.Ref.{Bor}
use Rattle.csv.specs.Reading.{Ready, default_config, reader_config, reader_trim, source_of}
use Rattle.csv.specs.declared.reader.Reader.{Reader}
use Rattle.csv.specs.declared.reader.Trim.TheVariants as trim
use Rattle.csv.specs.declared.error.ErrorKind.{ErrorKind}
use Rattle.csv.specs.declared.error.ErrorKind.TheVariants as kind
use Rattle.wh_text.specs.declared.fault.LoadFault.{LoadFault}
use Rattle.wh_text.specs.declared.fault.LoadFault.TheVariants.{Csv, Memory}
use Rattle.wh_text_tables.specs.Unread.{Unread, left_of}

-- it gave these cells as the next record
pub record Gives (old : Unread) (cells : List (List ℕ)) (new : Unread) : Type 0 where
  pub next : old.left ≡ cells ∷ new.left
  pub counted : new.given ≡ old.given + 1

-- the next record has this fault, among those of a record by its number and cells
pub record FailsNext (old : Unread) (faults : ℕ → List (List ℕ) → Option LoadFault) (fault : LoadFault) : Type 0 where
  pub cells : List (List ℕ)
  pub rest : List (List (List ℕ))
  pub next : old.left ≡ cells ∷ rest
  pub first : faults (old.given + 1) cells ≡ Some fault

-- what an error of the `csv` crate says of the record of this number: a cell is not UTF-8, or there was no memory
abbrev pub read_fault : ℕ → ErrorKind → LoadFault
read_fault number (kind.Utf8 position error) = Csv number
read_fault number (kind.Io error) = Memory
read_fault number (kind.UnequalLengths position expected found) = Memory
read_fault number (kind.Serialize text) = Memory
read_fault number (kind.Deserialize position error) = Memory
read_fault number kind.OutOfMemory = Memory

-- how the reader was set up, and that its bytes are known
pub record IsReading (reader : Reader (Bor (List ℕ))) : Type 0 where
  pub config : reader_config reader ≡ default_config
  pub trims : reader_trim reader ≡ trim.None
  pub ready : Ready reader
  pub known : IsSome (source_of (λ slice. Some slice.now) reader)

-- it reads unless it has ended, and can count the records that are left
pub record IsCounted (ended : Bool) (reader : Reader (Bor (List ℕ))) (given : ℕ) : Type 0 where
  pub reading : ended ≡ false → IsReading reader
  pub fits : given + length (left_of ended reader) + 1 < 2 ^ 64
