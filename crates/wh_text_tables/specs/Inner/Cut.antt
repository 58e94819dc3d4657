-- What only proofs and private contracts use. Where the text of a CSV part can be cut, so that its records are those of both sides.
use Rattle.std.specs.Prelude.{◌≡◌, ◌≤◌, ℕ, List, [], ◌∷◌, ◌++◌, length, take, drop}
use Rattle.csv.specs.Machine.{step}
use Rattle.csv.specs.Reading.{default_config, strip_bom}
use Rattle.csv.specs.declared.parser.State.{State}
use Rattle.csv.specs.declared.parser.State.TheVariants as st
use Rattle.wh_text_tables.specs.Records.{records_of}
use Rattle.wh_text_tables.specs.declared.cut.Standing.{Standing}
use Rattle.wh_text_tables.specs.declared.cut.Standing.TheVariants as standing

-- the state of the machine that reads CSV
abbrev pub state_of : Standing → State
state_of standing.RecordStart = st.StartRecord
state_of standing.AfterReturn = st.AfterCr
state_of standing.FieldStart = st.StartField
state_of standing.Field = st.InField
state_of standing.Quoted = st.InQuoted
state_of standing.Quote = st.AfterQuote

-- its state after these bytes
unfoldable pub state_after : State → List ℕ → State
state_after state [] = state
state_after state (byte ∷ bytes) = state_after (step default_config state byte).0 bytes

-- a record, or an empty line, ends before this place
pub record EndsRecord (text : List ℕ) (place : ℕ) : Type 0 where
  pub within : place ≤ length text
  pub between : state_after st.StartRecord (take place text) ≡ st.StartRecord

-- the records of the text are those before this place and those from it on; no byte order mark stands before the text
pub record IsCut (text : List ℕ) (place : ℕ) : Type 0 where
  pub within : place ≤ length text
  pub bare : strip_bom text ≡ text
  pub parts : records_of text ≡ records_of (take place text) ++ records_of (drop place text)
