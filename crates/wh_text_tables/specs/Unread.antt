-- What a reader of records shows: how many it gave, and the records that are left.
use Rattle.std.specs.Prelude.{ℕ, ◌+◌, Bool, true, false, List, [], length, Option, Some, None}
use denote.Ref.{Bor}
use Rattle.csv.specs.Reading.{default_config, reader_state, records_from, source_of}
use Rattle.csv.specs.declared.parser.State.{State}
use Rattle.csv.specs.declared.reader.Reader.{Reader}

pub record Unread : Type 0 where
  pub given : ℕ
  pub left : List (List (List ℕ))

-- the records of these bytes, where they are known, from this state of the machine that reads CSV
unfoldable pub records_after : State → Option (List ℕ) → List (List (List ℕ))
records_after state None = []
records_after state (Some bytes) = records_from default_config (length bytes + 1) state bytes

-- the records that a reader of a slice has left: none once it has ended
abbrev pub left_of : Bool → Reader (Bor (List ℕ)) → List (List (List ℕ))
left_of true reader = []
left_of false reader = records_after (reader_state reader) (source_of (λ slice. Some slice.now) reader)
