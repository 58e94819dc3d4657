-- What only proofs and private contracts use. The rows of a table as they are written, and a text in parts.
use Rattle.std.specs.Prelude.{ℕ, List, [], map, Result, Ok, Err, IsOk}
use Rattle.std.specs.Global.{Vec}
use Rattle.std.specs.List.{flat_map, AllByRecursion}
use Rattle.csv.specs.Writing.{default_writer, row_text}
use Rattle.wh_row.specs.Weigh.{Counted}
use Rattle.wh_text.specs.Columns.{NamedKind, kinds_of}
use Rattle.wh_text_tables.specs.TableWritten.{record_of}

-- the text of rows: a line for each
abbrev pub rows_text : List NamedKind → List (List ℕ) → Counted → List ℕ
rows_text columns texts rows = flat_map (row_text default_writer) (map (record_of texts (kinds_of columns)) rows)

-- a text that was written; nothing where memory was refused for it
abbrev pub written_text : {E : Type 0} → Result (Vec ℕ) E → List ℕ
written_text (Ok text) = text.items
written_text (Err refused) = []

-- texts one after another
abbrev pub whole_text : {E : Type 0} → List (Result (Vec ℕ) E) → List ℕ
whole_text texts = flat_map written_text texts

-- memory was refused for none of these texts
abbrev pub AreDone : {E : Type 0} → List (Result (Vec ℕ) E) → Type 0
AreDone texts = AllByRecursion IsOk texts
