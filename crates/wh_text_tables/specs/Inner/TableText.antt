-- Tables and changes as parts write them: a header, and a record for each row with its count: what only proofs and private contracts use.
use Rattle.std.specs.Prelude.{◌≡◌, ◌⊎◌, ℕ, ◌+◌, List, Option, Some, ok_or, Result, Ok}
use Rattle.wh_row.specs.Records.{EachSumFits, IsFirstTooLarge}
use Rattle.wh_row.specs.Weigh.{Counted}
use Rattle.wh_text.specs.Columns.{NamedKind, kinds_of, names_of}
use Rattle.wh_text.specs.declared.columns.Kind.{Kind}
use Rattle.wh_text.specs.declared.fault.LoadFault.{LoadFault}
use Rattle.wh_text.specs.declared.fault.LoadFault.TheVariants.{Number}
use Rattle.wh_text.specs.ValueOrFault.{◌>>=◌}
use Rattle.wh_text_tables.specs.Part.{Scheme}
use Rattle.wh_text_tables.specs.declared.table.header.Content.{Content}
use Rattle.wh_text_tables.specs.declared.table.header.Counting.{Counting}
use Rattle.wh_text_tables.specs.TableText.{counting_of, entry_of, EntriesRead, texts_after, with_entry}

-- what a record by itself makes of what was read: its texts get their numbers, and its entry goes last; else its count is not allowed, or one of its cells has another form
abbrev pub entered : List Kind → Counting → EntriesRead → ℕ → List (List ℕ) → Result EntriesRead LoadFault
entered kinds count read number cells = do
  entry ← ok_or (entry_of count (texts_after count kinds read.texts cells) kinds cells) (Number number)
  Ok (with_entry read (texts_after count kinds read.texts cells) entry)

-- parts of tables or of changes, over these columns: each record by itself
abbrev pub entry_scheme : Content → List NamedKind → Scheme Counting EntriesRead
entry_scheme content columns = record { kind_of = counting_of content (names_of columns); take = entered (kinds_of columns) }

-- adding entries up ends by this fault: the sum of a row leaves i64 first at a record of this number, or else it is the fault that ended the reading
abbrev pub EndsSum : Counted → Option LoadFault → LoadFault → Type 0
EndsSum entries read fault = ((place : ℕ) × IsFirstTooLarge entries place × (fault ≡ Number (place + 2))) ⊎ (EachSumFits entries × (read ≡ Some fault))
