-- A page of a view that is asked for without a bookmark, where the row that it begins behind is written as cells.
use Rattle.std.specs.Prelude.{◌≡◌, ◌==◌, ℕ, ℤ, List, ◌∷◌, ◌++◌, codes, slice_get, Option, Some, None, ok_or, option_and_then, option_map, unwrap_or, length, Ok, Err, Result, if◌then◌else◌}
use Rattle.std.specs.List.{flat_map}
use Rattle.wh_core.specs.Log.{Log}
use Rattle.wh_core.specs.Nights.{Setup}
use Rattle.wh_core.specs.Replies.{IsPageReply}
use Rattle.wh_core.specs.declared.reply.Reply.{Reply}
use Rattle.wh_row.specs.Bag.{Bag, size, written}
use Rattle.wh_row.specs.Row.{Row}
use Rattle.wh_text.specs.Columns.{NamedKind}
use Rattle.wh_text.specs.ValueOrFault.{◌>>=◌}
use Rattle.wh_text.specs.declared.fault.LoadFault.{LoadFault}
use Rattle.wh_text.specs.declared.fault.LoadFault.TheVariants as fault
use Rattle.wh_text_catalogue.specs.Definitions.{ViewOf}
use Rattle.wh_text_catalogue.specs.FormulaKinds.{Texts}
use Rattle.wh_text_tables.specs.TableRead.{table_gives}
use Rattle.wh_stay.specs.Standing.{StandingOf}

-- the name of a column behind a comma
abbrev pub name_behind_comma : NamedKind → List ℕ
name_behind_comma column = 44 ∷ column.name

-- the text of a table of these columns with one record, of count 1 and these cells
abbrev pub one_record : List NamedKind → List ℕ → List ℕ
one_record columns cells = codes "#" ++ flat_map name_behind_comma columns ++ 10 ∷ codes "1," ++ cells

-- the row of a table of one record; where it has more, record 3 is one too many
abbrev pub sole_row : Bag → Result Row LoadFault
sole_row table = if size table == 1 then ok_or (option_map (λ (entry : Row × ℤ). entry.0) (slice_get (written table) 0)) (fault.Csv 3) else Err (fault.Csv 3)

-- The row that cells name over these columns, to a dictionary of these texts: that of the table with this one record. A text that is new has
-- the number that it would get if a night brought it now
abbrev pub row_named : List NamedKind → Texts → List ℕ → Result Row LoadFault
row_named columns texts cells = do
  read ← table_gives columns texts (one_record columns cells)
  sole_row read.0

abbrev pub row_over : Option ViewOf → Texts → List ℕ → Result (Option Row) LoadFault
row_over None texts cells = Ok None
row_over (Some view) texts cells = do
  row ← row_named view.columns texts cells
  Ok (Some row)

-- the row that a page of this view begins behind, if cells are given: none over a view that is not there, whatever the cells
abbrev pub row_asked : StandingOf → Option ℕ → Option (List ℕ) → Result (Option Row) LoadFault
row_asked w view None = Ok None
row_asked w view (Some cells) = row_over (option_and_then (slice_get w.views) view) w.texts cells

-- What is told of a page of a view, from its beginning or behind the row of these cells, after what was done and over what stands: the fault
-- of the cells, or what the machine replies. A name that is no view's stands for the number that comes after them. Memory may be refused
-- before the machine is asked
pub data IsPageTold (s : Setup) (log : Log) (w : StandingOf) (desk : ℕ) (view : Option ℕ) (limit : ℕ) (cells : Option (List ℕ)) : Result Reply LoadFault → Type 0 where
  is_replied : (after : Option Row) (r : Reply) → row_asked w view cells ≡ Ok after → IsPageReply s log desk (unwrap_or view (length w.names)) limit after r
      → IsPageTold s log w desk view limit cells (Ok r)
  cells_have_a_fault : (f : LoadFault) → row_asked w view cells ≡ Err f → IsPageTold s log w desk view limit cells (Err f)
  cells_want_memory : IsPageTold s log w desk view limit cells (Err fault.Memory)
