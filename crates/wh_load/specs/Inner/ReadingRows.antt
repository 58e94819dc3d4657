-- The rows of base views: what only proofs and private contracts use.
use Rattle.std.specs.Prelude.{ℕ, List, Option, None, Some, IfSome, slice_get}
use Rattle.wh_dag.specs.Catalog.{DefinitionOf}
use Rattle.wh_dag.specs.Written.{name_of}
use Rattle.wh_text_bundle.specs.Text.{text_of}
use Rattle.wh_text_bundle.specs.declared.bundle.part.Part.{Part}
use Rattle.wh_text_catalogue.specs.Definitions.{ViewOf}
use Rattle.wh_text_tables.specs.TableRead.{IsAhead}
use Rattle.wh_text_tables.specs.declared.table.header.Content.{Content}
use Rattle.wh_text_tables.specs.declared.table.header.Content.TheVariants as content
use Rattle.wh_text_tables.specs.declared.table.rows.RowsRead.{RowsRead}
use Rattle.wh_load.specs.ReadingNight.{ChangeRows, Rows, TableRows, rows_found}
use Rattle.wh_load.specs.declared.reading.ahead.ViewAhead.{ViewAhead}
use Rattle.wh_load.specs.declared.reading.found.Rows as own
use Rattle.wh_load.specs.declared.reading.found.Rows.TheVariants as rows

-- which rows are read
abbrev pub shown_rows : own.Rows → Rows
shown_rows rows.Tables = TableRows
shown_rows (rows.Changes night) = ChangeRows night

-- what a part of such rows tells
abbrev pub content_of : Rows → Content
content_of TableRows = content.Table
content_of (ChangeRows night) = content.Changes

-- the part that has these rows of the view with this name; a derived view has none
abbrev pub part_found : Rows → List Part → List ℕ → ViewOf → Option Part
part_found kind parts name view = of_definition view.definition
  where
    of_definition : Option DefinitionOf → Option Part
    of_definition None = rows_found kind name parts
    of_definition (Some definition) = None

-- this is what a part of a view, where there is one, gives as if no text had a number yet
abbrev pub IsAheadOfPart : Rows → ViewOf → Option Part → List RowsRead → Type 0
IsAheadOfPart kind view part rows = IfSome part (λ part. IsAhead (content_of kind) view.columns (text_of part) rows)

-- the same of the view with this number, by the views' names
abbrev pub IsAheadOf : Rows → List Part → List (List ℕ) → List ViewOf → ViewAhead → Type 0
IsAheadOf kind parts names views own = IfSome (slice_get views own.view) (λ view. IsAheadOfPart kind view (part_found kind parts (name_of names own.view) view) own.rows)
