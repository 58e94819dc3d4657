-- How many cells the rows of a view's columns, table and changes have.
use Rattle.std.specs.Prelude.{ℕ, length, Some}
use Rattle.wh_dag.specs.Catalog.{OutputOf, Keep, Sums, DefinitionOf, columns}
use Rattle.wh_row.specs.Bag.{Bag, HasWidth}
use Rattle.wh_maint.specs.View.{column, fold}
use Rattle.wh_maint.specs.Definition.{kind_of, view_of}
use Rattle.wh_maint.specs.Summary.{shown, change_of}

-- how many cells the row has under which a combined row goes: the kept columns, or the cells of the group
abbrev pub key_width : OutputOf → ℕ
key_width (Keep kept) = length kept
key_width (Sums group sums) = length group

-- the rows of each column of a defined view have so many cells, whatever is folded
abbrev pub ColumnsHaveWidth : Type 0
ColumnsHaveWidth = (definition : DefinitionOf) (j : ℕ) (rows : Bag) → HasWidth (fold (column (view_of (Some definition)) j) rows) (key_width definition.output)

-- the table that such accumulators show has the view's columns
abbrev pub TablesHaveWidth : Type 0
TablesHaveWidth =
    (output : OutputOf) (accumulators : ℕ → Bag) → ((j : ℕ) → HasWidth (accumulators j) (key_width output))
    → HasWidth (shown (kind_of output) accumulators) (columns output)

-- the change of a table with the view's columns has these columns too
abbrev pub ChangesHaveWidth : Type 0
ChangesHaveWidth =
    (output : OutputOf) (table : Bag) (pending : ℕ → Bag) → HasWidth table (columns output) → ((j : ℕ) → HasWidth (pending j) (key_width output))
    → HasWidth (change_of (kind_of output) table pending) (columns output)
