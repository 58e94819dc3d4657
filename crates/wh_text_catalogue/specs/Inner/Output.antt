-- The columns of a derived view: the keys `keep`, or `group`, `count` and `sum`: what only proofs and private contracts use.
use Rattle.wh_text_catalogue.specs.declared.definitions.output.Outcome.{Outcome}
use Rattle.wh_text_catalogue.specs.Output.{ColumnsOf, shown_output}

-- the columns and output that lists in memory make
abbrev pub shown_outcome : Outcome → ColumnsOf
shown_outcome outcome = record { columns = outcome.columns.items; output = shown_output outcome.output }
