use Rattle.std.proofs.Common.{◌≡◌, [], drop, map}
use Rattle.wh_text_catalogue.specs.ColumnNames.{fresh_columns}
use Rattle.wh_text_catalogue.proofs.definitions.column_names.distinct_columns.Given as goal

abbrev pub invariant-loop-column : goal.invariant-loop-column
invariant-loop-column l = fresh_columns [] l.columns ≡ fresh_columns (map (λ n. n.now) l.seen.keys) (drop l.column-index l.columns)
