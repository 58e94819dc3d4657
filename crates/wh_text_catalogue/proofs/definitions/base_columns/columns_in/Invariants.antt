use Rattle.std.proofs.Common.{◌≡◌, [], drop, map}
use Rattle.toml.specs.View.{view}
use Rattle.wh_text_catalogue.specs.BaseColumns.{columns_in}
use Rattle.wh_text_catalogue.proofs.definitions.base_columns.columns_in.Given as goal

abbrev pub invariant-loop-value : goal.invariant-loop-value
invariant-loop-value l = columns_in [] (map view l.values) ≡ columns_in l.columns.items (map view (drop l.value-index l.values))
