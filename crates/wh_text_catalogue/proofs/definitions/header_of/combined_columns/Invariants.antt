use Rattle.std.proofs.Common.{◌≡◌, take, map, flat_map}
use Rattle.wh_text_catalogue.specs.Definitions.{child_columns, shown_view}
use Rattle.wh_text_catalogue.proofs.definitions.header_of.combined_columns.Given as goal

abbrev pub invariant-loop-child : goal.invariant-loop-child
invariant-loop-child l = l.columns.items ≡ flat_map (child_columns l.shape.names (map shown_view l.views)) (take l.child-index l.children)
