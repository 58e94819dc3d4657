use Rattle.std.proofs.Common.{◌≡◌, [], drop, map}
use Rattle.wh_text_catalogue.specs.Pairs.{group_columns, grouped}
use Rattle.wh_text_catalogue.specs.Inner.Pairs.{seen_pair}
use Rattle.wh_text_catalogue.proofs.definitions.typed_pairs.grouped.Given as goal

abbrev pub invariant-loop-pair : goal.invariant-loop-pair
invariant-loop-pair l =
    grouped l.header (group_columns l.initial.columns.items []) (map seen_pair l.pairs) ≡ grouped l.header (group_columns l.columns.items l.places.items) (map seen_pair (drop l.pair-index l.pairs))
