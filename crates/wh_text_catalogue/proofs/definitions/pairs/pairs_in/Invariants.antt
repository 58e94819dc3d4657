use Rattle.std.proofs.Common.{◌≡◌, [], drop, map}
use Rattle.toml.specs.View.{view}
use Rattle.wh_text_catalogue.specs.Pairs.{pairs_in}
use Rattle.wh_text_catalogue.specs.Inner.Pairs.{seen_pair}
use Rattle.wh_text_catalogue.proofs.definitions.pairs.pairs_in.Given as goal

abbrev pub invariant-loop-value : goal.invariant-loop-value
invariant-loop-value l = pairs_in [] (map view l.values) ≡ pairs_in (map seen_pair l.pairs.items) (map view (drop l.value-index l.values))
