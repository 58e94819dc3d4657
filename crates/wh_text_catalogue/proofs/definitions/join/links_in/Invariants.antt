use Rattle.std.proofs.Common.{◌≡◌, [], drop, map}
use Rattle.toml.specs.View.{view}
use Rattle.wh_text_catalogue.specs.Join.{links_in}
use Rattle.wh_text_catalogue.specs.Inner.Join.{seen_link}
use Rattle.wh_text_catalogue.proofs.definitions.join.links_in.Given as goal

abbrev pub invariant-loop-value : goal.invariant-loop-value
invariant-loop-value l = links_in [] (map view l.values) ≡ links_in (map seen_link l.links.items) (map view (drop l.value-index l.values))
