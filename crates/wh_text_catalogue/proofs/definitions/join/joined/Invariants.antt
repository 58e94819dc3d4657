use Rattle.std.proofs.Common.{◌≡◌, [], drop, map}
use Rattle.wh_text_catalogue.specs.Join.{joined}
use Rattle.wh_text_catalogue.specs.Inner.Join.{seen_link}
use Rattle.wh_text_catalogue.proofs.definitions.join.joined.Given as goal

abbrev pub invariant-loop-link : goal.invariant-loop-link
invariant-loop-link l = joined l.header [] (map seen_link l.links) ≡ joined l.header l.places.items (map seen_link (drop l.link-index l.links))
