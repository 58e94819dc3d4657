use Rattle.std.proofs.Common.{◌≡◌, drop, map}
use Rattle.wh_text_catalogue.specs.Join.{unknown_in_links}
use Rattle.wh_text_catalogue.specs.Inner.Join.{seen_link}
use Rattle.wh_text_catalogue.proofs.definitions.join.unknown_in_links.Given as goal

abbrev pub invariant-loop-link : goal.invariant-loop-link
invariant-loop-link l = unknown_in_links l.header.columns (map seen_link l.links) ≡ unknown_in_links l.header.columns (map seen_link (drop l.link-index l.links))
