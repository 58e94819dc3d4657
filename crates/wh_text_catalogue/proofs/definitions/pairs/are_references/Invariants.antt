use Rattle.std.proofs.Common.{◌≡◌, drop, map}
use Rattle.wh_text_catalogue.specs.Pairs.{are_references}
use Rattle.wh_text_catalogue.specs.Inner.Pairs.{seen_pair}
use Rattle.wh_text_catalogue.proofs.definitions.pairs.are_references.Given as goal

abbrev pub invariant-loop-pair : goal.invariant-loop-pair
invariant-loop-pair l = are_references (map seen_pair l.pairs) ≡ are_references (map seen_pair (drop l.pair-index l.pairs))
