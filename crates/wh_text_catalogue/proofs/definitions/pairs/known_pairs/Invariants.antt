use Rattle.std.proofs.Common.{◌≡◌, drop, map}
use Rattle.wh_text_catalogue.specs.Pairs.{known_pairs}
use Rattle.wh_text_catalogue.specs.Inner.Pairs.{seen_pair}
use Rattle.wh_text_catalogue.proofs.definitions.pairs.known_pairs.Given as goal

abbrev pub invariant-loop-pair : goal.invariant-loop-pair
invariant-loop-pair l =
    known_pairs l.header.columns (map (λ n. n.now) l.initial.seen.keys) (map seen_pair l.pairs) ≡ known_pairs l.header.columns (map (λ n. n.now) l.seen.keys) (map seen_pair (drop l.pair-index l.pairs))
