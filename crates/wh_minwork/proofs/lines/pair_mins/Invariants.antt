use Rattle.std.proofs.Common.{◌≡◌, map, take}
use Rattle.wh_strategy.specs.Sizes.{sizes_of}
use Rattle.wh_cert.specs.Certificate.{line_of}
use Rattle.wh_minwork.proofs.lines.pair_mins.Given as goal

abbrev pub invariant-loop-pair : goal.invariant-loop-pair
invariant-loop-pair l = l.lines.items ≡ map (line_of (sizes_of l.sizes)) (take l.pair-index l.pair-items)
