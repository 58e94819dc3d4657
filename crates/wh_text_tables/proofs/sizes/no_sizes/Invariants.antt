use Rattle.std.proofs.Common.{◌≡◌, replicate, None}
use Rattle.wh_text_tables.proofs.sizes.no_sizes.Given as goal

abbrev pub invariant-loop-view : goal.invariant-loop-view
invariant-loop-view l = l.given.items ≡ replicate l._view None
