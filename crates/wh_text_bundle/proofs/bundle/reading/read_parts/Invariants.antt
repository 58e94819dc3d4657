use Rattle.std.proofs.Common.{◌+◌, ◌≤◌, length}
use Rattle.wh_text_bundle.specs.Cut.{cut}
use Rattle.wh_text_bundle.proofs.PartsRead.{IsReadTo}
use Rattle.wh_text_bundle.proofs.bundle.reading.read_parts.Given as goal

-- the parts above the rest are read; each has a byte at least
abbrev pub invariant-loop-rest : goal.invariant-loop-rest
invariant-loop-rest l = record {
  read : IsReadTo l.nights (cut l.fn.text).parts l.rest l.parts.items l.night l.seen;
  few : l.night + length l.rest ≤ length l.fn.text;
}

abbrev pub decreases-loop-rest : goal.decreases-loop-rest
decreases-loop-rest l = length l.rest
