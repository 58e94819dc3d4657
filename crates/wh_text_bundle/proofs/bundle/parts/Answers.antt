use Rattle.wh_text_bundle.specs.Cut.{cut}
use Rattle.wh_text_bundle.proofs.NightLemmas.{IsNonDecreasingBy-parts_below}
use Rattle.wh_text_bundle.proofs.bundle.parts.Goals as goal

pub invariant_of-result : goal.invariant_of-result
invariant_of-result c = rw c.in_ok-parts.ensures.parts (IsNonDecreasingBy-parts_below (cut c.split_at.result.1.now).parts)
