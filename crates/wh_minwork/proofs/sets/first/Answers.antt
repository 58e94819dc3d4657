use Rattle.std.proofs.Common.{◌≡◌, ap, ◌∙◌, arith}
use Rattle.wh_minwork.specs.Inner.Sets.{in_set}
use Rattle.wh_minwork.proofs.Bits.{in_none, first_in}
use Rattle.wh_minwork.proofs.sets.first.Goals as goal

pub returns-then-set-eq0 : goal.returns-then-set-eq0
returns-then-set-eq0 c w = let e : c.args.set ≡ 0 = c.if-set-eq0.true in ap (λ z. in_set z w) e ∙ in_none w

pub returns-else-set-eq0 : goal.returns-else-set-eq0
returns-else-set-eq0 c = first_in c.args.set (omega arith) c.ranges.set.fits
