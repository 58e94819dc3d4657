use Rattle.std.proofs.Common.{refl}
use Rattle.std.specs.Prelude.{is_some, not}
use Rattle.std.proofs.lemmas.Iterator.Adapters.{position_from-zero}
use Rattle.wh_text_tables.proofs.sizes.covered.Goals as goal

pub loop-view-init : goal.loop-view-init
loop-view-init c = record {
  found = rw c.new-rows.ensures.items refl;
  counted = c.new-rows.ensures.len;
  first = position_from-zero (λ size. not (is_some size)) c.args.given.now;
}
