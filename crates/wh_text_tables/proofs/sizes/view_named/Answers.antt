use Rattle.std.specs.Str.{bytes_eq}
use Rattle.std.proofs.lemmas.Iterator.Adapters.{position_from-zero}
use Rattle.wh_text_tables.proofs.sizes.view_named.Goals as goal

pub loop-view-init : goal.loop-view-init
loop-view-init c = position_from-zero (λ n. bytes_eq n c.args.name.now) c.args.shape.now.names
