use Rattle.std.proofs.Common.{◌∙◌, []}
use Rattle.wh_store.specs.Versions.{versions_of}
use Rattle.wh_store.specs.Windows.{window}
use Rattle.wh_night.proofs.serving.store_of.Goals as goal

pub returns-in-Ok : goal.returns-in-Ok
returns-in-Ok c = c.in-Ok.ensures.shows ∙ (λ i. window (c.in-Ok.ensures.limit i) (c.in-Ok.ensures.rows i) (versions_of c.args.tables.now []))
