use Rattle.std.proofs.Common.{ap, ◌∙◌}
use Rattle.wh_row.specs.Stored.{plain}
use Rattle.wh_store.specs.Operations.{Writes}
use Rattle.wh_store.specs.Faults.{refused}
use Rattle.wh_night.proofs.Outs.{partly_refused}
use Rattle.wh_night.proofs.pages.publish_page.Goals as goal

pub returns-in-Err-Memory-clause-err : goal.returns-in-Err-Memory-clause-err
returns-in-Err-Memory-clause-err g c = λ rest.
    partly_refused (g.P.Publish.kept c.args.writer.now) (g.P.Publish.kept c.publish.new.self) (Writes c.args.view (plain c.args.page.now.items)) rest c.in-Err-Memory.field-0 c.requires.takes.free
    (c.in-Err-Memory.ensures.err ∙ ap (λ rows. refused (g.P.Publish.kept c.args.writer.now) (Writes c.args.view (plain rows.items)) c.in-Err-Memory.field-0) c.replace-rows.ensures.value)
