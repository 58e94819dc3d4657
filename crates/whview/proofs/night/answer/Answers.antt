use Rattle.std.proofs.Common.{map}
use Rattle.wh_text_catalogue.specs.Definitions.{shown_view}
use Rattle.whview.proofs.ReadRows.{read_fit}
use Rattle.whview.proofs.night.answer.Goals as goal

pub answer_of-requires-clause-fit : goal.answer_of-requires-clause-fit
answer_of-requires-clause-fit g c κs within =
    let input = c.in-Ok.input in
    read_fit input.shape (map shown_view input.opening.views.items) input.opening.tables.items input.given.changes.items c.in-Ok.ensures.fit
