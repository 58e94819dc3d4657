use Rattle.std.proofs.Common.{map}
use Rattle.wh_text_catalogue.specs.Definitions.{shown_view}
use Rattle.wh_load.specs.ReadingShown.{shown_given}
use Rattle.whview.proofs.ReplayDecided.{read_fit_for_nights}
use Rattle.whview.proofs.replay.answer.Goals as goal

pub answer_of-requires-clause-fit : goal.answer_of-requires-clause-fit
answer_of-requires-clause-fit g c κs within =
    let input = c.in-Ok.input in
    read_fit_for_nights input.shape (map shown_view input.opening.views.items) input.opening.tables.items (map shown_given input.nights.items) c.in-Ok.ensures.fit
