use Rattle.std.proofs.Common.{map}
use Rattle.wh_text_catalogue.specs.Definitions.{shown_view}
use Rattle.wh_load.specs.ReadingNight.{ChangeRows}
use Rattle.wh_load.proofs.ReadingRows.{read_rows, same_changes}
use Rattle.wh_load.proofs.reading.given.given_of.Goals as goal

pub returns-clause-fit : goal.returns-clause-fit
returns-clause-fit g c =
    let views = map shown_view c.args.known.now.views.now in
    same_changes c.args.night views c.in_ok-changes.changes.items
    (read_rows (ChangeRows c.args.night) c.args.bundle.now c.args.known.now.names.now views c.args.texts.now c.changes_in.new.texts c.in_ok-changes.changes.items c.in_ok-changes.ensures.ok)
