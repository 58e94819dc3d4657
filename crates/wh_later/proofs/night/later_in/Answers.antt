use Rattle.std.proofs.Common.{map}
use Rattle.wh_text_catalogue.specs.Definitions.{shown_view}
use Rattle.wh_load.specs.ReadingNight.{ChangeRows}
use Rattle.wh_load.proofs.ReadingRows.{read_rows}
use Rattle.wh_later.proofs.night.later_in.Goals as goal

pub returns-clause-fit : goal.returns-clause-fit
returns-clause-fit g c =
    let standing = c.args.standing.now in
    read_rows (ChangeRows 0) c.args.bundle.now standing.names.now (map shown_view standing.views.now) c.args.texts.now c.changes_in.new.texts c.in_ok-changes.changes.items c.in_ok-changes.ensures.ok
