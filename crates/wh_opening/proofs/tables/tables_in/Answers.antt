use Rattle.std.proofs.Common.{map}
use Rattle.wh_text_catalogue.specs.Definitions.{shown_view}
use Rattle.wh_load.specs.ReadingNight.{TableRows}
use Rattle.wh_load.proofs.ReadingRows.{read_rows}
use Rattle.wh_opening.proofs.tables.tables_in.Goals as goal

pub returns-clause-fit : goal.returns-clause-fit
returns-clause-fit g c =
    let opened = c.args.opened.now in
    read_rows TableRows c.args.bundle.now opened.names.now (map shown_view opened.views.now) c.args.texts.now c.rows_of_views.new.texts c.in_ok-tables.tables.items c.in_ok-tables.ensures.ok
