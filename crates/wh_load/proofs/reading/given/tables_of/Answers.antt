use Rattle.std.proofs.Common.{map}
use Rattle.wh_text_catalogue.specs.Definitions.{shown_view}
use Rattle.wh_load.specs.ReadingNight.{TableRows}
use Rattle.wh_load.proofs.ReadingRows.{read_rows}
use Rattle.wh_load.proofs.reading.given.tables_of.Goals as goal

pub returns-clause-fit : goal.returns-clause-fit
returns-clause-fit g c =
    read_rows TableRows c.args.bundle.now c.args.known.now.names.now (map shown_view c.args.known.now.views.now) c.args.texts.now c.tables_in.new.texts c.in_ok-tables.tables.items c.in_ok-tables.ensures.ok
