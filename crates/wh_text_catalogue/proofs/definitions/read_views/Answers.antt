use Rattle.std.proofs.Common.{length, map, ap, sym, ◌∙◌}
use Rattle.std.proofs.lemmas.List.{length-map}
use Rattle.toml.specs.View.{table_view, view}
use Rattle.wh_text.proofs.DictGrowth.{grown-begins}
use Rattle.wh_text_catalogue.proofs.CatalogueLengths.{shape_of-length}
use Rattle.wh_text_catalogue.specs.Definitions.{shown_view}
use Rattle.wh_text_catalogue.proofs.DefinitionsFit.{read-definitions}
use Rattle.wh_text_catalogue.proofs.definitions.read_views.Goals as goal

pub views_after-requires : goal.views_after-requires
views_after-requires c =
    ap length c.deref.ensures.value ∙ sym (length-map c.in-Some.tables.now.items view)
    ∙ shape_of-length c.args.text.now c.args.shape.now (table_view c.in_ok-document.document) (map view c.in-Some.tables.now.items) c.requires c.in_ok-document.ensures.ok (sym c.in-Some.ensures)

pub returns-clause-fit : goal.returns-clause-fit
returns-clause-fit c =
    read-definitions c.args.text.now c.args.shape.now c.args.texts.now c.views_after.new.texts (map shown_view c.in_ok-views.views.items) (table_view c.in_ok-document.document) (map view c.in-Some.tables.now.items)
    c.requires c.in_ok-document.ensures.ok (sym c.in-Some.ensures) (rw (← c.deref.ensures.value) c.in_ok-views.ensures.ok)

pub returns-in_err-views-clause-begins : goal.returns-in_err-views-clause-begins
returns-in_err-views-clause-begins c = grown-begins c.args.texts.now c.views_after.new.texts c.views_after.ensures.grows

pub returns-clause-begins : goal.returns-clause-begins
returns-clause-begins c = grown-begins c.args.texts.now c.views_after.new.texts c.views_after.ensures.grows
