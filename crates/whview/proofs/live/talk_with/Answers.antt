use Rattle.std.proofs.Common.{◌∙◌, ap, map, sym, subst}
use Rattle.std.specs.Prelude.{option_map}
use Rattle.wh_dag.specs.Catalog.{CatalogOf, IsCatalog}
use Rattle.wh_dag.specs.Shape.{Views}
use Rattle.wh_load.specs.ReadingShown.{shown_opening}
use Rattle.wh_text_catalogue.specs.Definitions.{shown_view}
use Rattle.wh_text_catalogue.specs.ReadCatalog.{catalog_of}
use Rattle.whview.specs.Inner.FitNight.{AreReadTables}
use Rattle.whview.specs.Inner.LiveOutput.{IsOpenedAnswer}
use Rattle.whview.proofs.ReadRows.{read_tables}
use Rattle.whview.proofs.live.talk_with.Goals as goal

pub talk_over-requires-clause-catalogue : goal.talk_over-requires-clause-catalogue
talk_over-requires-clause-catalogue g c κs within =
    subst IsCatalog (sym (c.in-Ok.ensures ∙ ap (λ vs. catalog_of c.args.to_run.opened.shape (map shown_view vs)) c.deref.ensures.value)) c.requires.fit.definitions.catalog

pub talk_over-requires-clause-tables : goal.talk_over-requires-clause-tables
talk_over-requires-clause-tables g c κs within =
    let opened = c.args.to_run.opened in
    subst (λ (k : CatalogOf). AreReadTables k opened.opening.tables.items) (sym (c.in-Ok.ensures ∙ ap (λ vs. catalog_of opened.shape (map shown_view vs)) c.deref.ensures.value))
    (read_tables opened.shape (map shown_view opened.opening.views.items) opened.opening.tables.items c.requires.fit.definitions.catalog c.requires.fit.before)

pub returns-in-Ok-clause-told : goal.returns-in-Ok-clause-told
returns-in-Ok-clause-told g c written =
    let opened = c.args.to_run.opened in
    subst (λ (v : Views). IsOpenedAnswer c.args.to_run.how (record { shape = v; opening = shown_opening opened.opening; strategy = option_map (λ own. own.items) opened.strategy })
    (g.S.Source.remaining c.args.input.now) (g.S.Source.faults c.args.input.now) (g.S.Source.faults c.talk_over.new.input) (g.W.Sink.contents c.args.out.now) (g.W.Sink.contents c.talk_over.new.out) c.talk_over.result)
    (ap (λ (k : CatalogOf). k.views) c.in-Ok.ensures) (c.talk_over.ensures.told written)
