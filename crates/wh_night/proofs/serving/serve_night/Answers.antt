use Rattle.std.proofs.Common.{◌∙◌, ◌≤◌, List, ap, subst, sym}
use Rattle.wh_row.specs.Bag.{Bag}
use Rattle.wh_dag.specs.Catalog.{CatalogOf}
use Rattle.wh_strategy.specs.Rules.{IsCorrect}
use Rattle.wh_maint.specs.Asked.{AreBags}
use Rattle.wh_maint.specs.Comp.{bag_at}
use Rattle.wh_maint.specs.Contents.{AreContentsOf}
use Rattle.wh_maint.specs.Definition.{graph_of}
use Rattle.wh_maint.specs.Laws.{changed}
use Rattle.wh_store.specs.Kept.{AreTables}
use Rattle.wh_carry.specs.CarriedOut.{IsNightCarried}
use Rattle.wh_night.specs.Serving.{ToldOfNight, all_out, newly}
use Rattle.wh_night.proofs.Serves.{first_number, fit_are_tables, if_served}
use Rattle.wh_night.proofs.serving.serve_night.Goals as goal

pub two_stores-requires-clause-tables : goal.two_stores-requires-clause-tables
two_stores-requires-clause-tables g c κs within = subst AreTables (sym c.deref.ensures.value) (fit_are_tables c.args.asked.now.catalog.now c.args.tables.items c.requires.tables.each (λ v l. c.requires.fit.now v))

pub serve_none-requires-clause-fit : goal.serve_none-requires-clause-fit
serve_none-requires-clause-fit g c κs within = λ v l. c.requires.fit.now v

pub serve_some-requires-clause-ready : goal.serve_some-requires-clause-ready
serve_some-requires-clause-ready g c κs within = record {
  judged = c.requires.judged;
  wide = c.requires.tables;
  wide_changes = c.requires.changes;
  fit = c.requires.fit;
  some = c.requires.some;
  few = c.requires.few;
  least = c.requires.least;
  most = c.requires.most;
}

pub returns-clause-carried : goal.returns-clause-carried
returns-clause-carried g c =
    let cat : CatalogOf = c.args.asked.now.catalog.now in
    let list = c.args.asked.now.correct.now.list in
    let ts : List Bag = c.args.tables.items in
    let gr = graph_of cat in
    let base = changed (bag_at ts) (bag_at c.args.asked.now.changes.now) in
    let ok : IsCorrect cat.views.children list = subst (λ shape. IsCorrect shape list) c.requires.judged c.strategy.ensures.rules in
    if_served (λ s. IsNightCarried cat list ts c.args.asked.now.changes.now s.tables.items s.report) cat list (newly ts) c.args.asked.now.changes.now c.args.asked.now.page_keys c.serve_some.result c.serve_some.ensures.run
    (λ s h. record {
      bags = subst (AreBags cat) (sym h.tables) h.published.bags;
      tables = λ v m. ap (λ us. bag_at us v) h.tables ∙ h.published.tables.are v m;
      contents = λ are. subst (λ us. AreContentsOf gr base (bag_at us)) (sym h.tables) (h.published.contents are);
      version = first_number cat list ts c.args.asked.now.changes.now c.args.asked.now.page_keys s.report (all_out h.told) ok c.requires.tables c.requires.least h.published;
      steps = h.published.steps;
      allowed = h.published.allowed;
      passed = h.published.passed;
    })

pub returns-clause-published : goal.returns-clause-published
returns-clause-published g c =
    let cat : CatalogOf = c.args.asked.now.catalog.now in
    let list = c.args.asked.now.correct.now.list in
    let changes = c.args.asked.now.changes.now in
    let keys = c.args.asked.now.page_keys in
    if_served (λ s. 1 ≤ c.args.readers → ToldOfNight cat list c.args.tables.items changes keys s.report s.published) cat list (newly c.args.tables.items) changes keys c.serve_some.result c.serve_some.ensures.run
    (λ s h some. subst (ToldOfNight cat list c.args.tables.items changes keys s.report) (sym h.is_told) h.published)
