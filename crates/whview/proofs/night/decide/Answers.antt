use Rattle.std.proofs.Common.{List, map, subst, sym, ⊎_elim}
use Rattle.wh_dag.specs.Shape.{Views}
use Rattle.wh_load.specs.ReadingShown.{shown_given, shown_opening}
use Rattle.wh_maint.specs.Comp.{bag_at}
use Rattle.wh_strategy.specs.Rules.{IsCorrect}
use Rattle.wh_text_catalogue.specs.Definitions.{shown_view}
use Rattle.wh_text_catalogue.specs.declared.definitions.views.WrittenView.{WrittenView}
use Rattle.whview.specs.NightOutput.{IsDecided, IsShownAs}
use Rattle.whview.specs.Inner.NightOutput.{IsWhole}
use Rattle.whview.proofs.IfOks.{if_ok}
use Rattle.whview.proofs.NightDecided.{decided_no_contents, opened_fit, refused_from, shown_carried}
use Rattle.whview.proofs.night.decide.Goals as goal

pub returns-in-Err-clause-decided : goal.returns-in-Err-clause-decided
returns-in-Err-clause-decided g c =
    if_ok c.no_contents.result _ _ c.no_contents.ensures
    (λ o h. subst (λ o. IsDecided (record { shape = c.args.catalog.now.views; opening = shown_opening c.args.opening; given = shown_given c.args.given }) c.args.how.print c.args.how.readers o) (sym h.0)
    (decided_no_contents (record { shape = c.args.catalog.now.views; opening = shown_opening c.args.opening; given = shown_given c.args.given }) c.args.how.print c.args.how.readers c.args.catalog.now c.requires.shown
    c.in-Err.fault (subst (λ (v : Views). IsCorrect v.children c.args.given.strategy) c.shape.ensures.views c.in-Ok.ensures.ok.2) c.in-Err.ensures.refused h.1))

pub returns-in-Err-clause-whole : goal.returns-in-Err-clause-whole
returns-in-Err-clause-whole g c = if_ok c.no_contents.result _ _ c.no_contents.ensures (λ o h. subst (IsWhole c.args.catalog.now.views) (sym h.0) tt)

pub serve-requires-clause-fit : goal.serve-requires-clause-fit
serve-requires-clause-fit g c κs within =
    opened_fit c.args.catalog.now c.shape.ensures.catalog c.args.opening.tables.items c.in-Ok-opening_contents.tables.items c.requires.tables c.in-Ok-opening_contents.ensures.contents
    c.in-Ok.correct.list (subst (λ list. IsCorrect c.args.catalog.now.views.children list) (sym c.in-Ok.ensures.ok.1) (subst (λ (v : Views). IsCorrect v.children c.args.given.strategy) c.shape.ensures.views c.in-Ok.ensures.ok.2)) (bag_at c.deref.result.now)

pub returns-in-Ok-serve-clause-decided : goal.returns-in-Ok-serve-clause-decided
returns-in-Ok-serve-clause-decided g c = (
  subst (λ (v : Views). IsCorrect v.children c.args.given.strategy) c.shape.ensures.views c.in-Ok.ensures.ok.2,
  shown_carried (record { shape = c.args.catalog.now.views; opening = shown_opening c.args.opening; given = shown_given c.args.given }) c.args.how.print c.args.how.readers
      c.in-Ok-opening_contents.tables.items c.in-Ok-serve.carried.tables.items c.in-Ok-serve.shown c.in-Ok-serve.carried.report.steps.items c.in-Ok-serve.carried.rows.items
      c.args.catalog.now c.deref.result.now c.in-Ok.correct.list c.requires.shown c.deref.ensures.value c.in-Ok.ensures.ok.1
      (record {
        is = c.shape.ensures.catalog;
        correct = subst (λ (v : Views). IsCorrect v.children c.args.given.strategy) c.shape.ensures.views c.in-Ok.ensures.ok.2;
        read = c.requires.tables;
        length_old = c.in-Ok-opening_contents.ensures.bags.each;
        opened = c.in-Ok-opening_contents.ensures.contents;
        valued = c.in-Ok-opening_contents.ensures.valued;
        allowed = c.in-Ok-serve.ensures.carried.allowed;
        passed = c.in-Ok-serve.ensures.carried.passed;
        carried = c.in-Ok-serve.ensures.carried.tables;
        contents_after = c.in-Ok-serve.ensures.carried.contents;
        reported = c.in-Ok-serve.ensures.carried.steps;
      })
      (subst (λ (views : List WrittenView). IsShownAs c.args.how.print (map shown_view views) (bag_at c.in-Ok-opening_contents.tables.items) (bag_at c.in-Ok-serve.carried.tables.items) c.in-Ok-serve.shown)
      c.deref-2.ensures.value c.in-Ok-serve.ensures.shown)
      c.in-Ok-serve.ensures.rows,
)

pub returns-in-Err-serve-clause-decided : goal.returns-in-Err-serve-clause-decided
returns-in-Err-serve-clause-decided g c =
    if_ok c.refusal.result _ _ c.refusal.ensures
    (λ o h. subst (λ o. IsDecided (record { shape = c.args.catalog.now.views; opening = shown_opening c.args.opening; given = shown_given c.args.given }) c.args.how.print c.args.how.readers o) (sym h.0) (
      subst (λ (v : Views). IsCorrect v.children c.args.given.strategy) c.shape.ensures.views c.in-Ok.ensures.ok.2,
      refused_from (record { shape = c.args.catalog.now.views; opening = shown_opening c.args.opening; given = shown_given c.args.given })
          c.in-Ok-opening_contents.tables.items c.in-Err-serve.refused
          c.args.catalog.now c.deref.result.now c.in-Ok.correct.list c.args.how.page_keys c.requires.shown c.deref.ensures.value c.in-Ok.ensures.ok.1
          c.in-Ok-opening_contents.ensures.bags.each c.in-Ok-opening_contents.ensures.contents c.in-Ok-opening_contents.ensures.valued
          (⊎_elim (λ m. absurd (h.1 m)) (λ so. so) c.in-Err-serve.ensures.refused) h.1,
    ))

pub returns-in-Err-serve-clause-whole : goal.returns-in-Err-serve-clause-whole
returns-in-Err-serve-clause-whole g c = if_ok c.refusal.result _ _ c.refusal.ensures (λ o h. subst (IsWhole c.args.catalog.now.views) (sym h.0) tt)
