use Rattle.std.proofs.Common.{◌≡◌, ◌∙◌, ap, subst, sym, List}
use Rattle.wh_core.specs.Standing.{catalog_of, given_of}
use Rattle.wh_dag.specs.Catalog.{CatalogOf, IsCatalog}
use Rattle.wh_dag.specs.Shape.{Views}
use Rattle.wh_load.specs.ReadingNight.{ChangeRows}
use Rattle.wh_load.specs.ReadingShown.{shown_given}
use Rattle.wh_strategy.specs.Rules.{IsCorrect, IsReason}
use Rattle.wh_strategy.specs.declared.correct.CheckFault.TheVariants as check
use Rattle.wh_strategy.specs.declared.expression.Expression.{Expression}
use Rattle.wh_stay.specs.Standing.{standing_of}
use Rattle.wh_stay.specs.Told.{night_of_machine}
use Rattle.wh_stay.proofs.Nights.{read_bags, told_broken, told_memory, told_replied}
use Rattle.wh_stay.proofs.standing.Live.begin_given.Goals as goal

pub begin_night-requires-clause-night : goal.begin_night-requires-clause-night
begin_night-requires-clause-night g c κs within =
    let catalog : CatalogOf = catalog_of c.args.self.now.core in
    let ok = c.in-Ok.ensures.ok in
    let same : c.shape.result.now.children ≡ catalog.views.children = ap (λ (v : Views). v.children) c.shape.ensures.views ∙ ap (λ (k : CatalogOf). k.views.children) c.catalog.ensures in
    let is : IsCatalog catalog = subst IsCatalog c.catalog.ensures c.shape.ensures.catalog in
    record {
      given = record {
        changes = read_bags (ChangeRows 0) catalog (standing_of c.args.self.now).views c.args.night.changes.items is c.requires.live.widths c.requires.fit;
        list = subst (IsCorrect catalog.views.children) (sym ok.1) (subst (λ ch. IsCorrect ch c.args.night.strategy) same ok.2);
      };
      judged = ok.0 ∙ same;
    }

pub returns-in-Ok-clause-told : goal.returns-in-Ok-clause-told
returns-in-Ok-clause-told g c = λ s log w parts texts is h read.
    let ok = c.in-Ok.ensures.ok in
    let same : c.shape.result.now.children ≡ s.catalog.views.children =
    ap (λ (v : Views). v.children) c.shape.ensures.views ∙ ap (λ (k : CatalogOf). k.views.children) (c.catalog.ensures ∙ h.catalog) in
    let given : given_of (c.args.night.changes, c.in-Ok.correct) ≡ night_of_machine (shown_given c.args.night) =
    ap (λ (l : List Expression). record { changes = c.args.night.changes.items; list = l }) ok.1 in
    told_replied s log w parts c.begin_night.new.self is (shown_given c.args.night) texts read (subst (λ ch. IsCorrect ch c.args.night.strategy) same ok.2)
    (given_of (c.args.night.changes, c.in-Ok.correct)) c.begin_night.result given (c.begin_night.ensures.reply s log is h)
    (λ e. c.begin_night.ensures.begun e s log is h) (λ no. c.begin_night.ensures.refused no s log is h)

pub returns-in-Err-Broken-clause-told : goal.returns-in-Err-Broken-clause-told
returns-in-Err-Broken-clause-told g c = λ s log w parts texts is h read.
    let same : c.shape.result.now.children ≡ s.catalog.views.children =
    ap (λ (v : Views). v.children) c.shape.ensures.views ∙ ap (λ (k : CatalogOf). k.views.children) (c.catalog.ensures ∙ h.catalog) in
    told_broken s log w parts c.args.self.now.core is (shown_given c.args.night) texts c.in-Err-Broken.rule c.in-Err-Broken.place read
    (subst (λ ch. IsReason ch c.args.night.strategy (check.Broken c.in-Err-Broken.rule c.in-Err-Broken.place)) same (rw c.in-Err-Broken.field-0-is at c.in-Err-Broken.ensures.err)) h

pub returns-clause-told : goal.returns-clause-told
returns-clause-told g c = λ s log w parts texts is h read. told_memory s log w parts c.args.self.now.core is texts h
