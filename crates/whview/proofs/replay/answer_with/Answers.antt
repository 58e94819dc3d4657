use Rattle.std.proofs.Common.{◌∙◌, ap, map, subst, sym}
use Rattle.wh_text_catalogue.specs.Definitions.{shown_view}
use Rattle.wh_text_catalogue.specs.ReadCatalog.{catalog_of}
use Rattle.wh_dag.specs.Shape.{Views}
use Rattle.wh_dag.specs.Catalog.{CatalogOf}
use Rattle.wh_load.specs.ReadingShown.{shown_given, shown_opening}
use Rattle.whview.specs.Inner.FitReplay.{AreChangesOf}
use Rattle.whview.specs.ReplayOutput.{IsReplayTold}
use Rattle.whview.specs.Status.{status_number}
use Rattle.whview.proofs.IfOks.{if_ok}
use Rattle.whview.proofs.replay.answer_with.Goals as goal

pub answer_over-requires-clause-changes : goal.answer_over-requires-clause-changes
answer_over-requires-clause-changes g c κs within =
    subst (λ (k : CatalogOf). AreChangesOf k (map shown_given c.args.input.nights.items)) (sym (c.in_ok-catalog.ensures ∙ ap (λ vs. catalog_of c.args.input.shape (map shown_view vs)) c.deref.ensures.value))
    c.requires.fit.changes

pub returns : goal.returns
returns g c =
    let input = c.args.input in
    if_ok c.answer_over.result _ _ c.answer_over.ensures
    (λ a told. subst (λ (v : Views). IsReplayTold (record { shape = v; opening = shown_opening input.opening; nights = map shown_given input.nights.items; schedule = input.schedule })
    a.text (status_number a.status))
    (ap (λ (k : CatalogOf). k.views) c.in_ok-catalog.ensures) told)
