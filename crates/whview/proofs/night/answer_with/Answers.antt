use Rattle.std.proofs.Common.{◌∙◌, ap, subst}
use Rattle.wh_dag.specs.Shape.{Views}
use Rattle.wh_dag.specs.Catalog.{CatalogOf}
use Rattle.wh_load.specs.ReadingShown.{shown_given, shown_opening}
use Rattle.whview.specs.NightOutput.{IsNightTold, text_of}
use Rattle.whview.specs.Status.{status_number}
use Rattle.whview.proofs.Decided.{night_told}
use Rattle.whview.proofs.night.answer_with.Goals as goal

pub returns : goal.returns
returns g c =
    let opening = shown_opening c.args.input.opening in
    let given = shown_given c.args.input.given in
    subst (λ (v : Views). IsNightTold (record { shape = v; opening = opening; given = given }) c.args.how.print c.args.how.readers c.in_ok-text.text (status_number c.status-status.result))
    (ap (λ (k : CatalogOf). k.views) c.in_ok-catalog.ensures)
    (night_told (record { shape = c.in_ok-catalog.catalog.views; opening = opening; given = given }) c.args.how.print c.args.how.readers c.in_ok-outcome.outcome c.in_ok-text.text c.status-status.result
    c.in_ok-outcome.ensures.decided (c.in_ok-text.ensures ∙ ap (λ (v : Views). text_of v.names c.in_ok-outcome.outcome) c.shape.ensures.views) c.status-status.ensures)
