use Rattle.std.proofs.Common.{◌≡◌, ◌++◌, drop, map}
use Rattle.wh_text_catalogue.specs.Definitions.{shown_view}
use Rattle.wh_maint.specs.Comp.{bag_at}
use Rattle.whview.specs.NightOutput.{views_text}
use Rattle.whview.proofs.night.report.append_views.Given as goal

abbrev pub invariant-loop-view : goal.invariant-loop-view
invariant-loop-view g l =
    l.initial.out ++ views_text l.word l.printing.texts.now l.printing.shape.now.names 0 (map shown_view l.printing.views.now) (bag_at l.rows)
    ≡ l.out ++ views_text l.word l.printing.texts.now l.printing.shape.now.names l.view (map shown_view (drop l.view l.printing.views.now)) (bag_at l.rows)
