use Rattle.std.proofs.Common.{◌≡◌, ◌++◌, drop, length, map}
use Rattle.wh_dag.specs.CatalogParts.{given_widths}
use Rattle.wh_text_catalogue.specs.Definitions.{shown_view}
use Rattle.whview.proofs.catalogue.base_widths.Given as goal

abbrev pub invariant-loop-view : goal.invariant-loop-view
invariant-loop-view l =
    given_widths (map (λ view. (shown_view view).definition) l.views) (map (λ view. length (shown_view view).columns) l.views)
    ≡ l.widths.items ++ given_widths (map (λ view. (shown_view view).definition) (drop l.view-index l.views)) (map (λ view. length (shown_view view).columns) (drop l.view-index l.views))
