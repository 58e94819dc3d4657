use Rattle.std.proofs.Common.{◌≡◌, ◌++◌, drop, map}
use Rattle.wh_dag.specs.CatalogParts.{given_definitions}
use Rattle.wh_text_catalogue.specs.Definitions.{shown_view}
use Rattle.whview.specs.Inner.StoredClosures.{AreSound}
use Rattle.whview.proofs.catalogue.definitions.Given as goal

abbrev pub invariant-loop-view : goal.invariant-loop-view
invariant-loop-view g l = record {
  given : given_definitions (map (λ view. (shown_view view).definition) l.views)
      ≡ l.definitions.items ++ given_definitions (map (λ view. (shown_view view).definition) (drop l.view-index l.views));
  sound : AreSound (map (λ view. (shown_view view).definition) (drop l.view-index l.views));
}
