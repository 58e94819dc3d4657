use Rattle.std.proofs.Common.{◌∙◌, ◌+◌, ◌++◌, ap, map, subst, drop, arith}
use Rattle.wh_dag.specs.CatalogParts.{given_definitions}
use Rattle.wh_text_catalogue.specs.Definitions.{shown_view}
use Rattle.whview.specs.Inner.StoredClosures.{AreSound}
use Rattle.whview.proofs.StoredCatalog.{definitions_from, first_sound, rest_sound, given_after}
use Rattle.whview.proofs.catalogue.definitions.Goals as goal

pub append_definition-requires-clause-sound : goal.append_definition-requires-clause-sound
append_definition-requires-clause-sound g c κs within =
    let from = definitions_from c.args.views.now c.loop-view.view-index c.view-item.result (omega (arith, c.loop-view-test.true)) c.view-item.is in
    first_sound (shown_view c.view-item.result).definition (map (λ v. (shown_view v).definition) (drop (c.loop-view.view-index + 1) c.args.views.now)) (subst AreSound from c.loop-view.invariant.sound)

pub loop-view-preserved : goal.loop-view-preserved
loop-view-preserved g c =
    let view = c.view-item.result in
    let later = map (λ v. (shown_view v).definition) (drop (c.loop-view.view-index + 1) c.args.views.now) in
    let from = definitions_from c.args.views.now c.loop-view.view-index view (omega (arith, c.loop-view-test.true)) c.view-item.is in
    record {
      given = given_after c.loop-view.definitions.items c.append_definition.new.definitions.items _ (shown_view view).definition later
          (c.loop-view.invariant.given ∙ ap (λ os. c.loop-view.definitions.items ++ given_definitions os) from) c.in_ok-append_definition.ensures;
      sound = rest_sound (shown_view view).definition later (subst AreSound from c.loop-view.invariant.sound);
    }
