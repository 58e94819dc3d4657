use Rattle.std.proofs.Common.{◌≡◌, ◌∙◌, ◌+◌, ◌∷◌, [], ap, arith, length, map, refl}
use Rattle.std.proofs.lemmas.List.{length-append}
use Rattle.std.proofs.lemmas.Option.{slice_get_read}
use Rattle.wh_maint.specs.Comp.{bag_at}
use Rattle.wh_text_catalogue.specs.Definitions.{shown_view}
use Rattle.whview.proofs.DerivedBags.{at_place, item_at, one_more}
use Rattle.whview.proofs.night.shown.copies.Goals as goal

pub loop-place-preserved : goal.loop-place-preserved
loop-place-preserved c =
    let views = c.args.views.now in
    let tables = c.args.tables.now in
    let place = c.loop-place.place in
    let within = c.loop-place-test.true in
    let each = c.loop-place.invariant.each in
    let pushed = c.in_ok-push.ensures.items in
    let view = slice_get_read views (length views) place c.index-views-place.result refl within c.index-views-place.is in
    let table = item_at tables place c.index-tables-place.result (omega (arith, within, c.requires)) c.index-tables-place.is in
    record {
      each = ap length pushed ∙ (let l = length-append c.loop-place.copies.items (c.in_ok-copy.copy ∷ []) in omega (arith, l, each));
      at_views = one_more place (place + 1) (map shown_view views) c.loop-place.copies.items c.push.new.self.items c.in_ok-copy.copy (bag_at tables) refl each pushed c.loop-place.invariant.at_views
          (at_place shown_view views place c.index-views-place.result (c.in_ok-copy.copy ≡ bag_at tables place) view (λ derived. c.in_ok-copy.ensures derived ∙ table));
    }
