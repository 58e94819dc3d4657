use Rattle.std.proofs.Common.{◌≡◌, ◌∙◌, ◌+◌, ◌∷◌, [], ap, arith, length, map, refl, subst, sym}
use Rattle.std.proofs.lemmas.List.{length-append, length-map}
use Rattle.std.proofs.lemmas.Option.{slice_get_read}
use Rattle.wh_maint.specs.Comp.{bag_at}
use Rattle.wh_row.specs.Bag.{IsTable, difference_of}
use Rattle.wh_text_catalogue.specs.Definitions.{shown_view}
use Rattle.whview.proofs.DerivedBags.{all_below, at_place, from_place, item_at, one_more}
use Rattle.whview.proofs.night.shown.changes.Goals as goal

pub change_of-requires-clause-new : goal.change_of-requires-clause-new
change_of-requires-clause-new g c κs within =
    subst IsTable (sym (item_at c.args.new.now c.loop-place.place c.index-new-place.result (omega (arith, c.loop-place-test.true, c.requires.each_new)) c.index-new-place.is))
    (c.requires.new c.loop-place.place)

pub change_of-requires-clause-old : goal.change_of-requires-clause-old
change_of-requires-clause-old g c κs within =
    let views = c.args.views.now in
    let place = c.loop-place.place in
    let view = slice_get_read views (length views) place c.index-views-place.result refl c.loop-place-test.true c.index-views-place.is in
    λ derived. subst IsTable (sym (item_at c.args.old.now place c.index-old-place.result (omega (arith, c.loop-place-test.true, c.requires.each_old)) c.index-old-place.is))
    (from_place shown_view views place c.index-views-place.result (IsTable (bag_at c.args.old.now place)) view (c.requires.old place) derived)

pub loop-place-preserved : goal.loop-place-preserved
loop-place-preserved g c =
    let views = c.args.views.now in
    let place = c.loop-place.place in
    let within = c.loop-place-test.true in
    let each = c.loop-place.invariant.each in
    let pushed = c.in_ok-push.ensures.items in
    let view = slice_get_read views (length views) place c.index-views-place.result refl within c.index-views-place.is in
    let new = item_at c.args.new.now place c.index-new-place.result (omega (arith, within, c.requires.each_new)) c.index-new-place.is in
    let old = item_at c.args.old.now place c.index-old-place.result (omega (arith, within, c.requires.each_old)) c.index-old-place.is in
    record {
      each = ap length pushed ∙ (let l = length-append c.loop-place.changes.items (c.in_ok-change.change ∷ []) in omega (arith, l, each));
      at_views = one_more place (place + 1) (map shown_view views) c.loop-place.changes.items c.push.new.self.items c.in_ok-change.change
          (λ k. difference_of (bag_at c.args.new.now k) (bag_at c.args.old.now k)) refl each pushed c.loop-place.invariant.at_views
          (at_place shown_view views place c.index-views-place.result (c.in_ok-change.change ≡ difference_of (bag_at c.args.new.now place) (bag_at c.args.old.now place)) view
          (λ derived. c.in_ok-change.ensures derived ∙ (λ i. difference_of (new i) (old i))));
    }

pub returns-clause-changes : goal.returns-clause-changes
returns-clause-changes g c =
    all_below c.loop-place.place (map shown_view c.args.views.now) (λ k. bag_at c.loop-place.changes.items k ≡ difference_of (bag_at c.args.new.now k) (bag_at c.args.old.now k))
    (let l = length-map c.args.views.now shown_view in omega (arith, l, c.loop-place-test.false)) c.loop-place.invariant.at_views
