use Rattle.std.proofs.Common.{◌≡◌, ◌<◌, ℕ, length, map, ap, sym, subst, ◌∙◌, arith}
use Rattle.std.proofs.lemmas.List.{length-map}
use Rattle.std.specs.Prelude.{slice_index}
use Rattle.wh_dag.specs.Shape.{Views}
use Rattle.wh_stay.specs.Standing.{widths_of}
use Rattle.wh_text_catalogue.specs.Definitions.{shown_view}
use Rattle.test_stay.proofs.Contents.{one_more, same_numbers, widths_at}
use Rattle.test_stay.proofs.given.have_widths.Goals as goal

pub loop-view-preserved : goal.loop-view-preserved
loop-view-preserved c =
    let views = c.args.views.now in
    one_more (λ u. slice_index (widths_of (map shown_view views)) u ≡ slice_index c.args.catalog.now.widths u) c.loop-view.view c.loop-view.invariant
    (widths_at views c.loop-view.view c.index-views-view.result c.loop-view-test.true ∙ sym c.len-in-loop-view.ensures ∙ c.if-len-width.false ∙ c.width.ensures.width)

pub returns : goal.returns
returns c = λ t.
    let views = c.args.views.now in
    let many : length (widths_of (map shown_view views)) ≡ length views = length-map (map shown_view views) _ ∙ length-map views _ in
    let all : length views ≡ length c.args.catalog.now.widths =
    sym c.if-len-views.false ∙ c.len.ensures.len ∙ ap (λ (v : Views). length v.children) c.shape.ensures.views ∙ sym c.shape.ensures.catalog.each_width in
    same_numbers (widths_of (map shown_view views)) c.args.catalog.now.widths (many ∙ all)
    (λ u b. (let end = c.loop-view-test.false in c.loop-view.invariant u (omega (arith, b, many, end))))
