-- A catalogue's shape has as many views as its text.
use Rattle.std.proofs.Common.{◌≡◌, ℕ, suc, List, [], ◌∷◌, length, map, Option, Some, None, Ok, refl, ap, sym, ◌∙◌}
use Rattle.std.proofs.lemmas.List.{length-map}
use Rattle.toml.specs.Data.{Data, Members}
use Rattle.wh_dag.specs.Fault.{first_fault}
use Rattle.wh_dag.specs.Shape.{Views}
use Rattle.wh_dag.specs.Written.{children_written}
use Rattle.wh_dag.specs.declared.fault.ShapeFault.{ShapeFault}
use Rattle.wh_text_catalogue.proofs.CatalogueNames.{gone_on}
use Rattle.wh_text.specs.ValueOrFault.{◌>>=◌}
use Rattle.wh_text_catalogue.specs.Catalogue.{WrittenViews, document_of, views_of, named, view_over, written_views, judged, shape_of, shape_written}

written_views-length : (values : List Data) (views : WrittenViews) → written_views values ≡ Ok views → length views.over ≡ length values
written_views-length [] views same = let none : record { names = []; over = [] } ≡ views = cc in rw (← none) refl
written_views-length (value ∷ rest) views same =
    let name = gone_on (named value) _ views same in
    let over = gone_on (view_over value) _ views name.2 in
    let others = gone_on (written_views rest) _ views over.2 in
    let whole : record { names = name.0 ∷ others.0.names; over = over.0 ∷ others.0.over } ≡ views = cc in
    rw (← whole) (ap suc (written_views-length rest others.0 others.1))

judged-length : (views : WrittenViews) (first : Option ShapeFault) (shape : Views) → judged views first ≡ Ok shape → length shape.children ≡ length views.over
judged-length views None shape same =
    let made : record { names = views.names; children = map (children_written views.names) views.over } ≡ shape = cc in
    rw (← made) (length-map views.over (children_written views.names))
judged-length views (Some fault) shape same = cc

pub shape_of-length : (text : List ℕ) (shape : Views) (document : Members) (tables : List Data) → shape_of text ≡ Ok shape → document_of text ≡ Ok document → views_of document ≡ Some tables
    → length tables ≡ length shape.children
shape_of-length text shape document tables same read found =
    let rest : (written_views tables >>= shape_written) ≡ Ok shape = rw (read, found) at same in
    let views = gone_on (written_views tables) shape_written shape rest in
    sym (judged-length views.0 (first_fault views.0.names views.0.over) shape views.2 ∙ written_views-length tables views.0 views.1)
