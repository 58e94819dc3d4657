use Rattle.std.proofs.Common.{◌≡◌, map, subst, []}
use Rattle.std.specs.Prelude.{Ok}
use Rattle.std.specs.Cow.{cow_slice_items}
use Rattle.wh_text_catalogue.specs.Catalogue.{shape_of}
use Rattle.wh_text_catalogue.specs.Definitions.{definitions_of, shown_view}
use Rattle.wh_opening.specs.OpeningRead.{shown_opening_input}
use Rattle.wh_opening.proofs.OpeningFrom.{opening_from}
use Rattle.wh_opening.proofs.opening.opening_in.Goals as goal

pub returns-clause-ok : goal.returns-clause-ok
returns-clause-ok g c =
    opening_from c.args.bundle.now (cow_slice_items c.in_ok-catalogue.catalogue) c.in_ok-shape.shape (map shown_view c.in_ok-written.written.views.items) c.read_definitions.new.texts
    (shown_opening_input c.in_ok-opening.opening) c.in_ok-catalogue.ensures.ok
    (subst (λ t. shape_of t ≡ Ok c.in_ok-shape.shape) c.deref.ensures.value c.in_ok-shape.ensures.ok)
    (subst (λ t. definitions_of c.in_ok-shape.shape t [] ≡ Ok (map shown_view c.in_ok-written.written.views.items, c.read_definitions.new.texts)) c.deref-2.ensures.value
    (subst (λ ts. definitions_of c.in_ok-shape.shape c.deref-2.result.now ts ≡ Ok (map shown_view c.in_ok-written.written.views.items, c.read_definitions.new.texts)) c.new-texts.ensures c.in_ok-written.ensures.ok))
    c.in_ok-opening.ensures.ok
