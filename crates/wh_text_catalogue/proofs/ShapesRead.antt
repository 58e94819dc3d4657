-- The child lists that the text of a catalogue gives are those of a shape.
use Rattle.std.proofs.Common.{◌≡◌, ℕ, suc, List, [], ◌∷◌, length, refl, sym, ap, subst, Option, Some, None, Result, Ok, Err}
use Rattle.toml.specs.Data.{Data}
use Rattle.wh_dag.specs.Fault.{first_fault}
use Rattle.wh_dag.specs.Shape.{IsShape, Views}
use Rattle.wh_dag.specs.declared.fault.ShapeFault.{ShapeFault}
use Rattle.wh_dag.proofs.Faultless.{well_formed}
use Rattle.wh_dag.proofs.Made.{shape_of as made_shape}
use Rattle.wh_text.specs.declared.fault.Key.TheVariants as key
use Rattle.wh_text.specs.declared.fault.LoadFault.{LoadFault}
use Rattle.wh_text.specs.declared.fault.LoadFault.TheVariants as fault
use Rattle.wh_text.specs.ValueOrFault.{◌>>=◌}
use Rattle.wh_text_catalogue.specs.Catalogue.{WrittenViews, document_of, judged, named, shape_of, view_over, views_of, written_views}
use Rattle.std.specs.Prelude.{ok_or}

-- a value that comes of a step is that of the next step
pub from_step : {A B : Type 0} (first : Result A LoadFault) (next : A → Result B LoadFault) (value : B) → (first >>= next) ≡ Ok value
    → (a : A) × (first ≡ Ok a) × (next a ≡ Ok value)
from_step (Ok a) next value e = (a, refl, e)
from_step (Err f) next value e = cc

pub same_Ok : {A : Type 0} (read : Result A LoadFault) (first second : A) → read ≡ Ok first → read ≡ Ok second → first ≡ second
same_Ok read first second e f = cc

-- as many names as lists
pub same_length : (values : List Data) (views : WrittenViews) → written_views values ≡ Ok views → length views.names ≡ length views.over
same_length [] views e = subst (λ v. length v.names ≡ length v.over) (same_Ok _ _ _ refl e) refl
same_length (value ∷ rest) views e =
    let name = from_step (named value) _ views e in
    let over = from_step (view_over value) _ views name.2 in
    let others = from_step (written_views rest) _ views over.2 in
    subst (λ v. length v.names ≡ length v.over) (same_Ok _ _ _ refl others.2) (ap suc (same_length rest others.0 others.1))

judged_shape : (views : WrittenViews) (o : Option ShapeFault) (shape : Views) → o ≡ first_fault views.names views.over → length views.names ≡ length views.over
    → judged views o ≡ Ok shape → IsShape shape.children
judged_shape views None shape is same e =
    subst (λ s. IsShape s.children) (same_Ok _ _ _ refl e) (made_shape views.names views.over (well_formed views.names views.over same (sym is)))
judged_shape views (Some f) shape is same e = cc

pub is_shape : (text : List ℕ) (shape : Views) → shape_of text ≡ Ok shape → IsShape shape.children
is_shape text shape e =
    let document = from_step (document_of text) _ shape e in
    let views = from_step (ok_or (views_of document.0) (fault.Key key.View)) _ shape document.2 in
    let written = from_step (written_views views.0) _ shape views.2 in
    judged_shape written.0 (first_fault written.0.names written.0.over) shape refl (same_length views.0 written.0 written.1) written.2
