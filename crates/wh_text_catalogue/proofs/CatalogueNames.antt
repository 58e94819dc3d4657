-- Each view of a catalogue that is read has a name of the form of names.
use Rattle.std.proofs.Common.{◌≡◌, ℕ, true, List, [], ◌∷◌, map, Option, Some, None, ok_or, option_and_then, Result, Ok, Err, refl, inl, inr}
use Rattle.std.proofs.lemmas.Bool.{cases_Bool}
use Rattle.std.proofs.lemmas.List.Sums.{AllPass-from_list_all}
use Rattle.std.specs.List.{AllPass, list_all}
use Rattle.toml.specs.Data.{Data}
use Rattle.wh_dag.specs.Fault.{first_fault}
use Rattle.wh_dag.specs.Shape.{Views}
use Rattle.wh_dag.specs.Written.{children_written}
use Rattle.wh_dag.specs.declared.fault.ShapeFault.{ShapeFault}
use Rattle.wh_text.specs.NameForm.{is_name}
use Rattle.wh_text.specs.declared.fault.LoadFault.{LoadFault}
use Rattle.wh_text.specs.ValueOrFault.{◌>>=◌}
use Rattle.wh_text_catalogue.specs.Catalogue.{WrittenViews, document_of, views_of, name_in, view_name, named, view_over, written_views, judged, shape_of}

-- a chain that ends well went on from a value
pub gone_on : {A B : Type 0} (first : Result A LoadFault) (next : A → Result B LoadFault) (last : B) → (first >>= next) ≡ Ok last → (value : A) × (first ≡ Ok value) × (next value ≡ Ok last)
gone_on (Ok value) next last same = (value, refl, same)
gone_on (Err fault) next last same = cc

pub some_from_ok : {A : Type 0} (found : Option A) (fault : LoadFault) (value : A) → ok_or found fault ≡ Ok value → found ≡ Some value
some_from_ok None fault value same = cc
some_from_ok (Some other) fault value same = cc

name_in-form : (text name : List ℕ) → name_in text ≡ Some name → is_name name ≡ true
name_in-form text name same = elim (cases_Bool (is_name text)) [
  | inl passes ↦ let is_text : text ≡ name = let kept = rw passes at same in cc in rw (← is_text) passes
  | inr fails ↦ let lost = rw fails at same in cc
]

pub form_from : (text : Option (List ℕ)) (name : List ℕ) → option_and_then name_in text ≡ Some name → is_name name ≡ true
form_from None name same = cc
form_from (Some text) name same = name_in-form text name same

named-form : (value : Data) (name : List ℕ) → named value ≡ Ok name → is_name name ≡ true
named-form value name same = form_from _ name (some_from_ok (view_name value) _ name same)

names_have_form : (values : List Data) (views : WrittenViews) → written_views values ≡ Ok views → list_all is_name views.names ≡ true
names_have_form [] views same = let none : record { names = []; over = [] } ≡ views = cc in rw (← none) refl
names_have_form (value ∷ rest) views same =
    let name = gone_on (named value) _ views same in
    let over = gone_on (view_over value) _ views name.2 in
    let others = gone_on (written_views rest) _ views over.2 in
    let whole : record { names = name.0 ∷ others.0.names; over = over.0 ∷ others.0.over } ≡ views = cc in
    rw (← whole, named-form value name.0 name.1, names_have_form rest others.0 others.1) refl

judged-names : (views : WrittenViews) (first : Option ShapeFault) (shape : Views) → judged views first ≡ Ok shape → shape.names ≡ views.names
judged-names views None shape same = let made : record { names = views.names; children = map (children_written views.names) views.over } ≡ shape = cc in rw (← made) refl
judged-names views (Some fault) shape same = cc

pub shape_of-names : (text : List ℕ) (shape : Views) → shape_of text ≡ Ok shape → AllPass is_name shape.names
shape_of-names text shape same =
    let document = gone_on (document_of text) _ shape same in
    let array = gone_on (ok_or (views_of document.0) _) _ shape document.2 in
    let views = gone_on (written_views array.0) _ shape array.2 in
    rw (judged-names views.0 (first_fault views.0.names views.0.over) shape views.2) (AllPass-from_list_all is_name views.0.names (names_have_form array.0 views.0 views.1))
