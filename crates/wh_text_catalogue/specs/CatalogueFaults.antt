-- What is wrong with a catalogue, each fault by itself and at its place: of the document, its views, their names and what each is over, and
-- the shape.
use Rattle.std.specs.Prelude.{◌≡◌, ℕ, ◌++◌, nat_le, nat_lt, not, Bool, true, false, List, [], ◌∷◌, map, length, take, slice_get, codes, Option, Some, None, is_some, unwrap_or, option_and_then, if◌then◌else◌}
use Rattle.std.specs.Str.{is_utf8}
use Rattle.toml.specs.Data.{Data, get}
use Rattle.toml.specs.Parse.{parse_document}
use Rattle.wh_dag.specs.Written.{is_named, name_of, number_of}
use Rattle.wh_dag.specs.declared.fault.ShapeFault.TheVariants.{Duplicate, Unknown, Forward, Repeated, TooMany, EmptyOver}
use Rattle.wh_text.specs.FirstFault.{EndsByFirst, Finds, Place, fault_if}
use Rattle.wh_text.specs.declared.fault.Key.TheVariants as key
use Rattle.wh_text.specs.declared.fault.LoadFault.{LoadFault}
use Rattle.wh_text.specs.declared.fault.LoadFault.TheVariants as fault
use Rattle.wh_text_catalogue.specs.Catalogue.{array_of, shape_of, texts_of, view_name, views_of}

-- The document.

-- the text is UTF-8 and TOML
abbrev pub is_toml : List ℕ → Bool
is_toml text = if is_utf8 text then is_some (parse_document text) else false

-- the tables of the views, none where the text has no array of tables at `view`
abbrev pub tables_in : List ℕ → Option (List Data)
tables_in text = if is_utf8 text then option_and_then views_of (parse_document text) else None

-- what is wrong with a catalogue, where so much is wrong with the tables of its views
pub data CatalogueWrong (Below : List Data → Place → LoadFault → Type 0) (text : List ℕ) (place : Place) (own : LoadFault) : Type 0 where
  no_toml : is_toml text ≡ false → own ≡ fault.Toml → place ≡ 0 ∷ [] → CatalogueWrong Below text place own
  no_views : is_toml text ≡ true → tables_in text ≡ None → own ≡ fault.Key key.View → place ≡ 1 ∷ [] → CatalogueWrong Below text place own
  in_views : (tables : List Data) (within : Place) → tables_in text ≡ Some tables → Below tables within own → place ≡ 2 ∷ within → CatalogueWrong Below text place own

-- Names, and what views are over.

-- the texts of an array
abbrev pub texts_in : Data → Option (List (List ℕ))
texts_in value = option_and_then texts_of (array_of value)

-- what a view is over is no array of texts
abbrev pub is_wrong_over : Option Data → Bool
is_wrong_over None = false
is_wrong_over (Some value) = not (is_some (texts_in value))

-- what is judged of a view's table: its name, and what it is over
abbrev pub keys_judged : Data → List (Option LoadFault)
keys_judged entry = fault_if (not (is_some (view_name entry))) (fault.Key key.Name) ∷ fault_if (is_wrong_over (get (codes "over") entry)) (fault.Key key.Over) ∷ []

-- The shape.

-- the names of the views
abbrev pub view_names : List Data → List (List ℕ)
view_names tables = map (λ entry. unwrap_or (view_name entry) []) tables

-- the names of the views that each is over, none of a base view
abbrev pub view_overs : List Data → List (Option (List (List ℕ)))
view_overs tables = map (λ entry. option_and_then texts_in (get (codes "over") entry)) tables

-- the first view of a name does not stand above the view of this number
abbrev pub is_not_above : ℕ → Option ℕ → Bool
is_not_above view None = false
is_not_above view (Some number) = nat_le view number

-- what is judged of a child of the view, below children of these names: no view has the name; the first that has it is not above; it stood
-- earlier
abbrev pub child_judged : List (List ℕ) → ℕ → List (List ℕ) → List ℕ → List (Option LoadFault)
child_judged names view before child =
    fault_if (not (is_some (number_of names child))) (fault.Shape (Unknown view child))
    ∷ fault_if (is_not_above view (number_of names child)) (fault.Shape (Forward view child))
    ∷ fault_if (is_named before child) (fault.Shape (Repeated view child))
    ∷ []

-- what is judged of the children from left to right, after those before
abbrev pub children_judged : List (List ℕ) → ℕ → List (List ℕ) → List (List ℕ) → List (Option LoadFault)
children_judged names view before [] = []
children_judged names view before (child ∷ rest) = child_judged names view before child ++ children_judged names view (before ++ child ∷ []) rest

-- what is judged of the list that a view is over: that it is not empty, its length, its children
abbrev pub over_judged : List (List ℕ) → ℕ → Option (List (List ℕ)) → List (Option LoadFault)
over_judged names view None = []
over_judged names view (Some []) = Some (fault.Shape (EmptyOver view (name_of names view))) ∷ []
over_judged names view (Some (child ∷ rest)) = fault_if (nat_lt 6 (length (child ∷ rest))) (fault.Shape (TooMany view (name_of names view))) ∷ children_judged names view [] (child ∷ rest)

-- what is judged of a view: that it is not the 65th, that no view above has its name, what it is over
abbrev pub view_judged : List (List ℕ) → ℕ → Option (List (List ℕ)) → List (Option LoadFault)
view_judged names view over =
    fault_if (nat_le 64 view) (fault.Shape (TooMany view (name_of names view)))
    ∷ fault_if (is_named (take view names) (name_of names view)) (fault.Shape (Duplicate view (name_of names view)))
    ∷ over_judged names view over

-- what is wrong with the names of views and the shape that they make: first the keys of each view, then the shape
pub data ShapeWrong (tables : List Data) (place : Place) (fault : LoadFault) : Type 0 where
  in_keys : (view : ℕ) (entry : Data) (judgement : ℕ) → slice_get tables view ≡ Some entry → Finds (keys_judged entry) judgement fault → place ≡ 0 ∷ view ∷ judgement ∷ [] → ShapeWrong tables place fault
  in_shape : (view : ℕ) (over : Option (List (List ℕ))) (judgement : ℕ) → slice_get (view_overs tables) view ≡ Some over → Finds (view_judged (view_names tables) view over) judgement fault
      → place ≡ 1 ∷ view ∷ judgement ∷ [] → ShapeWrong tables place fault

-- the shape of a catalogue ends by its first fault, and is one only where it has none
abbrev pub ShapesEndByFirst : Type 0
ShapesEndByFirst = (text : List ℕ) → EndsByFirst (CatalogueWrong ShapeWrong text) (shape_of text)
