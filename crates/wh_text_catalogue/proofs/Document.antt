-- The outcome of a text that is a document, of one that is none, and the array of the views.
use Rattle.std.proofs.Common.{◌≡◌, ℕ, Bool, List, [], ◌∷◌, map, Option, Some, None, option_map, Ok, Err, Vec, Global, Bor, refl, sym, ap, ◌∙◌, inl, inr, if◌then◌else◌}
use Rattle.std.specs.List.{list_all}
use Rattle.std.specs.Str.{IsUtf8, is_utf8}
use Rattle.std.proofs.lemmas.Bool.{cases_Bool}
use Rattle.std.proofs.lemmas.List.Folds.{list_all-map}
use Rattle.std.proofs.lemmas.Str.{IsUtf8-from_is_utf8, is_utf8-from_IsUtf8}
use Rattle.toml.specs.Data.{Data, Members, as_array}
use Rattle.toml.specs.Parse.{parse_document}
use Rattle.toml.specs.View.{array_view, items_of, view}
use Rattle.toml.specs.declared.value.Value.{Value}
use Rattle.wh_text.specs.declared.fault.LoadFault.TheVariants as fault
use Rattle.wh_text_catalogue.specs.Catalogue.{array_of, document_of, elements, is_table, tables_of}

pub document_of-read : (text : List ℕ) (document : Members) → IsUtf8 text → parse_document text ≡ Some document → document_of text ≡ Ok document
document_of-read text document utf8 parsed = rw (is_utf8-from_IsUtf8 text utf8, parsed) refl

pub document_of-refused : (text : List ℕ) → (IsUtf8 text → parse_document text ≡ None) → document_of text ≡ Err fault.Toml
document_of-refused text refused = elim (cases_Bool (is_utf8 text)) [
  | inl utf8 ↦ rw (utf8, refused (IsUtf8-from_is_utf8 text utf8)) refl
  | inr other ↦ rw other refl
]

-- the values of an array in memory
pub elements-items_of : (values : List Data) → elements (items_of values) ≡ values
elements-items_of [] = refl
elements-items_of (value ∷ rest) = ap (λ values. value ∷ values) (elements-items_of rest)

pub array_of-seen : (found : Option (Bor (Vec Value Global))) (value : Data) → option_map (λ values. array_view values.now) found ≡ as_array value → option_map (λ values. map view values.now.items) found ≡ array_of value
array_of-seen None value same = ap (option_map elements) same
array_of-seen (Some values) value same = ap Some (sym (elements-items_of (map view values.now.items))) ∙ ap (option_map elements) same

pub tables_of-seen : (values : List Value) (all : Bool) → list_all (λ value. is_table (view value)) values ≡ all → tables_of (map view values) ≡ (if all then Some (map view values) else None)
tables_of-seen values all same = rw (list_all-map is_table view values, same) refl
