-- What is wrong with the further keys of a catalogue's views, each fault by itself and at its place. A place is the number of the view, and
-- which of the view's judgements finds it.
use Rattle.std.specs.Prelude.{◌≡◌, ◌++◌, ◌+◌, ℕ, ◌&&◌, nat_le, not, Bool, true, false, List, [], ◌∷◌, map, flat_map, length, take, slice_get, codes, Option, Some, None, is_some, unwrap_or, option_map, option_and_then, Ok, if◌then◌else◌}
use Rattle.std.specs.List.{list_any}
use Rattle.std.specs.Str.{bytes_eq}
use Rattle.toml.specs.Data.{Data, string, integer, array, table, Items, no_items, item, as_str, get}
use Rattle.wh_dag.specs.Shape.{Views}
use Rattle.wh_formula.specs.declared.comparison.Comparison.{Comparison}
use Rattle.wh_text.specs.Columns.{NamedKind, names_of}
use Rattle.wh_text.specs.FirstFault.{EndsByFirst, Finds, Place, fault_if}
use Rattle.wh_text.specs.declared.columns.Kind.{Kind}
use Rattle.wh_text.specs.declared.columns.Kind.TheVariants.{Int, Text}
use Rattle.wh_text.specs.declared.fault.Key.TheVariants as key
use Rattle.wh_text.specs.declared.fault.LoadFault.{LoadFault}
use Rattle.wh_text.specs.declared.fault.LoadFault.TheVariants as fault
use Rattle.wh_text_catalogue.specs.BaseColumns.{columns_in, is_few}
use Rattle.wh_text_catalogue.specs.Catalogue.{array_of, name_in}
use Rattle.wh_text_catalogue.specs.CatalogueFaults.{CatalogueWrong}
use Rattle.wh_text_catalogue.specs.Definitions.{ViewOf, definitions_of, header_of, views_after}
use Rattle.wh_text_catalogue.specs.Formula.{is_whole_pred}
use Rattle.wh_text_catalogue.specs.FormulaKinds.{Texts, fits_kinds, is_int, unfit}
use Rattle.wh_text_catalogue.specs.Header.{HeaderOf, cell_of}
use Rattle.wh_text_catalogue.specs.Join.{WrittenLink, links_in, same_kind}
use Rattle.wh_text_catalogue.specs.Pairs.{WrittenPair, are_exprs, are_references, pairs_in, reference_in, takes_kind}
use Rattle.wh_text_catalogue.specs.PredForm.{comparison_of}
use Rattle.wh_text_catalogue.specs.Reference.{is_reference}
use Rattle.wh_text_catalogue.specs.declared.definitions.header.Cell.{Cell}
use Rattle.wh_text_catalogue.specs.declared.definitions.typed_pairs.KindRule.{KindRule}
use Rattle.wh_text_catalogue.specs.declared.definitions.typed_pairs.KindRule.TheVariants.{AnyKind, Numbers}

-- What a key says is judged by its form first; the rest is judged of what has the form.

-- the fault of a value's form where it has none, else what is judged of the value
abbrev pub formed : {A : Type 0} → Option A → LoadFault → (A → List (Option LoadFault)) → List (Option LoadFault)
formed None fault judged = Some fault ∷ []
formed (Some value) fault judged = None ∷ judged value

-- the value, none where it does not pass
abbrev pub passing : {A : Type 0} → (A → Bool) → A → Option A
passing passes value = if passes value then Some value else None

-- Names, references and kinds.

-- what is judged of a column's name: it is not among these
abbrev pub name_judged : List (List ℕ) → List ℕ → Option LoadFault
name_judged above name = fault_if (list_any (bytes_eq name) above) (fault.Column name)

-- what is judged of names of columns, one after another, below these
abbrev pub names_judged : List (List ℕ) → List (List ℕ) → List (Option LoadFault)
names_judged above [] = []
names_judged above (name ∷ rest) = name_judged above name ∷ names_judged (above ++ name ∷ []) rest

-- what is judged of a reference: it names a column
abbrev pub reference_judged : List NamedKind → List ℕ → Option LoadFault
reference_judged columns reference = fault_if (not (is_some (cell_of columns reference))) (fault.Column reference)

abbrev mutual
  -- the references of a formula, from left to right
  pub references : Data → List (List ℕ)
  references (string text) = if is_reference text then text ∷ [] else []
  references (array items) = references_in items
  references _ = []

  -- the references of some formulas, from left to right
  pub references_in : Items → List (List ℕ)
  references_in no_items = []
  references_in (item value rest) = references value ++ references_in rest

-- what is judged of the references of a formula
abbrev pub references_judged : List NamedKind → Data → List (Option LoadFault)
references_judged columns value = map (reference_judged columns) (references value)

-- the kind is known, and that of whole numbers
abbrev pub is_number : Option Kind → Bool
is_number None = false
is_number (Some kind) = is_int kind

abbrev mutual
  -- The kind of an expression, none where kinds do not fit. A number and a text literal have their own, a reference has that of the column
  -- it names, and an operation on whole numbers is a whole number
  pub kind_of : List NamedKind → Data → Option Kind
  kind_of columns (integer n) = Some Int
  kind_of columns (string reference) = option_map (λ (cell : Cell). cell.kind) (cell_of columns reference)
  kind_of columns (table literal) = Some Text
  kind_of columns (array (item sign parts)) = if are_numbers columns parts then Some Int else None
  kind_of columns _ = None

  -- these expressions are whole numbers
  pub are_numbers : List NamedKind → Items → Bool
  are_numbers columns no_items = true
  are_numbers columns (item part rest) = is_number (kind_of columns part) && are_numbers columns rest

-- expressions of these kinds may be compared by this comparison
abbrev pub may_compare : Comparison → Option Kind → Option Kind → Bool
may_compare comparison None right = false
may_compare comparison (Some left) None = false
may_compare comparison (Some left) (Some right) = fits_kinds comparison left right

-- what stands under a word fits: the two sides of a comparison, or, under any other word, its predicates
abbrev pub fit_under : List NamedKind → Option Comparison → Items → Bool → Bool
fit_under columns (Some comparison) (item left (item right no_items)) predicates = may_compare comparison (kind_of columns left) (kind_of columns right)
fit_under columns (Some comparison) _ predicates = false
fit_under columns None parts predicates = predicates

abbrev mutual
  -- the kinds of a predicate fit: the sides of each comparison in it may be compared so
  pub kinds_fit : List NamedKind → Data → Bool
  kinds_fit columns (array (item (string word) parts)) = fit_under columns (comparison_of word) parts (all_fit columns parts)
  kinds_fit columns _ = true

  -- the kinds of each of these predicates fit
  pub all_fit : List NamedKind → Items → Bool
  all_fit columns no_items = true
  all_fit columns (item part rest) = kinds_fit columns part && all_fit columns rest

-- the key takes expressions of this kind
abbrev pub takes : KindRule → Option Kind → Bool
takes rule None = false
takes rule (Some kind) = takes_kind rule kind

-- The columns of a base view.

-- the columns that an array of 1 to 64 writes, none where it has another form
abbrev pub columns_form : Data → Option (List NamedKind)
columns_form entry = option_and_then (passing (λ columns. is_few (length columns))) (option_and_then (λ value. option_and_then (columns_in []) (array_of value)) (get (codes "columns") entry))

-- what is judged of a base view
abbrev pub base_judged : Data → List (Option LoadFault)
base_judged entry = formed (columns_form entry) (fault.Key key.Columns) (λ columns. names_judged [] (names_of columns))

-- `join` and `where`.

-- pairs of references, none where the key is missing
abbrev pub links_form : Option Data → Option (List WrittenLink)
links_form None = Some []
links_form (Some value) = option_and_then (links_in []) (array_of value)

-- the two columns are there and of one kind
abbrev pub are_one_kind : Option Cell → Option Cell → Bool
are_one_kind (Some left) (Some right) = same_kind left.kind right.kind
are_one_kind _ _ = false

-- what is judged of the references of a pair
abbrev pub link_judged : List NamedKind → WrittenLink → List (Option LoadFault)
link_judged columns link = reference_judged columns link.left ∷ reference_judged columns link.right ∷ []

-- what is judged of the kinds of a pair
abbrev pub link_kinds_judged : HeaderOf → WrittenLink → Option LoadFault
link_kinds_judged header link = fault_if (not (are_one_kind (cell_of header.columns link.left) (cell_of header.columns link.right))) (unfit header)

-- what is judged of `join`: its form, all its references, the kinds of each pair
abbrev pub join_judged : HeaderOf → Data → List (Option LoadFault)
join_judged header entry = formed (links_form (get (codes "join") entry)) (fault.Key key.Join) (λ links. flat_map (link_judged header.columns) links ++ map (link_kinds_judged header) links)

-- what is judged of `where`, where there is one: its form, its references, its kinds
abbrev pub where_judged : HeaderOf → Option Data → List (Option LoadFault)
where_judged header None = []
where_judged header (Some value) = fault_if (not (is_whole_pred value)) (fault.Key key.Where) ∷ (references_judged header.columns value ++ fault_if (not (kinds_fit header.columns value)) (unfit header) ∷ [])

-- `keep`, `group`, `count` and `sum`.

-- pairs of a name and any value
abbrev pub pairs_form : Data → Option (List WrittenPair)
pairs_form value = option_and_then (pairs_in []) (array_of value)

-- what is judged of the names and references of pairs, pair by pair, below these names
abbrev pub pairs_judged : List NamedKind → List (List ℕ) → List WrittenPair → List (Option LoadFault)
pairs_judged columns above [] = []
pairs_judged columns above (pair ∷ rest) = name_judged above pair.name ∷ (references_judged columns pair.value ++ pairs_judged columns (above ++ pair.name ∷ []) rest)

-- what is judged of the kinds of pairs
abbrev pub kinds_judged : HeaderOf → KindRule → List WrittenPair → List (Option LoadFault)
kinds_judged header rule pairs = map (λ pair. fault_if (not (takes rule (kind_of header.columns pair.value))) (unfit header)) pairs

-- what is judged of `keep`: 1 to 64 pairs of a name and an expression
abbrev pub keep_judged : HeaderOf → Data → List (Option LoadFault)
keep_judged header value =
    formed (option_and_then (passing (λ pairs. is_few (length pairs) && are_exprs pairs)) (pairs_form value)) (fault.Key key.Keep)
    (λ pairs. pairs_judged header.columns [] pairs ++ kinds_judged header AnyKind pairs)

-- pairs of a name and a reference
abbrev pub group_form : Data → Option (List WrittenPair)
group_form value = option_and_then (passing are_references) (pairs_form value)

-- what is judged of the cell that a pair of `group` names
abbrev pub group_judged_cell : HeaderOf → WrittenPair → Option LoadFault
group_judged_cell header pair = fault_if (not (is_some (option_and_then (cell_of header.columns) (reference_in pair.value)))) (unfit header)

-- what is judged of `group`
abbrev pub group_judged : HeaderOf → Data → List (Option LoadFault)
group_judged header value = formed (group_form value) (fault.Key key.Group) (λ pairs. pairs_judged header.columns [] pairs ++ map (group_judged_cell header) pairs)

-- the names that `group` writes
abbrev pub group_names : Data → List (List ℕ)
group_names value = map (λ pair. pair.name) (unwrap_or (group_form value) [])

-- the name that `count` writes
abbrev pub count_form : Data → Option (List ℕ)
count_form entry = option_and_then name_in (option_and_then as_str (get (codes "count") entry))

-- what is judged of `count`, below these names
abbrev pub count_judged : List (List ℕ) → Data → List (Option LoadFault)
count_judged above entry = formed (count_form entry) (fault.Key key.Count) (λ name. name_judged above name ∷ [])

-- pairs of a name and an expression, none where the key is missing
abbrev pub sum_form : Option Data → Option (List WrittenPair)
sum_form None = Some []
sum_form (Some value) = option_and_then (passing are_exprs) (pairs_form value)

-- what is judged of `sum`, below these names: its expressions are of whole numbers
abbrev pub sum_judged : HeaderOf → List (List ℕ) → Option Data → List (Option LoadFault)
sum_judged header above value = formed (sum_form value) (fault.Key key.Sum) (λ pairs. pairs_judged header.columns above pairs ++ kinds_judged header Numbers pairs)

-- how many columns a summary has
abbrev pub width_of : Data → Option Data → ℕ
width_of group sum = length (group_names group) + 1 + length (unwrap_or (sum_form sum) [])

-- what is judged of a summary: `group`, `count`, `sum`, and then how many columns it has
abbrev pub summary_judged : HeaderOf → Data → Data → List (Option LoadFault)
summary_judged header entry group =
    group_judged header group
    ++ (count_judged (group_names group) entry
    ++ (sum_judged header (group_names group ++ unwrap_or (count_form entry) [] ∷ []) (get (codes "sum") entry)
    ++ fault_if (not (nat_le (width_of group (get (codes "sum") entry)) 64)) (fault.Key key.Group) ∷ []))

-- what is judged of the columns of a derived view, by its `keep` and its `group`: it has exactly one of them
abbrev pub output_judged : HeaderOf → Data → Option Data → Option Data → List (Option LoadFault)
output_judged header entry None None = Some (fault.Key key.Keep) ∷ []
output_judged header entry None (Some group) = summary_judged header entry group
output_judged header entry (Some keep) None = keep_judged header keep
output_judged header entry (Some keep) (Some group) = keep_judged header keep ++ Some (fault.Key key.Group) ∷ []

-- All views.

-- what is judged of a derived view, key by key
abbrev pub derived_judged : HeaderOf → Data → List (Option LoadFault)
derived_judged header entry =
    join_judged header entry ++ (where_judged header (get (codes "where") entry) ++ output_judged header entry (get (codes "keep") entry) (get (codes "group") entry))

-- what is judged of a view below these; it is a base view where it is over none
abbrev pub table_judged : Views → List ViewOf → Option Data → Data → List (Option LoadFault)
table_judged shape above None entry = base_judged entry
table_judged shape above (Some over) entry = derived_judged (header_of shape above (length above)) entry

-- what is wrong with the tables of views of this shape; where those above a view are read, they tell what its references name
pub data DefinitionsWrong (shape : Views) (texts : Texts) (tables : List Data) (place : Place) (fault : LoadFault) : Type 0 where
  in_view : (view : ℕ) (entry : Data) (above : List ViewOf) (after : Texts) (judgement : ℕ) → slice_get tables view ≡ Some entry → views_after shape [] (take view tables) texts ≡ Ok (above, after)
      → Finds (table_judged shape above (get (codes "over") entry) entry) judgement fault → place ≡ view ∷ judgement ∷ [] → DefinitionsWrong shape texts tables place fault

-- the definitions of a catalogue end by their first fault, and are some only where there is none
abbrev pub DefinitionsEndByFirst : Type 0
DefinitionsEndByFirst = (shape : Views) (text : List ℕ) (texts : Texts) → EndsByFirst (CatalogueWrong (DefinitionsWrong shape texts) text) (definitions_of shape text texts)
