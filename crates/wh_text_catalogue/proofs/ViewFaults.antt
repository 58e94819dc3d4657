-- The first fault of the further keys of a catalogue's views.
use Rattle.std.proofs.Common.{◌≡◌, ◌<◌, ◌+◌, ℕ, zero, suc, Bool, true, false, ◌&&◌, List, [], ◌∷◌, ◌++◌, length, map, take, Option, Some, None, Result, Ok, Err, ◌⊎◌, inl, inr, refl, sym, ap, subst, ◌∙◌, arith, append_assoc, length-append}
use Rattle.std.specs.Prelude.{codes, flat_map, if◌then◌else◌, is_some, nat_le, not, ok_or, option_and_then, option_map, slice_get, unwrap_or}
use Rattle.std.specs.List.{list_any}
use Rattle.std.specs.Option.{option_or}
use Rattle.std.specs.Result.{result_err}
use Rattle.std.specs.Str.{bytes_eq}
use Rattle.std.proofs.lemmas.Bool.{and_parts}
use Rattle.std.proofs.lemmas.List.{append-nil, length-map}
use Rattle.toml.specs.Data.{Data, get, string}
use Rattle.wh_dag.specs.Catalog.{Keep, Sums}
use Rattle.wh_dag.specs.Shape.{Views}
use Rattle.wh_formula.specs.Pred.{PredTree}
use Rattle.wh_text.specs.Columns.{NamedKind, names_of}
use Rattle.wh_text.specs.FirstFault.{EndsByFirst, Finds, IsBefore, IsFirstFault, Place, fault_if}
use Rattle.wh_text.specs.declared.fault.Key.TheVariants as key
use Rattle.wh_text.specs.declared.fault.LoadFault.{LoadFault}
use Rattle.wh_text.specs.declared.fault.LoadFault.TheVariants as fault
use Rattle.wh_text.proofs.FirstFaults.{IsFirstOf, first_of, first_of-append, is-first, none-finds}
use Rattle.wh_text_catalogue.specs.BaseColumns.{base_columns, columns_in, columns_written, is_few}
use Rattle.wh_text.specs.ValueOrFault.{◌>>=◌}
use Rattle.wh_text_catalogue.specs.Catalogue.{array_of}
use Rattle.wh_text_catalogue.specs.ColumnNames.{Seen, checked, fresh_columns, fresh_name, unless_unknown}
use Rattle.wh_text_catalogue.specs.Definitions.{ViewOf, ViewOutcome, derived_view, header_of, next_view, view_at, views_after}
use Rattle.wh_text_catalogue.specs.ExprForm.{Reference, is_expr, parts_pass}
use Rattle.wh_text_catalogue.specs.Filter.{filter_at, filter_of}
use Rattle.wh_text_catalogue.specs.Formula.{is_whole_expr, is_whole_pred, unknown_column, unknown_in_test, whole_pred}
use Rattle.wh_text_catalogue.specs.FormulaColumns.{unknown}
use Rattle.wh_text_catalogue.specs.FormulaKinds.{Texts, unfit}
use Rattle.wh_text_catalogue.specs.Header.{HeaderOf, cell_of}
use Rattle.wh_text_catalogue.specs.Join.{WrittenLink, join_of, joined, joined_link, links_written, same_kind, unknown_in_links}
use Rattle.wh_text_catalogue.specs.Output.{ColumnsOf, Groups, OutputOutcome, count_column, count_written, group_written, groups_of, joined_columns, output_at, output_of, summary_columns, sum_pairs_at, sum_columns}
use Rattle.wh_text_catalogue.specs.Pairs.{GroupColumns, TypedColumns, WrittenPair, are_exprs, are_references, group_cell, group_columns, grouped, known_pairs, pairs_written, reference_in, typed_cell, typed_columns, typed_pairs, with_cell, with_expr}
use Rattle.wh_text_catalogue.specs.Reference.{is_reference}
use Rattle.wh_text_catalogue.specs.ViewFaults.{DefinitionsEndByFirst, DefinitionsWrong, are_one_kind, base_judged, columns_form, count_form, count_judged, derived_judged, formed, group_form, group_judged, group_judged_cell, group_names, in_view, join_judged, keep_judged, kind_of, kinds_fit, kinds_judged, link_judged, link_kinds_judged, links_form, name_judged, names_judged, output_judged, pairs_form, pairs_judged, passing, reference_judged, references_judged, sum_form, sum_judged, summary_judged, table_judged, takes, where_judged, width_of}
use Rattle.wh_text_catalogue.specs.declared.definitions.header.Cell.{Cell}
use Rattle.wh_text_catalogue.specs.declared.definitions.typed_pairs.KindRule.{KindRule}
use Rattle.wh_text_catalogue.specs.declared.definitions.typed_pairs.KindRule.TheVariants.{AnyKind, Numbers}
use Rattle.wh_text_catalogue.specs.declared.definitions.formula_kinds.TypedExpr.{TypedExpr}
use Rattle.wh_text_catalogue.proofs.CatalogueFaults.{catalogue-ends}
use Rattle.wh_text_catalogue.proofs.CatalogueNames.{gone_on}
use Rattle.wh_text_catalogue.proofs.FormulaFaults.{column-judged, kind-judged, kinds-judged, test-judged, unknown-judged}

-- Steps.

-- a step that is judged once, and what follows it
one-judged : {A B : Type 0} (first : Result A LoadFault) (next : A → Result B LoadFault) (judgement : Option LoadFault) (more : List (Option LoadFault)) → result_err first ≡ judgement
    → ((value : A) → first ≡ Ok value → result_err (next value) ≡ first_of more) → result_err (first >>= next) ≡ first_of (judgement ∷ more)
one-judged (Err f) next judgement more e rest = ap (λ o. option_or o (first_of more)) e
one-judged (Ok value) next judgement more e rest = rest value refl ∙ ap (λ o. option_or o (first_of more)) e

-- a step that is judged so, and what follows it
then-judged : {A B : Type 0} (first : Result A LoadFault) (next : A → Result B LoadFault) (judged more : List (Option LoadFault)) → result_err first ≡ first_of judged
    → ((value : A) → first ≡ Ok value → result_err (next value) ≡ first_of more) → result_err (first >>= next) ≡ first_of (judged ++ more)
then-judged (Err f) next judged more e rest = ap (λ o. option_or o (first_of more)) e ∙ sym (first_of-append judged more)
then-judged (Ok value) next judged more e rest = rest value refl ∙ ap (λ o. option_or o (first_of more)) e ∙ sym (first_of-append judged more)

-- what follows a last step has no fault
last-judged : {A B : Type 0} (first : Result A LoadFault) (next : A → B) (judged : List (Option LoadFault)) → result_err first ≡ first_of judged → result_err (first >>= (λ value. Ok (next value))) ≡ first_of judged
last-judged (Err f) next judged e = e
last-judged (Ok value) next judged e = e

formed-judged : {A B : Type 0} (o : Option A) (first : LoadFault) (next : A → Result B LoadFault) (judged : A → List (Option LoadFault)) → ((value : A) → o ≡ Some value → result_err (next value) ≡ first_of (judged value))
    → result_err (ok_or o first >>= next) ≡ first_of (formed o first judged)
formed-judged None first next judged each = refl
formed-judged (Some value) first next judged each = each value refl

-- a test after a form is the form of what passes
passing-is : {A : Type 0} (o : Option A) (first : LoadFault) (passes : A → Bool) → (ok_or o first >>= (λ value. checked (passes value) first value)) ≡ ok_or (option_and_then (passing passes) o) first
passing-is None first passes = refl
passing-is (Some value) first passes = by (passes value)
  where
    by : (b : Bool) → checked b first value ≡ ok_or (if b then Some value else None) first
    by true = refl
    by false = refl

passed : {A : Type 0} (passes : A → Bool) (o : Option A) (value : A) → option_and_then (passing passes) o ≡ Some value → (o ≡ Some value) × (passes value ≡ true)
passed passes None value e = cc
passed {A} passes (Some own) value e = by (passes own) refl e
  where
    by : (b : Bool) → passes own ≡ b → (if b then Some own else None) ≡ Some value → (Some own ≡ Some value) × (passes value ≡ true)
    by true is e = (e, (let same : own ≡ value = cc in ap passes (sym same) ∙ is))
    by false is e = cc

unless-judged : {A : Type 0} (o : Option (List ℕ)) (value : A) → result_err (unless_unknown o value) ≡ option_map fault.Column o
unless-judged None value = refl
unless-judged (Some text) value = refl

unless-same : {A : Type 0} (o : Option (List ℕ)) (value own : A) → unless_unknown o value ≡ Ok own → value ≡ own
unless-same None value own e = cc
unless-same (Some text) value own e = cc

-- Names.

fresh-judged : (above : Seen) (name : List ℕ) → result_err (fresh_name above name) ≡ name_judged above name
fresh-judged above name = by (list_any (bytes_eq name) above)
  where
    by : (b : Bool) → result_err (if b then Err (fault.Column name) else Ok (above ++ name ∷ [])) ≡ fault_if b (fault.Column name)
    by true = refl
    by false = refl

fresh-is : (above : Seen) (name : List ℕ) (names : Seen) → fresh_name above name ≡ Ok names → names ≡ above ++ name ∷ []
fresh-is above name names e = by (list_any (bytes_eq name) above) e
  where
    by : (b : Bool) → (if b then Err (fault.Column name) else Ok (above ++ name ∷ [])) ≡ Ok names → names ≡ above ++ name ∷ []
    by true e = cc
    by false e = cc

columns-judged : (above : Seen) (columns : List NamedKind) → result_err (fresh_columns above columns) ≡ first_of (names_judged above (names_of columns))
columns-judged above [] = refl
columns-judged above (column ∷ rest) =
    one-judged (fresh_name above column.name) (λ names. fresh_columns names rest) (name_judged above column.name) (names_judged (above ++ column.name ∷ []) (names_of rest)) (fresh-judged above column.name)
    (λ names e. columns-judged names rest ∙ ap (λ ns. first_of (names_judged ns (names_of rest))) (fresh-is above column.name names e))

-- A base view.

columns-formed : {B : Type 0} (o : Option Data) (next : List NamedKind → Result B LoadFault)
    → ((ok_or o (fault.Key key.Columns) >>= columns_written) >>= next)
    ≡ (ok_or (option_and_then (passing (λ columns. is_few (length columns))) (option_and_then (λ value. option_and_then (columns_in []) (array_of value)) o)) (fault.Key key.Columns) >>= next)
columns-formed None next = refl
columns-formed (Some value) next = ap (λ (r : Result (List NamedKind) LoadFault). r >>= next) (passing-is (option_and_then (columns_in []) (array_of value)) (fault.Key key.Columns) (λ columns. is_few (length columns)))

then-then : {A B C : Type 0} (first : Result A LoadFault) (next : A → Result B LoadFault) (last : B → Result C LoadFault) → (first >>= (λ value. next value >>= last)) ≡ ((first >>= next) >>= last)
then-then (Ok value) next last = refl
then-then (Err f) next last = refl

base-judged : (entry : Data) → result_err (base_columns entry) ≡ first_of (base_judged entry)
base-judged entry =
    let next : List NamedKind → Result (List NamedKind) LoadFault = λ columns. fresh_columns [] columns >>= (λ names. Ok columns) in
    ap result_err (then-then (ok_or (get (codes "columns") entry) (fault.Key key.Columns)) columns_written next ∙ columns-formed (get (codes "columns") entry) next)
    ∙ formed-judged (columns_form entry) (fault.Key key.Columns) next (λ columns. names_judged [] (names_of columns))
    (λ columns e. last-judged (fresh_columns [] columns) (λ names. columns) (names_judged [] (names_of columns)) (columns-judged [] columns))

-- `join`.

link-columns : (columns : List NamedKind) (links : List WrittenLink) → option_map fault.Column (unknown_in_links columns links) ≡ first_of (flat_map (link_judged columns) links)
link-columns columns [] = refl
link-columns columns (link ∷ rest) = by (unknown columns link.left) (unknown columns link.right) (unknown-judged columns link.left) (unknown-judged columns link.right) (link-columns columns rest)
  where
    by : (left right : Option (List ℕ)) → option_map fault.Column left ≡ reference_judged columns link.left → option_map fault.Column right ≡ reference_judged columns link.right
        → option_map fault.Column (unknown_in_links columns rest) ≡ first_of (flat_map (link_judged columns) rest)
        → option_map fault.Column (option_or (option_or left right) (unknown_in_links columns rest))
        ≡ option_or (reference_judged columns link.left) (option_or (reference_judged columns link.right) (first_of (flat_map (link_judged columns) rest)))
    by (Some l) right a b more = ap (λ o. option_or o (option_or (reference_judged columns link.right) (first_of (flat_map (link_judged columns) rest)))) a
    by None (Some r) a b more = ap (λ o. option_or o (first_of (flat_map (link_judged columns) rest))) b ∙ ap (λ o. option_or o (option_or (reference_judged columns link.right) (first_of (flat_map (link_judged columns) rest)))) a
    by None None a b more =
        more ∙ ap (λ o. option_or o (first_of (flat_map (link_judged columns) rest))) b ∙ ap (λ o. option_or o (option_or (reference_judged columns link.right) (first_of (flat_map (link_judged columns) rest)))) a

link-kinds : (header : HeaderOf) (link : WrittenLink) → result_err (joined_link header link.left link.right) ≡ link_kinds_judged header link
link-kinds header link = by (cell_of header.columns link.left) (cell_of header.columns link.right)
  where
    tested : (places : ℕ × ℕ) (b : Bool) → result_err (checked b (unfit header) places) ≡ fault_if (not b) (unfit header)
    tested places true = refl
    tested places false = refl

    by : (left right : Option Cell)
        → result_err {T = ℕ × ℕ} (ok_or left (unfit header) >>= (λ first. ok_or right (unfit header) >>= (λ second. checked (same_kind first.kind second.kind) (unfit header) (first.place, second.place))))
        ≡ fault_if (not (are_one_kind left right)) (unfit header)
    by None right = refl
    by (Some left) None = refl
    by (Some left) (Some right) = tested (left.place, right.place) (same_kind left.kind right.kind)

joined-judged : (header : HeaderOf) (found : List (ℕ × ℕ)) (links : List WrittenLink) → result_err (joined header found links) ≡ first_of (map (link_kinds_judged header) links)
joined-judged header found [] = refl
joined-judged header found (link ∷ rest) =
    one-judged (joined_link header link.left link.right) (λ (places : ℕ × ℕ). joined header (found ++ places ∷ []) rest) (link_kinds_judged header link) (map (link_kinds_judged header) rest) (link-kinds header link)
    (λ places e. joined-judged header (found ++ places ∷ []) rest)

links-formed : (o : Option Data) → links_written o ≡ ok_or (links_form o) (fault.Key key.Join)
links-formed None = refl
links-formed (Some value) = refl

join-judged : (header : HeaderOf) (entry : Data) → result_err (join_of header entry) ≡ first_of (join_judged header entry)
join-judged header entry =
    let next : List WrittenLink → Result (List (ℕ × ℕ)) LoadFault = λ links. unless_unknown (unknown_in_links header.columns links) links >>= joined header [] in
    ap (λ (r : Result (List WrittenLink) LoadFault). result_err (r >>= next)) (links-formed (get (codes "join") entry))
    ∙ formed-judged (links_form (get (codes "join") entry)) (fault.Key key.Join) next (λ links. flat_map (link_judged header.columns) links ++ map (link_kinds_judged header) links)
    (λ links e. then-judged (unless_unknown (unknown_in_links header.columns links) links) (joined header []) (flat_map (link_judged header.columns) links) (map (link_kinds_judged header) links)
    (unless-judged (unknown_in_links header.columns links) links ∙ link-columns header.columns links)
    (λ known same. joined-judged header [] known ∙ ap (λ ls. first_of (map (link_kinds_judged header) ls)) (sym (unless-same (unknown_in_links header.columns links) links known same))))

-- `where`.

option_or-None : {T : Type 0} (o : Option T) → option_or o None ≡ o
option_or-None None = refl
option_or-None (Some x) = refl

where-judged : (header : HeaderOf) (o : Option Data) (texts : Texts) → result_err (filter_at header o texts) ≡ first_of (where_judged header o)
where-judged header None texts = refl
where-judged header (Some value) texts = by (is_whole_pred value) refl
  where
    known : (is_whole_pred value ≡ true)
        → result_err (unless_unknown (unknown_in_test header.columns value) value >>= (λ own. whole_pred header own texts)) ≡ first_of (references_judged header.columns value ++ fault_if (not (kinds_fit header.columns value)) (unfit header) ∷ [])
    known is =
        then-judged (unless_unknown (unknown_in_test header.columns value) value) (λ own. whole_pred header own texts) (references_judged header.columns value) (fault_if (not (kinds_fit header.columns value)) (unfit header) ∷ [])
        (unless-judged (unknown_in_test header.columns value) value ∙ test-judged header.columns value is)
        (λ own same. ap (λ d. result_err (whole_pred header d texts)) (sym (unless-same (unknown_in_test header.columns value) value own same)) ∙ kinds-judged header value texts is
        ∙ sym (option_or-None (fault_if (not (kinds_fit header.columns value)) (unfit header))))

    by : (b : Bool) → is_whole_pred value ≡ b
        → result_err (checked b (fault.Key key.Where) value >>= (λ own. unless_unknown (unknown_in_test header.columns own) own >>= (λ own. whole_pred header own texts)))
        ≡ first_of (fault_if (not b) (fault.Key key.Where) ∷ (references_judged header.columns value ++ fault_if (not (kinds_fit header.columns value)) (unfit header) ∷ []))
    by true is = known is
    by false is = refl

-- Pairs.

-- each value is one whose first unknown reference is judged so
abbrev AreReferring : List NamedKind → List WrittenPair → Type 0
AreReferring columns [] = Unit {0}
AreReferring columns (pair ∷ rest) = (option_map fault.Column (unknown_column columns pair.value) ≡ first_of (references_judged columns pair.value)) × AreReferring columns rest

exprs-referring : (columns : List NamedKind) (pairs : List WrittenPair) → are_exprs pairs ≡ true → AreReferring columns pairs
exprs-referring columns [] e = tt
exprs-referring columns (pair ∷ rest) e =
    let parts = and_parts (is_whole_expr pair.value) (are_exprs rest) e in
    (column-judged columns pair.value parts.0, exprs-referring columns rest parts.1)

-- the names of pairs
abbrev names_in_pairs : List WrittenPair → List (List ℕ)
names_in_pairs pairs = map (λ pair. pair.name) pairs

pairs-judge : (columns : List NamedKind) (above : Seen) (pairs : List WrittenPair) → AreReferring columns pairs → result_err (known_pairs columns above pairs) ≡ first_of (pairs_judged columns above pairs)
pairs-judge columns above [] are = refl
pairs-judge columns above (pair ∷ rest) are =
    one-judged (fresh_name above pair.name) (λ names. unless_unknown (unknown_column columns pair.value) names >>= (λ known. known_pairs columns known rest)) (name_judged above pair.name)
    (references_judged columns pair.value ++ pairs_judged columns (above ++ pair.name ∷ []) rest) (fresh-judged above pair.name)
    (λ names e. then-judged (unless_unknown (unknown_column columns pair.value) names) (λ known. known_pairs columns known rest) (references_judged columns pair.value) (pairs_judged columns (above ++ pair.name ∷ []) rest)
    (unless-judged (unknown_column columns pair.value) names ∙ are.0)
    (λ known same. pairs-judge columns known rest are.1 ∙ ap (λ ns. first_of (pairs_judged columns ns rest)) (sym (unless-same (unknown_column columns pair.value) names known same) ∙ fresh-is above pair.name names e)))

pairs-known : (columns : List NamedKind) (above names : Seen) (pairs : List WrittenPair) → known_pairs columns above pairs ≡ Ok names → names ≡ above ++ names_in_pairs pairs
pairs-known columns above names [] e = (let same : above ≡ names = cc in sym same ∙ sym (append-nil above))
pairs-known columns above names (pair ∷ rest) e =
    let fresh = gone_on (fresh_name above pair.name) _ names e in
    let known = gone_on (unless_unknown (unknown_column columns pair.value) fresh.0) _ names fresh.2 in
    let here = sym (unless-same (unknown_column columns pair.value) fresh.0 known.0 known.1) ∙ fresh-is above pair.name fresh.0 fresh.1 in
    pairs-known columns known.0 names rest known.2 ∙ ap (λ ns. ns ++ names_in_pairs rest) here ∙ append_assoc above (pair.name ∷ []) (names_in_pairs rest)

typed-judged : (header : HeaderOf) (rule : KindRule) (found : TypedColumns) (pairs : List WrittenPair) (texts : Texts) → are_exprs pairs ≡ true → result_err (typed_pairs header rule found pairs texts) ≡ first_of (kinds_judged header rule pairs)
typed-judged header rule found [] texts e = refl
typed-judged header rule found (pair ∷ rest) texts e =
    let parts = and_parts (is_whole_expr pair.value) (are_exprs rest) e in
    one-judged (typed_cell header rule pair.value texts) (λ (typed : TypedExpr × Texts). typed_pairs header rule (with_expr found pair.name typed.0) rest typed.1)
    (fault_if (not (takes rule (kind_of header.columns pair.value))) (unfit header)) (kinds_judged header rule rest) (kind-judged header rule pair.value texts parts.0)
    (λ typed is. typed-judged header rule (with_expr found pair.name typed.0) rest typed.1 parts.1)

typed-length : (header : HeaderOf) (rule : KindRule) (found : TypedColumns) (pairs : List WrittenPair) (texts : Texts) (read : TypedColumns × Texts) → typed_pairs header rule found pairs texts ≡ Ok read
    → length read.0.columns ≡ length found.columns + length pairs
typed-length header rule found [] texts read e =
    let same : (found, texts) ≡ read = cc in
    let own : found ≡ read.0 = ap (λ (p : TypedColumns × Texts). p.0) same in
    let long : length found.columns ≡ length read.0.columns = ap (λ (c : TypedColumns). length c.columns) own in
    omega arith
typed-length header rule found (pair ∷ rest) texts read e =
    let typed = gone_on (typed_cell header rule pair.value texts) _ read e in
    let more = typed-length header rule (with_expr found pair.name typed.0.0) rest typed.0.1 read typed.2 in
    let one = length-append found.columns (record { name = pair.name; kind = typed.0.0.kind } ∷ []) in
    omega arith

grouped-judged : (header : HeaderOf) (found : GroupColumns) (pairs : List WrittenPair) → result_err (grouped header found pairs) ≡ first_of (map (group_judged_cell header) pairs)
grouped-judged header found [] = refl
grouped-judged header found (pair ∷ rest) =
    one-judged (group_cell header pair.value) (λ cell. grouped header (with_cell found pair.name cell) rest) (group_judged_cell header pair) (map (group_judged_cell header) rest)
    (by (option_and_then (cell_of header.columns) (reference_in pair.value))) (λ cell e. grouped-judged header (with_cell found pair.name cell) rest)
  where
    by : (o : Option Cell) → result_err (ok_or o (unfit header)) ≡ fault_if (not (is_some o)) (unfit header)
    by None = refl
    by (Some cell) = refl

grouped-length : (header : HeaderOf) (found read : GroupColumns) (pairs : List WrittenPair) → grouped header found pairs ≡ Ok read → length read.columns ≡ length found.columns + length pairs
grouped-length header found read [] e =
    let same : found ≡ read = cc in
    let long : length found.columns ≡ length read.columns = ap (λ (c : GroupColumns). length c.columns) same in
    omega arith
grouped-length header found read (pair ∷ rest) e =
    let cell = gone_on (group_cell header pair.value) _ read e in
    let more = grouped-length header (with_cell found pair.name cell.0) read rest cell.2 in
    let one = length-append found.columns (record { name = pair.name; kind = cell.0.kind } ∷ []) in
    omega arith

-- `keep`.

abbrev keeps : List WrittenPair → Bool
keeps pairs = is_few (length pairs) && are_exprs pairs

keep-judged : (header : HeaderOf) (value : Data) (texts : Texts) → result_err (joined_columns header value texts) ≡ first_of (keep_judged header value)
keep-judged header value texts =
    let last : List WrittenPair → OutputOutcome = λ pairs. typed_pairs header AnyKind (typed_columns [] []) pairs texts >>= (λ (typed : TypedColumns × Texts). Ok (record { columns = typed.0.columns; output = Keep typed.0.exprs }, typed.1)) in
    let next : List WrittenPair → OutputOutcome = λ pairs. known_pairs header.columns [] pairs >>= (λ names. last pairs) in
    ap result_err (then-then (pairs_written key.Keep value) (λ pairs. checked (keeps pairs) (fault.Key key.Keep) pairs) next ∙ ap (λ (r : Result (List WrittenPair) LoadFault). r >>= next) (passing-is (pairs_form value) (fault.Key key.Keep) keeps))
    ∙ formed-judged (option_and_then (passing keeps) (pairs_form value)) (fault.Key key.Keep) next (λ pairs. pairs_judged header.columns [] pairs ++ kinds_judged header AnyKind pairs)
    (λ pairs e. then-judged (known_pairs header.columns [] pairs) (λ names. last pairs) (pairs_judged header.columns [] pairs) (kinds_judged header AnyKind pairs)
    (pairs-judge header.columns [] pairs (exprs-referring header.columns pairs (and_parts (is_few (length pairs)) (are_exprs pairs) (passed keeps (pairs_form value) pairs e).1).1))
    (λ names same. last-judged (typed_pairs header AnyKind (typed_columns [] []) pairs texts) (λ (typed : TypedColumns × Texts). (record { columns = typed.0.columns; output = Keep typed.0.exprs }, typed.1))
    (kinds_judged header AnyKind pairs) (typed-judged header AnyKind (typed_columns [] []) pairs texts (and_parts (is_few (length pairs)) (are_exprs pairs) (passed keeps (pairs_form value) pairs e).1).1)))

-- `group`.

-- a reference is an expression
reference-expr : (value : Data) → is_some (reference_in value) ≡ true → is_whole_expr value ≡ true
unfolding is_whole_expr
reference-expr (string text) e = by (is_reference text) e
  where
    by : (b : Bool) → is_some (if b then Some text else None) ≡ true → parts_pass (is_expr 63) (if b then Some (Reference text) else None) ≡ true
    by true e = refl
    by false e = cc
reference-expr _ e = cc

references-referring : (columns : List NamedKind) (pairs : List WrittenPair) → are_references pairs ≡ true → AreReferring columns pairs
references-referring columns [] e = tt
references-referring columns (pair ∷ rest) e =
    let parts = and_parts (is_some (reference_in pair.value)) (are_references rest) e in
    (column-judged columns pair.value (reference-expr pair.value parts.0), references-referring columns rest parts.1)

group-written : (value : Data) → group_written value ≡ ok_or (group_form value) (fault.Key key.Group)
group-written value = passing-is (pairs_form value) (fault.Key key.Group) are_references

group-judged : (header : HeaderOf) (value : Data) → result_err (groups_of header value) ≡ first_of (group_judged header value)
group-judged header value =
    let last : Seen → List WrittenPair → Result Groups LoadFault = λ names pairs. grouped header (group_columns [] []) pairs >>= (λ found. Ok (record { names = names; found = found })) in
    let next : List WrittenPair → Result Groups LoadFault = λ pairs. known_pairs header.columns [] pairs >>= (λ names. last names pairs) in
    ap (λ (r : Result (List WrittenPair) LoadFault). result_err (r >>= next)) (group-written value)
    ∙ formed-judged (group_form value) (fault.Key key.Group) next (λ pairs. pairs_judged header.columns [] pairs ++ map (group_judged_cell header) pairs)
    (λ pairs e. then-judged (known_pairs header.columns [] pairs) (λ names. last names pairs) (pairs_judged header.columns [] pairs) (map (group_judged_cell header) pairs)
    (pairs-judge header.columns [] pairs (references-referring header.columns pairs (passed are_references (pairs_form value) pairs e).1))
    (λ names same. last-judged (grouped header (group_columns [] []) pairs) (λ found. record { names = names; found = found }) (map (group_judged_cell header) pairs) (grouped-judged header (group_columns [] []) pairs)))

-- what is read of `group`
record IsGrouped (value : Data) (groups : Groups) : Type 0 where
  pub names : groups.names ≡ group_names value
  pub long : length groups.found.columns ≡ length (group_names value)

form-of : {A : Type 0} (o : Option A) (first : LoadFault) (value : A) → ok_or o first ≡ Ok value → o ≡ Some value
form-of None first value e = cc
form-of (Some own) first value e = cc

is-grouped : (header : HeaderOf) (value : Data) (groups : Groups) → groups_of header value ≡ Ok groups → IsGrouped value groups
is-grouped header value groups e =
    let pairs = gone_on (group_written value) _ groups e in
    let names = gone_on (known_pairs header.columns [] pairs.0) _ groups pairs.2 in
    let found = gone_on (grouped header (group_columns [] []) pairs.0) _ groups names.2 in
    let same : record { names = names.0; found = found.0 } ≡ groups = cc found.2 in
    let form = form-of (group_form value) (fault.Key key.Group) pairs.0 (sym (group-written value) ∙ pairs.1) in
    let own : names_in_pairs pairs.0 ≡ group_names value = ap (λ o. names_in_pairs (unwrap_or o [])) (sym form) in
    record {
      names = ap (λ (g : Groups). g.names) (sym same) ∙ pairs-known header.columns [] names.0 pairs.0 names.1 ∙ own;
      long = ap (λ (g : Groups). length g.found.columns) (sym same) ∙ grouped-length header (group_columns [] []) found.0 pairs.0 found.1 ∙ zero-first (length pairs.0)
          ∙ sym (length-map pairs.0 (λ (pair : WrittenPair). pair.name)) ∙ ap length own;
    }
  where
    zero-first : (n : ℕ) → 0 + n ≡ n
    zero-first n = omega arith

-- `sum`.

sum-written : (o : Option Data) → sum_pairs_at o ≡ ok_or (sum_form o) (fault.Key key.Sum)
sum-written None = refl
sum-written (Some value) = passing-is (pairs_form value) (fault.Key key.Sum) are_exprs

sum-exprs : (o : Option Data) (pairs : List WrittenPair) → sum_form o ≡ Some pairs → are_exprs pairs ≡ true
sum-exprs None pairs e = (let same : [] ≡ pairs = cc in ap are_exprs (sym same))
sum-exprs (Some value) pairs e = (passed are_exprs (pairs_form value) pairs e).1

sum-judged : (header : HeaderOf) (above : Seen) (columns : List NamedKind) (entry : Data) (texts : Texts) → result_err (sum_columns header above columns entry texts) ≡ first_of (sum_judged header above (get (codes "sum") entry))
sum-judged header above columns entry texts =
    let last : List WrittenPair → Result (TypedColumns × Texts) LoadFault = λ pairs. typed_pairs header Numbers (typed_columns columns []) pairs texts in
    let next : List WrittenPair → Result (TypedColumns × Texts) LoadFault = λ pairs. known_pairs header.columns above pairs >>= (λ names. last pairs) in
    ap (λ (r : Result (List WrittenPair) LoadFault). result_err (r >>= next)) (sum-written (get (codes "sum") entry))
    ∙ formed-judged (sum_form (get (codes "sum") entry)) (fault.Key key.Sum) next (λ pairs. pairs_judged header.columns above pairs ++ kinds_judged header Numbers pairs)
    (λ pairs e. then-judged (known_pairs header.columns above pairs) (λ names. last pairs) (pairs_judged header.columns above pairs) (kinds_judged header Numbers pairs)
    (pairs-judge header.columns above pairs (exprs-referring header.columns pairs (sum-exprs (get (codes "sum") entry) pairs e)))
    (λ names same. typed-judged header Numbers (typed_columns columns []) pairs texts (sum-exprs (get (codes "sum") entry) pairs e)))

sum-length : (header : HeaderOf) (above : Seen) (columns : List NamedKind) (entry : Data) (texts : Texts) (sums : TypedColumns × Texts) → sum_columns header above columns entry texts ≡ Ok sums
    → length sums.0.columns ≡ length columns + length (unwrap_or (sum_form (get (codes "sum") entry)) [])
sum-length header above columns entry texts sums e =
    let pairs = gone_on (sum_pairs_at (get (codes "sum") entry)) _ sums e in
    let names = gone_on (known_pairs header.columns above pairs.0) _ sums pairs.2 in
    let form = form-of (sum_form (get (codes "sum") entry)) (fault.Key key.Sum) pairs.0 (sym (sum-written (get (codes "sum") entry)) ∙ pairs.1) in
    typed-length header Numbers (typed_columns columns []) pairs.0 texts sums names.2 ∙ ap (λ o. length columns + length (unwrap_or o [])) (sym form)

-- A summary.

-- what follows `group`
abbrev after_group : HeaderOf → Data → Groups → Texts → List ℕ → OutputOutcome
after_group header entry groups texts count =
    fresh_name groups.names count >>= (λ names. sum_columns header names (groups.found.columns ++ count_column count ∷ []) entry texts
    >>= (λ (sums : TypedColumns × Texts). checked (nat_le (length sums.0.columns) 64) (fault.Key key.Group) sums.0.columns
    >>= (λ columns. Ok (record { columns = columns; output = Sums groups.found.places sums.0.exprs }, sums.1))))

sums-judged : (header : HeaderOf) (entry value : Data) (groups : Groups) (texts : Texts) (count : List ℕ) → IsGrouped value groups
    → result_err (after_group header entry groups texts count)
    ≡ first_of (name_judged (group_names value) count
    ∷ (sum_judged header (group_names value ++ count ∷ []) (get (codes "sum") entry) ++ fault_if (not (nat_le (width_of value (get (codes "sum") entry)) 64)) (fault.Key key.Group) ∷ []))
sums-judged header entry value groups texts count is =
    one-judged (fresh_name groups.names count) _ (name_judged (group_names value) count)
    (sum_judged header (group_names value ++ count ∷ []) (get (codes "sum") entry) ++ fault_if (not (nat_le (width_of value (get (codes "sum") entry)) 64)) (fault.Key key.Group) ∷ [])
    (fresh-judged groups.names count ∙ ap (λ ns. name_judged ns count) is.names)
    (λ names e. then-judged (sum_columns header names (groups.found.columns ++ count_column count ∷ []) entry texts)
    (λ (sums : TypedColumns × Texts). checked (nat_le (length sums.0.columns) 64) (fault.Key key.Group) sums.0.columns >>= (λ columns. Ok (record { columns = columns; output = Sums groups.found.places sums.0.exprs }, sums.1)))
    (sum_judged header (group_names value ++ count ∷ []) (get (codes "sum") entry)) (fault_if (not (nat_le (width_of value (get (codes "sum") entry)) 64)) (fault.Key key.Group) ∷ [])
    (sum-judged header names (groups.found.columns ++ count_column count ∷ []) entry texts
    ∙ ap (λ ns. first_of (sum_judged header ns (get (codes "sum") entry))) (fresh-is groups.names count names e ∙ ap (λ ns. ns ++ count ∷ []) is.names))
    (λ sums same. total sums (nat_le (length sums.0.columns) 64) (ap (λ n. nat_le n 64) (width sums names same))))
  where
    width : (sums : TypedColumns × Texts) (names : Seen) → sum_columns header names (groups.found.columns ++ count_column count ∷ []) entry texts ≡ Ok sums → length sums.0.columns ≡ width_of value (get (codes "sum") entry)
    width sums names same =
        sum-length header names (groups.found.columns ++ count_column count ∷ []) entry texts sums same
        ∙ ap (λ n. n + length (unwrap_or (sum_form (get (codes "sum") entry)) [])) (length-append groups.found.columns (count_column count ∷ []) ∙ ap (λ n. n + 1) is.long)

    total : (sums : TypedColumns × Texts) (b : Bool) → b ≡ nat_le (width_of value (get (codes "sum") entry)) 64
        → result_err {T = ColumnsOf × Texts} (checked b (fault.Key key.Group) sums.0.columns >>= (λ columns. Ok (record { columns = columns; output = Sums groups.found.places sums.0.exprs }, sums.1)))
        ≡ first_of (fault_if (not (nat_le (width_of value (get (codes "sum") entry)) 64)) (fault.Key key.Group) ∷ [])
    total sums true e = ap (λ b. first_of (fault_if (not b) (fault.Key key.Group) ∷ [])) e
    total sums false e = ap (λ b. first_of (fault_if (not b) (fault.Key key.Group) ∷ [])) e

count-judged : (header : HeaderOf) (entry value : Data) (groups : Groups) (texts : Texts) → IsGrouped value groups
    → result_err (count_written entry >>= after_group header entry groups texts)
    ≡ first_of (count_judged (group_names value) entry
    ++ (sum_judged header (group_names value ++ unwrap_or (count_form entry) [] ∷ []) (get (codes "sum") entry) ++ fault_if (not (nat_le (width_of value (get (codes "sum") entry)) 64)) (fault.Key key.Group) ∷ []))
count-judged header entry value groups texts is = by (count_form entry)
  where
    by : (o : Option (List ℕ)) → result_err (ok_or o (fault.Key key.Count) >>= after_group header entry groups texts)
        ≡ first_of (formed o (fault.Key key.Count) (λ name. name_judged (group_names value) name ∷ [])
        ++ (sum_judged header (group_names value ++ unwrap_or o [] ∷ []) (get (codes "sum") entry) ++ fault_if (not (nat_le (width_of value (get (codes "sum") entry)) 64)) (fault.Key key.Group) ∷ []))
    by None = refl
    by (Some count) = sums-judged header entry value groups texts count is

summary-judged : (header : HeaderOf) (entry value : Data) (texts : Texts) → result_err (summary_columns header entry value texts) ≡ first_of (summary_judged header entry value)
summary-judged header entry value texts =
    then-judged (groups_of header value) (λ groups. count_written entry >>= after_group header entry groups texts) (group_judged header value)
    (count_judged (group_names value) entry
    ++ (sum_judged header (group_names value ++ unwrap_or (count_form entry) [] ∷ []) (get (codes "sum") entry) ++ fault_if (not (nat_le (width_of value (get (codes "sum") entry)) 64)) (fault.Key key.Group) ∷ []))
    (group-judged header value)
    (λ groups e. count-judged header entry value groups texts (is-grouped header value groups e))

-- One view.

output-judged : (header : HeaderOf) (entry : Data) (keep group : Option Data) (texts : Texts) → result_err (output_at header entry keep group texts) ≡ first_of (output_judged header entry keep group)
output-judged header entry None None texts = refl
output-judged header entry None (Some group) texts = summary-judged header entry group texts
output-judged header entry (Some keep) None texts = keep-judged header keep texts
output-judged header entry (Some keep) (Some group) texts =
    then-judged (joined_columns header keep texts) (λ columns. Err (fault.Key key.Group)) (keep_judged header keep) (Some (fault.Key key.Group) ∷ []) (keep-judged header keep texts) (λ columns e. refl)

-- what a derived view is made of
abbrev made_view : HeaderOf → List (ℕ × ℕ) → PredTree → ColumnsOf × Texts → ViewOf × Texts
made_view header join filter output =
    (record { columns = output.0.columns; definition = Some (record { width = length header.columns; join = join; filter = filter; output = output.0.output }) }, output.1)

derived-judged : (header : HeaderOf) (entry : Data) (texts : Texts) → result_err (derived_view header entry texts) ≡ first_of (derived_judged header entry)
derived-judged header entry texts =
    let outputs : List (Option LoadFault) = output_judged header entry (get (codes "keep") entry) (get (codes "group") entry) in
    let last : List (ℕ × ℕ) → PredTree × Texts → ViewOutcome = λ join filter. output_of header entry filter.1 >>= (λ (output : ColumnsOf × Texts). Ok (made_view header join filter.0 output)) in
    then-judged (join_of header entry) (λ join. filter_of header entry texts >>= last join) (join_judged header entry) (where_judged header (get (codes "where") entry) ++ outputs) (join-judged header entry)
    (λ join e. then-judged (filter_of header entry texts) (last join) (where_judged header (get (codes "where") entry)) outputs (where-judged header (get (codes "where") entry) texts)
    (λ filter same. last-judged (output_of header entry filter.1) (made_view header join filter.0) outputs
    (output-judged header entry (get (codes "keep") entry) (get (codes "group") entry) filter.1)))

-- reading a view is what is judged of it
view-judged : (shape : Views) (above : List ViewOf) (over : Option Data) (entry : Data) (texts : Texts) → result_err (view_at shape above over entry texts) ≡ first_of (table_judged shape above over entry)
view-judged shape above None entry texts = last-judged (base_columns entry) (λ columns. (record { columns = columns; definition = None }, texts)) (base_judged entry) (base-judged entry)
view-judged shape above (Some over) entry texts = derived-judged (header_of shape above (length above)) entry texts

-- All views.

-- the view after so many of these tables gives this
record Gives (shape : Views) (views : List ViewOf) (texts : Texts) (tables : List Data) (view : ℕ) (entry : Data) (given : ViewOutcome) : Type 0 where
  pub above : List ViewOf
  pub after : Texts
  pub made : views_after shape views (take view tables) texts ≡ Ok (above, after)
  pub gives : next_view shape above entry after ≡ given

abbrev IsPassed : Views → List ViewOf → Texts → List Data → ℕ → Data → Type 0
IsPassed shape views texts tables view entry = (read : ViewOf × Texts) × Gives shape views texts tables view entry (Ok read)

later-gives : (shape : Views) (views : List ViewOf) (texts : Texts) (own : Data) (rest : List Data) (view : ℕ) (entry : Data) (given : ViewOutcome) (read : ViewOf × Texts)
    → next_view shape views own texts ≡ Ok read → Gives shape (views ++ read.0 ∷ []) read.1 rest view entry given → Gives shape views texts (own ∷ rest) (suc view) entry given
later-gives shape views texts own rest view entry given read e is = record {
  above = is.above;
  after = is.after;
  made = ap (λ (r : ViewOutcome). r >>= (λ (v : ViewOf × Texts). views_after shape (views ++ v.0 ∷ []) (take view rest) v.1)) e ∙ is.made;
  gives = is.gives;
}

first-gives : (shape : Views) (views : List ViewOf) (texts : Texts) (own : Data) (rest : List Data) (entry : Data) (given : ViewOutcome) → own ≡ entry → next_view shape views own texts ≡ given
    → Gives shape views texts (own ∷ rest) 0 entry given
first-gives shape views texts own rest entry given same e = record { above = views; after = texts; made = refl; gives = ap (λ t. next_view shape views t texts) (sym same) ∙ e }

passes : (shape : Views) (views : List ViewOf) (texts : Texts) (tables : List Data) (view : ℕ) (entry : Data) (all : List ViewOf × Texts) → views_after shape views tables texts ≡ Ok all → slice_get tables view ≡ Some entry
    → IsPassed shape views texts tables view entry
passes shape views texts [] view entry all e there = cc
passes shape views texts (own ∷ rest) zero entry all e there =
    let read = gone_on (next_view shape views own texts) _ all e in
    let same : own ≡ entry = cc in
    (read.0, first-gives shape views texts own rest entry (Ok read.0) same read.1)
passes shape views texts (own ∷ rest) (suc view) entry all e there =
    let read = gone_on (next_view shape views own texts) _ all e in
    let later = passes shape (views ++ read.0.0 ∷ []) read.0.1 rest view entry all read.2 there in
    (later.0, later-gives shape views texts own rest view entry (Ok later.0) read.0 read.1 later.1)

-- the first table that is not read, and those above it
record Stops (shape : Views) (views : List ViewOf) (texts : Texts) (tables : List Data) (own : LoadFault) : Type 0 where
  pub view : ℕ
  pub entry : Data
  pub there : slice_get tables view ≡ Some entry
  pub fails : Gives shape views texts tables view entry (Err own)
  pub earlier : (place : ℕ) (other : Data) → place < view → slice_get tables place ≡ Some other → IsPassed shape views texts tables place other

stops-later : (shape : Views) (views : List ViewOf) (texts : Texts) (own : Data) (rest : List Data) (f : LoadFault) (read : ViewOf × Texts) → next_view shape views own texts ≡ Ok read
    → Stops shape (views ++ read.0 ∷ []) read.1 rest f → Stops shape views texts (own ∷ rest) f
stops-later shape views texts own rest f read e is = record {
  view = suc is.view;
  entry = is.entry;
  there = is.there;
  fails = later-gives shape views texts own rest is.view is.entry (Err f) read e is.fails;
  earlier = by;
}
  where
    by : (place : ℕ) (other : Data) → place < suc is.view → slice_get (own ∷ rest) place ≡ Some other → IsPassed shape views texts (own ∷ rest) place other
    by zero other below there =
        let same : own ≡ other = cc in
        (read, first-gives shape views texts own rest other (Ok read) same e)
    by (suc place) other below there =
        let later = is.earlier place other (omega arith) there in
        (later.0, later-gives shape views texts own rest place other (Ok later.0) read e later.1)

stops : (shape : Views) (views : List ViewOf) (texts : Texts) (tables : List Data) (f : LoadFault) → views_after shape views tables texts ≡ Err f → Stops shape views texts tables f
stops shape views texts [] f e = cc
stops shape views texts (own ∷ rest) f e = by (next_view shape views own texts) refl e (λ v. stops shape (views ++ v.0 ∷ []) v.1 rest f)
  where
    by : (r : ViewOutcome) → next_view shape views own texts ≡ r → (r >>= (λ (v : ViewOf × Texts). views_after shape (views ++ v.0 ∷ []) rest v.1)) ≡ Err f
        → ((v : ViewOf × Texts) → views_after shape (views ++ v.0 ∷ []) rest v.1 ≡ Err f → Stops shape (views ++ v.0 ∷ []) v.1 rest f) → Stops shape views texts (own ∷ rest) f
    by (Err g) is e more =
        let same : g ≡ f = cc in
        record {
          view = 0;
          entry = own;
          there = refl;
          fails = first-gives shape views texts own rest own (Err f) refl (is ∙ ap Err same);
          earlier = λ place other below there. absurd (omega arith);
        }
    by (Ok v) is e more = stops-later shape views texts own rest f v is (more v e)

given-judged : (shape : Views) (texts : Texts) (tables : List Data) (view : ℕ) (entry : Data) (given : ViewOutcome) (is : Gives shape [] texts tables view entry given)
    → result_err given ≡ first_of (table_judged shape is.above (get (codes "over") entry) entry)
given-judged shape texts tables view entry given is = ap result_err (sym is.gives) ∙ view-judged shape is.above (get (codes "over") entry) entry is.after

-- the views above are read in one way
same-above : (shape : Views) (texts : Texts) (tables : List Data) (view : ℕ) (entry : Data) (given : ViewOutcome) (above : List ViewOf) (after : Texts) (is : Gives shape [] texts tables view entry given)
    → views_after shape [] (take view tables) texts ≡ Ok (above, after) → above ≡ is.above
same-above shape texts tables view entry given above after is e =
    let same : ◌≡◌ {A = List ViewOf × Texts} (above, after) (is.above, is.after) = one (views_after shape [] (take view tables) texts) e is.made in
    ap (λ (p : List ViewOf × Texts). p.0) same
  where
    one : (r : Result (List ViewOf × Texts) LoadFault) → r ≡ Ok (above, after) → r ≡ Ok (is.above, is.after) → ◌≡◌ {A = List ViewOf × Texts} (above, after) (is.above, is.after)
    one r e f = (let both = sym e ∙ f in cc)

right-view : (shape : Views) (texts : Texts) (tables : List Data) (view : ℕ) (entry : Data) (above : List ViewOf) (after : Texts) (judgement : ℕ) (own : LoadFault) → IsPassed shape [] texts tables view entry
    → views_after shape [] (take view tables) texts ≡ Ok (above, after) → Finds (table_judged shape above (get (codes "over") entry) entry) judgement own → ⊥
right-view shape texts tables view entry above after judgement own pass made finds =
    let same = same-above shape texts tables view entry (Ok pass.0) above after pass.1 made in
    none-finds (table_judged shape pass.1.above (get (codes "over") entry) entry) judgement own (sym (given-judged shape texts tables view entry (Ok pass.0) pass.1))
    (subst (λ vs. Finds (table_judged shape vs (get (codes "over") entry) entry) judgement own) same finds)

before-of-two : (view k : ℕ) (place : Place) (v j : ℕ) → place ≡ v ∷ j ∷ [] → IsBefore place (view ∷ k ∷ []) → (v < view) ⊎ ((v ≡ view) × (j < k))
before-of-two view k place v j e before = by (subst (λ p. IsBefore p (view ∷ k ∷ [])) e before)
  where
    last : IsBefore (j ∷ []) (k ∷ []) → j < k
    last (inl below) = below
    last (inr same) = absurd same.1

    by : IsBefore (v ∷ j ∷ []) (view ∷ k ∷ []) → (v < view) ⊎ ((v ≡ view) × (j < k))
    by (inl below) = inl below
    by (inr same) = inr (same.0, last same.1)

same-entry : (tables : List Data) (view other : ℕ) (entry own : Data) → other ≡ view → slice_get tables view ≡ Some entry → slice_get tables other ≡ Some own → own ≡ entry
same-entry tables view other entry own same a b = (let both : Some own ≡ Some entry = sym b ∙ ap (slice_get tables) same ∙ a in cc)

ends-at-view : (shape : Views) (texts : Texts) (tables : List Data) (own : LoadFault) → Stops shape [] texts tables own → IsFirstFault (DefinitionsWrong shape texts tables) own
ends-at-view shape texts tables own at = record {
  place = at.view ∷ is.number ∷ [];
  wrong = in_view at.view at.entry at.fails.above at.fails.after is.number at.there at.fails.made is.finds refl;
  first = by;
}
  where
    is : IsFirstOf (table_judged shape at.fails.above (get (codes "over") at.entry) at.entry) own
    is = is-first _ own (sym (given-judged shape texts tables at.view at.entry (Err own) at.fails))

    cases : (view : ℕ) (entry : Data) (above : List ViewOf) (after : Texts) (judgement : ℕ) (other : LoadFault) → slice_get tables view ≡ Some entry → views_after shape [] (take view tables) texts ≡ Ok (above, after)
        → Finds (table_judged shape above (get (codes "over") entry) entry) judgement other → (view < at.view) ⊎ ((view ≡ at.view) × (judgement < is.number)) → ⊥
    cases view entry above after judgement other there made finds (inl below) = right-view shape texts tables view entry above after judgement other (at.earlier view entry below there) made finds
    cases view entry above after judgement other there made finds (inr here) =
        let one = same-entry tables at.view view at.entry entry here.0 at.there there in
        let vs = same-above shape texts tables at.view at.entry (Err own) above after at.fails (subst (λ n. views_after shape [] (take n tables) texts ≡ Ok (above, after)) here.0 made) in
        is.first judgement other here.1
        (subst (λ a. Finds (table_judged shape a (get (codes "over") at.entry) at.entry) judgement other) vs
        (subst (λ t. Finds (table_judged shape above (get (codes "over") t) t) judgement other) one finds))

    by : (before : Place) (other : LoadFault) → IsBefore before (at.view ∷ is.number ∷ []) → DefinitionsWrong shape texts tables before other → ⊥
    by before other earlier (in_view view entry above after judgement there made finds place) =
        cases view entry above after judgement other there made finds (before-of-two at.view is.number before view judgement place earlier)

views-end : (shape : Views) (texts : Texts) (tables : List Data) → EndsByFirst (DefinitionsWrong shape texts tables) (views_after shape [] tables texts)
views-end shape texts tables = record {
  fault = λ own e. ends-at-view shape texts tables own (stops shape [] texts tables own e);
  value = λ value e place own wrong. right value e place own wrong;
}
  where
    right : (value : List ViewOf × Texts) → views_after shape [] tables texts ≡ Ok value → (place : Place) (own : LoadFault) → DefinitionsWrong shape texts tables place own → ⊥
    right value e place own (in_view view entry above after judgement there made finds at) =
        right-view shape texts tables view entry above after judgement own (passes shape [] texts tables view entry value e there) made finds

-- the definitions of a catalogue end by their first fault
pub definitions-end : DefinitionsEndByFirst
definitions-end shape text texts = catalogue-ends (DefinitionsWrong shape texts) text (λ tables. views_after shape [] tables texts) (views-end shape texts)
