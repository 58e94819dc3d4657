-- Pairs of a name and a formula that are written are read as what they are, and those that are read are what was written.
use Rattle.std.proofs.Common.{◌≡◌, ◌≢◌, ℕ, suc, ◌<◌, ◌≤◌, Bool, true, false, List, [], ◌∷◌, ◌++◌, length, map, get_or, Some, None, Ok, refl, ap, sym, ◌∙◌, arith, append_assoc, All}
use Rattle.std.specs.Prelude.{if◌then◌else◌, option_and_then}
use Rattle.std.specs.List.{AllPairs, IsDistinct, list_all, list_any}
use Rattle.std.specs.Str.{bytes_eq}
use Rattle.std.proofs.lemmas.Bool.{and_parts, false_from_ne_true}
use Rattle.std.proofs.lemmas.List.{append-nil, get_or_append_left, get_or_at}
use Rattle.std.proofs.lemmas.List.Elements.{All-cons, All-nil}
use Rattle.std.proofs.lemmas.List.Folds.{list_any_none}
use Rattle.std.proofs.lemmas.Slice.Eq.{bytes_eq-Decides}
use Rattle.toml.specs.View.{items_of}
use Rattle.toml.specs.Data.{Data, string, array}
use Rattle.wh_formula.specs.Expr.{ExprTree, Column, depth}
use Rattle.wh_text.specs.Columns.{NamedKind, names_of}
use Rattle.wh_text.specs.Dict.{with_texts}
use Rattle.wh_text.specs.Inner.Dict.{BeginsWith}
use Rattle.wh_text.specs.NameForm.{is_name}
use Rattle.wh_text.specs.declared.columns.Kind.{Kind}
use Rattle.wh_text.specs.declared.columns.Kind.TheVariants.{Int, Text}
use Rattle.wh_text.specs.declared.fault.Key.{Key}
use Rattle.wh_text.specs.declared.fault.LoadFault.TheVariants as fault
use Rattle.wh_text.proofs.DictGrowth.{begins-texts, begins-trans, with_texts-append}
use Rattle.wh_text_catalogue.specs.Catalogue.{array_of}
use Rattle.wh_text_catalogue.specs.ColumnNames.{Seen, fresh_name}
use Rattle.wh_text_catalogue.specs.Formula.{unknown_column, whole_expr}
use Rattle.wh_text_catalogue.specs.FormulaKinds.{Texts, is_int, unfit}
use Rattle.wh_text_catalogue.specs.Header.{HeaderOf, cell_of}
use Rattle.wh_text_catalogue.specs.Pairs.{GroupColumns, TypedColumns, WrittenPair, are_exprs, are_references, group_cell, group_columns, grouped, known_pairs, pair_of, pairs_in, pairs_written, reference_in, takes_kind, typed_cell, typed_columns, typed_pairs, with_cell, with_expr}
use Rattle.wh_text_catalogue.specs.WrittenFormula.{IsExprWritten, literals, literals_of}
use Rattle.wh_text_catalogue.specs.WrittenLaws.{AreReferences, IsExprRead, texts_with}
use Rattle.wh_text_catalogue.specs.WrittenOutput.{ArePairsWritten, named_value, number_column}
use Rattle.wh_text_catalogue.specs.declared.definitions.formula_kinds.TypedExpr.{TypedExpr}
use Rattle.wh_text_catalogue.specs.declared.definitions.header.Cell.{Cell}
use Rattle.wh_text_catalogue.specs.declared.definitions.typed_pairs.KindRule.{KindRule}
use Rattle.wh_text_catalogue.specs.declared.definitions.typed_pairs.KindRule.TheVariants.{AnyKind, Numbers}
use Rattle.wh_text_catalogue.proofs.CatalogueNames.{gone_on, some_from_ok}
use Rattle.wh_text_catalogue.proofs.ColumnsNamed.{has_pair_name, pair_names, then-some}
use Rattle.wh_text_catalogue.proofs.FormulasFit.{checked-ok}
use Rattle.wh_text_catalogue.proofs.WrittenExprs.{both-same, column-read, expr-kept, expr-known, expr-written, no-texts, whole-read}
use Rattle.wh_text_catalogue.proofs.WrittenForms.{cell-found, cell-stands, column-form, elements-items}
use Rattle.wh_text_catalogue.proofs.WrittenJoins.{array-only, text-only}

-- Pairs and the values that write them.

-- the value that writes a pair
abbrev pub pair_value : WrittenPair → Data
pair_value pair = named_value pair.name pair.value

-- the values that write some pairs
abbrev pub pair_values : List WrittenPair → List Data
pair_values pairs = map pair_value pairs

-- the texts of the literals of some pairs
abbrev pub pair_literals : List WrittenPair → List (List ℕ)
pair_literals [] = []
pair_literals (pair ∷ pairs) = literals pair.value ++ pair_literals pairs

-- these pairs name the columns, and their values write these expressions, one each
abbrev pub ArePairsOf : List NamedKind → Texts → List NamedKind → List ExprTree → List WrittenPair → Type 0
ArePairsOf row texts [] [] [] = Unit {0}
ArePairsOf row texts (column ∷ columns) (own ∷ exprs) (pair ∷ pairs) =
    ((pair.name ≡ column.name) × IsExprWritten row texts own column.kind pair.value) × ArePairsOf row texts columns exprs pairs
ArePairsOf row texts _ _ _ = ⊥

-- what values write, by pairs
pub record IsOfPairs (row : List NamedKind) (texts : Texts) (columns : List NamedKind) (exprs : List ExprTree) (values : List Data) : Type 0 where
  pub pairs : List WrittenPair
  pub of : ArePairsOf row texts columns exprs pairs
  pub are : values ≡ pair_values pairs

pub pairs-of : (row : List NamedKind) (texts : Texts) (columns : List NamedKind) (exprs : List ExprTree) (values : List Data) → ArePairsWritten row texts columns exprs values → IsOfPairs row texts columns exprs values
pairs-of row texts [] [] [] w = record { pairs = []; of = tt; are = refl }
pairs-of row texts (column ∷ columns) (own ∷ exprs) (value ∷ values) w =
    let rest = pairs-of row texts columns exprs values w.1 in
    record {
      pairs = record { name = column.name; value = w.0.0 } ∷ rest.pairs;
      of = ((refl, w.0.2), rest.of);
      are = ap (λ v. v ∷ values) w.0.1 ∙ ap (λ vs. named_value column.name w.0.0 ∷ vs) rest.are;
    }
pairs-of row texts _ _ _ w = absurd w

pub of-pairs : (row : List NamedKind) (texts : Texts) (columns : List NamedKind) (exprs : List ExprTree) (pairs : List WrittenPair) → ArePairsOf row texts columns exprs pairs
    → ArePairsWritten row texts columns exprs (pair_values pairs)
of-pairs row texts [] [] [] w = tt
of-pairs row texts (column ∷ columns) (own ∷ exprs) (pair ∷ pairs) w =
    ((pair.value, ap (λ n. named_value n pair.value) w.0.0, w.0.1), of-pairs row texts columns exprs pairs w.1)
of-pairs row texts _ _ _ w = absurd w

pub names-of : (row : List NamedKind) (texts : Texts) (columns : List NamedKind) (exprs : List ExprTree) (pairs : List WrittenPair) → ArePairsOf row texts columns exprs pairs → pair_names pairs ≡ names_of columns
names-of row texts [] [] [] w = refl
names-of row texts (column ∷ columns) (own ∷ exprs) (pair ∷ pairs) w = rw (w.0.0, names-of row texts columns exprs pairs w.1) refl
names-of row texts _ _ _ w = absurd w

pub values-literals : (pairs : List WrittenPair) → literals_of (items_of (pair_values pairs)) ≡ pair_literals pairs
values-literals [] = refl
values-literals (pair ∷ pairs) = rw (append-nil (literals pair.value), values-literals pairs) refl

-- Their form.

pub pairs-form : (found pairs : List WrittenPair) → list_all has_pair_name pairs ≡ true → pairs_in found (pair_values pairs) ≡ Some (found ++ pairs)
unfolding has_pair_name
pairs-form found [] formed = ap Some (sym (append-nil found))
pairs-form found (pair ∷ pairs) formed =
    let parts = and_parts (is_name pair.name) (list_all has_pair_name pairs) formed in
    rw parts.0 (pairs-form (found ++ pair ∷ []) pairs parts.1 ∙ ap Some (append_assoc found (pair ∷ []) pairs))

pub list-form : (key : Key) (pairs : List WrittenPair) → list_all has_pair_name pairs ≡ true → pairs_written key (array (items_of (pair_values pairs))) ≡ Ok pairs
list-form key pairs formed = rw (elements-items (pair_values pairs), pairs-form [] pairs formed) refl

pair-only : (parts : List Data) (pair : WrittenPair) → pair_of parts ≡ Some pair → array (items_of parts) ≡ pair_value pair
pair-only (string name ∷ value ∷ []) pair e = by (is_name name) e
  where
    by : (b : Bool) → (if b then Some (record { name = name; value = value }) else None) ≡ Some pair → named_value name value ≡ pair_value pair
    by true e = let same : record { name = name; value = value } ≡ pair = cc in ap pair_value same
    by false e = cc e
pair-only _ pair e = cc e

pairs-only : (found : List WrittenPair) (values : List Data) (pairs : List WrittenPair) → pairs_in found values ≡ Some pairs → (more : List WrittenPair) × (pairs ≡ found ++ more) × (values ≡ pair_values more)
pairs-only found [] pairs e = let same : found ≡ pairs = cc in ([], sym same ∙ sym (append-nil found), refl)
pairs-only found (value ∷ values) pairs e =
    let pair = then-some (λ pair. pairs_in (found ++ pair ∷ []) values) (option_and_then pair_of (array_of value)) pairs e in
    let parts = then-some pair_of (array_of value) pair.0 pair.1 in
    let rest = pairs-only (found ++ pair.0 ∷ []) values pairs pair.2 in
    let own = array-only value parts.0 parts.1 ∙ pair-only parts.0 pair.0 parts.2 in
    (pair.0 ∷ rest.0, rest.1 ∙ append_assoc found (pair.0 ∷ []) rest.0, ap (λ v. v ∷ values) own ∙ ap (λ vs. pair_value pair.0 ∷ vs) rest.2)

-- the value of a key that is read is an array of its pairs
pub list-only : (key : Key) (value : Data) (pairs : List WrittenPair) → pairs_written key value ≡ Ok pairs → value ≡ array (items_of (pair_values pairs))
list-only key value pairs e =
    let values = then-some (pairs_in []) (array_of value) pairs (some_from_ok (option_and_then (pairs_in []) (array_of value)) (fault.Key key) pairs e) in
    let are = pairs-only [] values.0 pairs values.2 in
    array-only value values.0 values.1 ∙ ap (λ vs. array (items_of vs)) (are.2 ∙ ap pair_values (sym are.1))

-- Their names.

-- the two texts differ
abbrev pub Differ : List ℕ → List ℕ → Type 0
Differ first second = first ≢ second

pub fresh-made : (seen : Seen) (name : List ℕ) (rest : Seen) → AllPairs Differ (seen ++ name ∷ rest) → fresh_name seen name ≡ Ok (seen ++ name ∷ [])
fresh-made seen name rest apart = rw none refl
  where
    differs : (k : ℕ) (d : List ℕ) → k < length seen → bytes_eq name (get_or seen k d) ≡ false
    differs k d l =
        false_from_ne_true (bytes_eq name (get_or seen k d))
        (λ e. apart k (length seen) d l (within seen)
        (get_or_append_left seen (name ∷ rest) d k l ∙ sym ((bytes_eq-Decides name (get_or seen k d)).0 e) ∙ sym (get_or_at seen name rest d (length seen) refl)))
      where
        within : (front : Seen) → length front < length (front ++ name ∷ rest)
        within [] = omega arith
        within (x ∷ front) = let below = within front in omega arith

    none : list_any (bytes_eq name) seen ≡ false
    none = list_any_none (bytes_eq name) seen differs

-- each formula names columns alone
abbrev pub AreKnown : List NamedKind → List WrittenPair → Type 0
AreKnown row [] = Unit {0}
AreKnown row (pair ∷ pairs) = (unknown_column row pair.value ≡ None) × AreKnown row pairs

pub known-made : (row : List NamedKind) (seen : Seen) (pairs : List WrittenPair) → AreKnown row pairs → AllPairs Differ (seen ++ pair_names pairs) → known_pairs row seen pairs ≡ Ok (seen ++ pair_names pairs)
known-made row seen [] known apart = ap Ok (sym (append-nil seen))
known-made row seen (pair ∷ pairs) known apart =
    let later : AllPairs Differ ((seen ++ pair.name ∷ []) ++ pair_names pairs) = rw (append_assoc seen (pair.name ∷ []) (pair_names pairs)) apart in
    rw (fresh-made seen pair.name (pair_names pairs) apart, known.0) (known-made row (seen ++ pair.name ∷ []) pairs known.1 later ∙ ap Ok (append_assoc seen (pair.name ∷ []) (pair_names pairs)))

-- Their expressions.

-- the rule takes the kind of each column
abbrev pub takes_each : KindRule → List NamedKind → Bool
takes_each rule columns = list_all (λ column. takes_kind rule column.kind) columns

pub any-taken : (columns : List NamedKind) → takes_each AnyKind columns ≡ true
any-taken [] = refl
any-taken (column ∷ columns) = any-taken columns

pub numbers-taken : (names : List (List ℕ)) → takes_each Numbers (map number_column names) ≡ true
numbers-taken [] = refl
numbers-taken (name ∷ names) = numbers-taken names

-- what some pairs are read as
pub record AreTypedPairs (header : HeaderOf) (rule : KindRule) (columns : List NamedKind) (exprs : List ExprTree) (pairs : List WrittenPair) (before : Texts) : Type 0 where
  pub formed : are_exprs pairs ≡ true
  pub known : AreKnown header.columns pairs
  pub typed : (found : TypedColumns) → typed_pairs header rule found pairs before ≡ Ok (typed_columns (found.columns ++ columns) (found.exprs ++ exprs), with_texts before (pair_literals pairs))

cell-typed : (header : HeaderOf) (rule : KindRule) (own : ExprTree) (kind : Kind) (value : Data) (before : Texts) → takes_kind rule kind ≡ true → IsExprRead header value before own kind (texts_with before value)
    → typed_cell header rule value before ≡ Ok (record { kind = kind; expr = own }, texts_with before value)
cell-typed header rule own kind value before taken read = rw (read.kinds, taken) refl

none-typed : (header : HeaderOf) (rule : KindRule) (before : Texts) (found : TypedColumns)
    → typed_pairs header rule found [] before ≡ Ok (typed_columns (found.columns ++ []) (found.exprs ++ []), with_texts before [])
none-typed header rule before found = rw (append-nil found.columns, append-nil found.exprs, ← no-texts before) refl

more-typed : (header : HeaderOf) (rule : KindRule) (column : NamedKind) (columns : List NamedKind) (own : ExprTree) (exprs : List ExprTree) (pair : WrittenPair) (pairs : List WrittenPair) (before : Texts) (found : TypedColumns)
    → pair.name ≡ column.name → typed_cell header rule pair.value before ≡ Ok (record { kind = column.kind; expr = own }, texts_with before pair.value)
    → ((more : TypedColumns) → typed_pairs header rule more pairs (texts_with before pair.value) ≡ Ok (typed_columns (more.columns ++ columns) (more.exprs ++ exprs), with_texts (texts_with before pair.value) (pair_literals pairs)))
    → typed_pairs header rule found (pair ∷ pairs) before ≡ Ok (typed_columns (found.columns ++ column ∷ columns) (found.exprs ++ own ∷ exprs), with_texts before (pair_literals (pair ∷ pairs)))
more-typed header rule column columns own exprs pair pairs before found named cell rest =
    rw cell (rest (with_expr found pair.name (record { kind = column.kind; expr = own })))
    ∙ ap (λ n. Ok (typed_columns ((found.columns ++ record { name = n; kind = column.kind } ∷ []) ++ columns) ((found.exprs ++ own ∷ []) ++ exprs), with_texts (texts_with before pair.value) (pair_literals pairs))) named
    ∙ ap (λ c. Ok (typed_columns c ((found.exprs ++ own ∷ []) ++ exprs), with_texts (texts_with before pair.value) (pair_literals pairs))) (append_assoc found.columns (column ∷ []) columns)
    ∙ ap (λ e. Ok (typed_columns (found.columns ++ column ∷ columns) e, with_texts (texts_with before pair.value) (pair_literals pairs))) (append_assoc found.exprs (own ∷ []) exprs)
    ∙ ap (λ t. Ok (typed_columns (found.columns ++ column ∷ columns) (found.exprs ++ own ∷ exprs), t)) (sym (with_texts-append before (literals pair.value) (pair_literals pairs)))

pub pairs-typed : (header : HeaderOf) (rule : KindRule) (all : Texts) (columns : List NamedKind) (exprs : List ExprTree) (pairs : List WrittenPair) (before : Texts) → AreReferences header.columns → IsDistinct bytes_eq all
    → All (λ e. depth e ≤ 64) exprs → takes_each rule columns ≡ true → ArePairsOf header.columns all columns exprs pairs → BeginsWith (with_texts before (pair_literals pairs)) all
    → AreTypedPairs header rule columns exprs pairs before
pairs-typed header rule all [] [] [] before are distinct deep taken w begins = record { formed = refl; known = tt; typed = λ found. none-typed header rule before found }
pairs-typed header rule all (column ∷ columns) (own ∷ exprs) (pair ∷ pairs) before are distinct deep taken w begins =
    let takes = and_parts (takes_kind rule column.kind) (takes_each rule columns) taken in
    let last : BeginsWith (with_texts (texts_with before pair.value) (pair_literals pairs)) all = rw (with_texts-append before (literals pair.value) (pair_literals pairs)) at begins in
    let first = begins-trans (texts_with before pair.value) (with_texts (texts_with before pair.value) (pair_literals pairs)) all (begins-texts (texts_with before pair.value) (pair_literals pairs)) last in
    let read = whole-read header all own column.kind pair.value before are distinct (deep 0 own (omega arith)) w.0.1 first in
    let rest = pairs-typed header rule all columns exprs pairs (texts_with before pair.value) are distinct (λ k d l. deep (suc k) d (omega arith)) takes.1 w.1 last in
    record {
      formed = rw (read.form, rest.formed) refl;
      known = (read.columns, rest.known);
      typed = λ found. more-typed header rule column columns own exprs pair pairs before found w.0.0 (cell-typed header rule own column.kind pair.value before takes.0 read) rest.typed;
    }
pairs-typed header rule all _ _ _ before are distinct deep taken w begins = absurd w

-- Their cells, where each formula is a reference.

-- what the pairs of a group are read as
pub record AreGroupPairs (header : HeaderOf) (columns : List NamedKind) (places : List ℕ) (pairs : List WrittenPair) : Type 0 where
  pub formed : are_references pairs ≡ true
  pub known : AreKnown header.columns pairs
  pub cells : (found : GroupColumns) → grouped header found pairs ≡ Ok (group_columns (found.columns ++ columns) (found.places ++ places))

reference-known : (header : HeaderOf) (texts : Texts) (place : ℕ) (kind : Kind) (value : Data) → AreReferences header.columns → IsExprWritten header.columns texts (Column place) kind value → unknown_column header.columns value ≡ None
unfolding unknown_column
reference-known header texts place kind value are w = expr-known header 64 value [] (record { kind = kind; expr = Column place }, []) (column-read header 63 texts place kind value are w [])

reference-read : (header : HeaderOf) (texts : Texts) (place : ℕ) (kind : Kind) (value : Data) → AreReferences header.columns → (w : IsExprWritten header.columns texts (Column place) kind value) → reference_in value ≡ Some w.0
reference-read header texts place kind value are w = rw (w.2, column-form header.columns place w.0 kind are w.1) refl

group-cell : (header : HeaderOf) (texts : Texts) (place : ℕ) (kind : Kind) (value : Data) → AreReferences header.columns → IsExprWritten header.columns texts (Column place) kind value
    → group_cell header value ≡ Ok (record { place = place; kind = kind })
group-cell header texts place kind value are w = rw (reference-read header texts place kind value are w, cell-found header.columns place w.0 kind are.distinct w.1) refl

more-grouped : (header : HeaderOf) (column : NamedKind) (columns : List NamedKind) (place : ℕ) (places : List ℕ) (pair : WrittenPair) (pairs : List WrittenPair) (found : GroupColumns)
    → pair.name ≡ column.name → group_cell header pair.value ≡ Ok (record { place = place; kind = column.kind })
    → ((more : GroupColumns) → grouped header more pairs ≡ Ok (group_columns (more.columns ++ columns) (more.places ++ places)))
    → grouped header found (pair ∷ pairs) ≡ Ok (group_columns (found.columns ++ column ∷ columns) (found.places ++ place ∷ places))
more-grouped header column columns place places pair pairs found named cell rest =
    rw cell (rest (with_cell found pair.name (record { place = place; kind = column.kind })))
    ∙ ap (λ n. Ok (group_columns ((found.columns ++ record { name = n; kind = column.kind } ∷ []) ++ columns) ((found.places ++ place ∷ []) ++ places))) named
    ∙ ap (λ c. Ok (group_columns c ((found.places ++ place ∷ []) ++ places))) (append_assoc found.columns (column ∷ []) columns)
    ∙ ap (λ p. Ok (group_columns (found.columns ++ column ∷ columns) p)) (append_assoc found.places (place ∷ []) places)

pub pairs-grouped : (header : HeaderOf) (texts : Texts) (columns : List NamedKind) (places : List ℕ) (pairs : List WrittenPair) → AreReferences header.columns
    → ArePairsOf header.columns texts columns (map Column places) pairs → AreGroupPairs header columns places pairs
pairs-grouped header texts [] [] [] are w =
    record { formed = refl; known = tt; cells = λ found. rw (append-nil found.columns, append-nil found.places) refl }
pairs-grouped header texts (column ∷ columns) (place ∷ places) (pair ∷ pairs) are w =
    let own = reference-read header texts place column.kind pair.value are w.0.1 in
    let rest = pairs-grouped header texts columns places pairs are w.1 in
    record {
      formed = rw (own, rest.formed) refl;
      known = (reference-known header texts place column.kind pair.value are w.0.1, rest.known);
      cells = λ found. more-grouped header column columns place places pair pairs found w.0.0 (group-cell header texts place column.kind pair.value are w.0.1) rest.cells;
    }
pairs-grouped header texts _ _ _ are w = absurd w

-- Reading, then what was written.

pub pairs-kept : (row : List NamedKind) (texts all : Texts) (columns : List NamedKind) (exprs : List ExprTree) (pairs : List WrittenPair) → BeginsWith texts all
    → ArePairsOf row texts columns exprs pairs → ArePairsOf row all columns exprs pairs
pairs-kept row texts all [] [] [] begins w = tt
pairs-kept row texts all (column ∷ columns) (own ∷ exprs) (pair ∷ pairs) begins w =
    ((w.0.0, expr-kept row texts all own column.kind pair.value begins w.0.1), pairs-kept row texts all columns exprs pairs begins w.1)
pairs-kept row texts all _ _ _ begins w = absurd w

-- the pairs that these columns and expressions, after those found, were read from
pub record AreOfTyped (header : HeaderOf) (rule : KindRule) (found : TypedColumns) (pairs : List WrittenPair) (before : Texts) (typed : TypedColumns) (after : Texts) : Type 0 where
  pub columns : List NamedKind
  pub exprs : List ExprTree
  pub columns_are : typed.columns ≡ found.columns ++ columns
  pub exprs_are : typed.exprs ≡ found.exprs ++ exprs
  pub of : ArePairsOf header.columns after columns exprs pairs
  pub deep : All (λ e. depth e ≤ 64) exprs
  pub taken : takes_each rule columns ≡ true
  pub numbered : after ≡ with_texts before (pair_literals pairs)

-- one pair of these
record IsOfCell (header : HeaderOf) (rule : KindRule) (value : Data) (before : Texts) (typed : TypedExpr) (after : Texts) : Type 0 where
  pub written : IsExprWritten header.columns after typed.expr typed.kind value
  pub deep : depth typed.expr ≤ 64
  pub taken : takes_kind rule typed.kind ≡ true
  pub numbered : after ≡ texts_with before value

cell-of-typed : (header : HeaderOf) (rule : KindRule) (value : Data) (before : Texts) (typed : TypedExpr) (after : Texts) → typed_cell header rule value before ≡ Ok (typed, after) → IsOfCell header rule value before typed after
unfolding whole_expr
cell-of-typed header rule value before typed after e =
    let whole = gone_on (whole_expr header value before) _ (typed, after) e in
    let test = checked-ok (takes_kind rule whole.0.0.kind) (unfit header) whole.0 (typed, after) whole.2 in
    let first : whole.0.0 ≡ typed = ap (λ (p : TypedExpr × Texts). p.0) test.1 in
    let read : whole_expr header value before ≡ Ok (typed, after) = whole.1 ∙ ap Ok test.1 in
    let is = expr-written header 64 value before typed after read in
    record { written = is.written; deep = is.deep; taken = ap (λ (t : TypedExpr). takes_kind rule t.kind) (sym first) ∙ test.0; numbered = is.numbered }

begins-as : (texts after : Texts) (more : List (List ℕ)) → after ≡ with_texts texts more → BeginsWith texts after
begins-as texts after more same = rw same (begins-texts texts more)

pub typed-written : (header : HeaderOf) (rule : KindRule) (found : TypedColumns) (pairs : List WrittenPair) (before : Texts) (typed : TypedColumns) (after : Texts)
    → typed_pairs header rule found pairs before ≡ Ok (typed, after) → AreOfTyped header rule found pairs before typed after
typed-written header rule found [] before typed after e =
    let same = both-same {A = TypedColumns} (found, before) typed after _ refl e in
    record {
      columns = [];
      exprs = [];
      columns_are = ap (λ (t : TypedColumns). t.columns) (sym same.0) ∙ sym (append-nil found.columns);
      exprs_are = ap (λ (t : TypedColumns). t.exprs) (sym same.0) ∙ sym (append-nil found.exprs);
      of = tt;
      deep = All-nil (λ e. depth e ≤ 64);
      taken = refl;
      numbered = sym same.1 ∙ no-texts before;
    }
typed-written header rule found (pair ∷ pairs) before typed after e =
    let cell = gone_on (typed_cell header rule pair.value before) _ (typed, after) e in
    let own = cell-of-typed header rule pair.value before cell.0.0 cell.0.1 cell.1 in
    let rest = typed-written header rule (with_expr found pair.name cell.0.0) pairs cell.0.1 typed after cell.2 in
    let begins = begins-as cell.0.1 after (pair_literals pairs) rest.numbered in
    let column : NamedKind = record { name = pair.name; kind = cell.0.0.kind } in
    record {
      columns = column ∷ rest.columns;
      exprs = cell.0.0.expr ∷ rest.exprs;
      columns_are = rest.columns_are ∙ append_assoc found.columns (column ∷ []) rest.columns;
      exprs_are = rest.exprs_are ∙ append_assoc found.exprs (cell.0.0.expr ∷ []) rest.exprs;
      of = ((refl, expr-kept header.columns cell.0.1 after cell.0.0.expr cell.0.0.kind pair.value begins own.written), rest.of);
      deep = All-cons (λ e. depth e ≤ 64) cell.0.0.expr rest.exprs own.deep rest.deep;
      taken = rw (own.taken, rest.taken) refl;
      numbered = rest.numbered ∙ ap (λ t. with_texts t (pair_literals pairs)) own.numbered ∙ sym (with_texts-append before (literals pair.value) (pair_literals pairs));
    }

-- columns of whole numbers are what their names say
pub numbers-only : (row : List NamedKind) (texts : Texts) (columns : List NamedKind) (exprs : List ExprTree) (pairs : List WrittenPair) → ArePairsOf row texts columns exprs pairs
    → takes_each Numbers columns ≡ true → columns ≡ map number_column (pair_names pairs)
numbers-only row texts [] [] [] w taken = refl
numbers-only row texts (column ∷ columns) (own ∷ exprs) (pair ∷ pairs) w taken =
    let takes = and_parts (is_int column.kind) (takes_each Numbers columns) taken in
    let kind = int-only column.kind takes.0 in
    let first : column ≡ number_column pair.name = rw (w.0.0, ← kind) refl in
    rw (← first, ← numbers-only row texts columns exprs pairs w.1 takes.1) refl
  where
    int-only : (kind : Kind) → is_int kind ≡ true → kind ≡ Int
    int-only Int e = refl
    int-only Text e = cc e
numbers-only row texts _ _ _ w taken = absurd w

-- the pairs that these groups, after those found, were read from
pub record AreOfGroups (header : HeaderOf) (texts : Texts) (found : GroupColumns) (pairs : List WrittenPair) (grown : GroupColumns) : Type 0 where
  pub columns : List NamedKind
  pub places : List ℕ
  pub columns_are : grown.columns ≡ found.columns ++ columns
  pub places_are : grown.places ≡ found.places ++ places
  pub of : ArePairsOf header.columns texts columns (map Column places) pairs

cell-written : (header : HeaderOf) (texts : Texts) (value : Data) (cell : Cell) → group_cell header value ≡ Ok cell → IsExprWritten header.columns texts (Column cell.place) cell.kind value
cell-written header texts value cell e =
    let text = then-some (cell_of header.columns) (reference_in value) cell (some_from_ok (option_and_then (cell_of header.columns) (reference_in value)) (unfit header) cell e) in
    (text.0, cell-stands header.columns text.0 cell text.2, text-only value text.0 text.1)

pub groups-written : (header : HeaderOf) (texts : Texts) (found : GroupColumns) (pairs : List WrittenPair) (grown : GroupColumns) → grouped header found pairs ≡ Ok grown → AreOfGroups header texts found pairs grown
groups-written header texts found [] grown e =
    let same : found ≡ grown = cc in
    record {
      columns = [];
      places = [];
      columns_are = ap (λ (g : GroupColumns). g.columns) (sym same) ∙ sym (append-nil found.columns);
      places_are = ap (λ (g : GroupColumns). g.places) (sym same) ∙ sym (append-nil found.places);
      of = tt;
    }
groups-written header texts found (pair ∷ pairs) grown e =
    let cell = gone_on (group_cell header pair.value) _ grown e in
    let rest = groups-written header texts (with_cell found pair.name cell.0) pairs grown cell.2 in
    let column : NamedKind = record { name = pair.name; kind = cell.0.kind } in
    record {
      columns = column ∷ rest.columns;
      places = cell.0.place ∷ rest.places;
      columns_are = rest.columns_are ∙ append_assoc found.columns (column ∷ []) rest.columns;
      places_are = rest.places_are ∙ append_assoc found.places (cell.0.place ∷ []) rest.places;
      of = ((refl, cell-written header texts pair.value cell.0 cell.1), rest.of);
    }
