-- The columns of a derived view that are written are read as what they are, and those that are read are what was written.
use Rattle.std.proofs.Common.{◌≡◌, ℕ, ◌≤◌, ◌&&◌, Bool, true, false, List, [], ◌∷◌, ◌++◌, length, map, Option, Some, None, Ok, refl, ap, sym, ◌∙◌, arith, append_assoc, length-append, All}
use Rattle.std.specs.Prelude.{codes, nat_le, if◌then◌else◌, option_and_then}
use Rattle.std.specs.List.{AllPairs, IsDistinct, list_all}
use Rattle.std.specs.Str.{bytes_eq}
use Rattle.std.proofs.lemmas.Bool.{and_parts, le-leb}
use Rattle.std.proofs.lemmas.List.{append-nil, length-map, get_or_append_left}
use Rattle.std.proofs.lemmas.List.Sums.{list_all-from_AllPass}
use Rattle.toml.specs.View.{items_of}
use Rattle.toml.specs.Data.{Data, string, array, as_str, get}
use Rattle.wh_dag.specs.Catalog.{OutputOf, Keep, Sums}
use Rattle.wh_formula.specs.Expr.{ExprTree, Column, depth}
use Rattle.wh_text.specs.Columns.{AreNamed, NamedKind, names_of}
use Rattle.wh_text.specs.Dict.{with_texts}
use Rattle.wh_text.specs.Inner.Dict.{BeginsWith}
use Rattle.wh_text.specs.NameForm.{is_name}
use Rattle.wh_text.specs.declared.columns.Kind.{Kind}
use Rattle.wh_text.specs.declared.columns.Kind.TheVariants.{Int, Text}
use Rattle.wh_text.specs.declared.fault.Key.TheVariants as key
use Rattle.wh_text.specs.declared.fault.LoadFault.TheVariants as fault
use Rattle.wh_text.proofs.DictGrowth.{begins-same}
use Rattle.wh_text_catalogue.specs.BaseColumns.{is_few}
use Rattle.wh_text.specs.ValueOrFault.{◌>>=◌}
use Rattle.wh_text_catalogue.specs.Catalogue.{name_in}
use Rattle.wh_text_catalogue.specs.ColumnNames.{Seen, checked, fresh_name}
use Rattle.wh_text_catalogue.specs.FormulaKinds.{Texts, is_int}
use Rattle.wh_text_catalogue.specs.Header.{HeaderOf}
use Rattle.wh_text_catalogue.specs.Output.{ColumnsOf, Groups, count_column, count_written, group_written, groups, groups_of, joined_columns, output_at, output_of, summary_columns, sum_pairs_at, sum_columns}
use Rattle.wh_text_catalogue.specs.Pairs.{TypedColumns, WrittenPair, are_exprs, are_references, group_columns, grouped, known_pairs, pairs_written, typed_columns, typed_pairs}
use Rattle.wh_text_catalogue.specs.WrittenFormula.{IsExprWritten, literals}
use Rattle.wh_text_catalogue.specs.WrittenLaws.{AreReferences}
use Rattle.wh_text_catalogue.specs.WrittenOutput.{IsListWritten, IsListWrittenIfAny, IsOutputWritten, IsSummaryWritten, OutputsReadBack, ReadOutputsAreWritten, exprs_of, literals_at, number_column}
use Rattle.wh_text_catalogue.specs.declared.definitions.typed_pairs.KindRule.TheVariants.{AnyKind, Numbers}
use Rattle.wh_text_catalogue.proofs.CatalogueNames.{gone_on, some_from_ok}
use Rattle.wh_text_catalogue.proofs.ColumnsNamed.{has_pair_name, pair_names}
use Rattle.wh_text_catalogue.proofs.FormulasFit.{checked-ok}
use Rattle.wh_text_catalogue.proofs.OutputsFit.{names-more, output-within}
use Rattle.wh_text_catalogue.proofs.WrittenExprs.{both-same, int-literals, no-texts}
use Rattle.wh_text_catalogue.proofs.WrittenPairs.{AreOfTyped, ArePairsOf, Differ, any-taken, fresh-made, groups-written, known-made, list-form, list-only, names-of, numbers-only, numbers-taken, of-pairs, pair_literals, pair_values, pairs-grouped, pairs-of, pairs-typed, takes_each, typed-written, values-literals}

-- Lists of names.

-- distinct names are so from the first to any other
pub pairs-front : (xs ys : List (List ℕ)) → AllPairs Differ (xs ++ ys) → AllPairs Differ xs
pairs-front xs ys apart = λ i j d l m.
    (let whole = length-append xs ys in
    rw (get_or_append_left xs ys d i (omega arith), get_or_append_left xs ys d j m) at (apart i j d l (omega arith)))

formed-front : (xs ys : List (List ℕ)) → list_all is_name (xs ++ ys) ≡ true → list_all is_name xs ≡ true
formed-front [] ys formed = refl
formed-front (x ∷ xs) ys formed = let parts = and_parts (is_name x) (list_all is_name (xs ++ ys)) formed in rw (parts.0, formed-front xs ys parts.1) refl

formed-back : (xs ys : List (List ℕ)) → list_all is_name (xs ++ ys) ≡ true → list_all is_name ys ≡ true
formed-back [] ys formed = formed
formed-back (x ∷ xs) ys formed = formed-back xs ys (and_parts (is_name x) (list_all is_name (xs ++ ys)) formed).1

pairs-formed : (pairs : List WrittenPair) → list_all is_name (pair_names pairs) ≡ true → list_all has_pair_name pairs ≡ true
unfolding has_pair_name
pairs-formed [] formed = refl
pairs-formed (pair ∷ pairs) formed = let parts = and_parts (is_name pair.name) (list_all is_name (pair_names pairs)) formed in rw (parts.0, pairs-formed pairs parts.1) refl

number-names : (names : List (List ℕ)) → names_of (map number_column names) ≡ names
number-names [] = refl
number-names (name ∷ names) = ap (λ ns. name ∷ ns) (number-names names)

-- What stands at a key.

-- the pairs of a list that was written
record IsList (row : List NamedKind) (texts : Texts) (columns : List NamedKind) (exprs : List ExprTree) (value : Data) : Type 0 where
  pub pairs : List WrittenPair
  pub of : ArePairsOf row texts columns exprs pairs
  pub is : value ≡ array (items_of (pair_values pairs))

list-of : (row : List NamedKind) (texts : Texts) (columns : List NamedKind) (exprs : List ExprTree) (value : Data) → IsListWritten row texts columns exprs (Some value) → IsList row texts columns exprs value
list-of row texts columns exprs value w =
    let own = pairs-of row texts columns exprs w.0 w.2 in
    record { pairs = own.pairs; of = own.of; is = w.1 ∙ ap (λ vs. array (items_of vs)) own.are }

list-literals : (value : Data) (pairs : List WrittenPair) → value ≡ array (items_of (pair_values pairs)) → literals value ≡ pair_literals pairs
list-literals value pairs is = ap literals is ∙ values-literals pairs

-- expressions of whole numbers have no texts
no-pair-literals : (row : List NamedKind) (texts : Texts) (columns : List NamedKind) (exprs : List ExprTree) (pairs : List WrittenPair) → ArePairsOf row texts columns exprs pairs
    → takes_each Numbers columns ≡ true → pair_literals pairs ≡ []
no-pair-literals row texts [] [] [] w taken = refl
no-pair-literals row texts (column ∷ columns) (own ∷ exprs) (pair ∷ pairs) w taken =
    let takes = and_parts (is_int column.kind) (takes_each Numbers columns) taken in
    rw (own-none column.kind takes.0 w.0.1, no-pair-literals row texts columns exprs pairs w.1 takes.1) refl
  where
    own-none : (kind : Kind) → is_int kind ≡ true → IsExprWritten row texts own kind pair.value → literals pair.value ≡ []
    own-none Int e w = int-literals row texts own pair.value w
    own-none Text e w = cc e
no-pair-literals row texts _ _ _ w taken = absurd w

-- Joined views, written and then read.

pub few-made : (n : ℕ) → 1 ≤ n → n ≤ 64 → is_few n ≡ true
few-made n some few = rw (le-leb 1 n some, le-leb n 64 few) refl

keep-read : (header : HeaderOf) (all : Texts) (columns : List NamedKind) (exprs : List ExprTree) (value : Data) (before : Texts) → AreReferences header.columns → IsDistinct bytes_eq all
    → All (λ e. depth e ≤ 64) exprs → 1 ≤ length columns → length columns ≤ 64 → AreNamed columns → IsListWritten header.columns all columns exprs (Some value)
    → BeginsWith (with_texts before (literals value)) all → joined_columns header value before ≡ Ok (record { columns = columns; output = Keep exprs }, with_texts before (literals value))
keep-read header all columns exprs value before are distinct deep some few named w begins =
    let list = list-of header.columns all columns exprs value w in
    let same : literals value ≡ pair_literals list.pairs = list-literals value list.pairs list.is in
    let names = names-of header.columns all columns exprs list.pairs list.of in
    let formed = pairs-formed list.pairs (rw names (list_all-from_AllPass is_name (names_of columns) named.formed)) in
    let count : length list.pairs ≡ length columns = sym (length-map list.pairs (λ (p : WrittenPair). p.name)) ∙ ap length names ∙ length-map columns (λ (c : NamedKind). c.name) in
    let typed = pairs-typed header AnyKind all columns exprs list.pairs before are distinct deep (any-taken columns) list.of (rw same at begins) in
    let known = known-made header.columns [] list.pairs typed.known (rw names named.distinct) in
    ap (λ v. joined_columns header v before) list.is
    ∙ rw (list-form key.Keep list.pairs formed, count, few-made (length columns) some few, typed.formed, known, typed.typed (typed_columns [] [])) refl
    ∙ ap (λ t. Ok (record { columns = columns; output = Keep exprs }, with_texts before t)) (sym same)

-- Summaries, written and then read.

-- the parts of a summary's names
record AreSummaryNames (groups : List NamedKind) (count : List ℕ) (sums : List (List ℕ)) : Type 0 where
  pub groups_formed : list_all is_name (names_of groups) ≡ true
  pub groups_distinct : AllPairs Differ (names_of groups)
  pub count_formed : is_name count ≡ true
  pub count_distinct : AllPairs Differ (names_of groups ++ count ∷ sums)
  pub sums_formed : list_all is_name sums ≡ true
  pub sums_distinct : AllPairs Differ ((names_of groups ++ count ∷ []) ++ sums)

summary-names : (columns groups : List NamedKind) (count : List ℕ) (sums : List (List ℕ)) → columns ≡ groups ++ number_column count ∷ map number_column sums → AreNamed columns → AreSummaryNames groups count sums
summary-names columns groups count sums is named =
    let names : names_of columns ≡ names_of groups ++ count ∷ sums =
    ap names_of is ∙ names-more groups (number_column count ∷ map number_column sums) ∙ ap (λ ns. names_of groups ++ count ∷ ns) (number-names sums) in
    let formed : list_all is_name (names_of groups ++ count ∷ sums) ≡ true = rw (← names) (list_all-from_AllPass is_name (names_of columns) named.formed) in
    let distinct : AllPairs Differ (names_of groups ++ count ∷ sums) = rw (← names) named.distinct in
    let rest = and_parts (is_name count) (list_all is_name sums) (formed-back (names_of groups) (count ∷ sums) formed) in
    record {
      groups_formed = formed-front (names_of groups) (count ∷ sums) formed;
      groups_distinct = pairs-front (names_of groups) (count ∷ sums) distinct;
      count_formed = rest.0;
      count_distinct = distinct;
      sums_formed = rest.1;
      sums_distinct = rw (append_assoc (names_of groups) (count ∷ []) sums) distinct;
    }

group-read : (header : HeaderOf) (all : Texts) (columns : List NamedKind) (places : List ℕ) (value : Data) → AreReferences header.columns → list_all is_name (names_of columns) ≡ true
    → AllPairs Differ (names_of columns) → IsListWritten header.columns all columns (map Column places) (Some value) → groups_of header value ≡ Ok (groups (names_of columns) columns places)
group-read header all columns places value are formed distinct w =
    let list = list-of header.columns all columns (map Column places) value w in
    let names = names-of header.columns all columns (map Column places) list.pairs list.of in
    let group = pairs-grouped header all columns places list.pairs are list.of in
    let known : known_pairs header.columns [] list.pairs ≡ Ok (names_of columns) = known-made header.columns [] list.pairs group.known (rw names distinct) ∙ ap Ok names in
    ap (groups_of header) list.is
    ∙ rw (list-form key.Group list.pairs (pairs-formed list.pairs (rw names formed)), group.formed, known, group.cells (group_columns [] [])) refl

count-read : (entry : Data) (count : List ℕ) → is_name count ≡ true → get (codes "count") entry ≡ Some (string count) → count_written entry ≡ Ok count
count-read entry count formed at = rw (at, formed) refl

-- the sums at a key, which number no texts
sum-read : (header : HeaderOf) (all : Texts) (seen : Seen) (front : List NamedKind) (names : List (List ℕ)) (sums : List ExprTree) (found : Option Data) (before : Texts) → AreReferences header.columns
    → IsDistinct bytes_eq all → BeginsWith before all → All (λ e. depth e ≤ 64) sums → list_all is_name names ≡ true → AllPairs Differ (seen ++ names)
    → IsListWrittenIfAny header.columns all (map number_column names) sums found
    → (sum_pairs_at found >>= (λ pairs. known_pairs header.columns seen pairs >>= (λ later. typed_pairs header Numbers (typed_columns front []) pairs before)))
    ≡ Ok (typed_columns (front ++ map number_column names) sums, before)
sum-read header all seen front names sums None before are distinct begins deep formed apart w =
    rw (w.0, w.1, append-nil front) refl
sum-read header all seen front names sums (Some value) before are distinct begins deep formed apart w =
    let list = list-of header.columns all (map number_column names) sums value w in
    let own : pair_names list.pairs ≡ names = names-of header.columns all (map number_column names) sums list.pairs list.of ∙ number-names names in
    let none = no-pair-literals header.columns all (map number_column names) sums list.pairs list.of (numbers-taken names) in
    let same : before ≡ with_texts before (pair_literals list.pairs) = no-texts before ∙ ap (with_texts before) (sym none) in
    let typed = pairs-typed header Numbers all (map number_column names) sums list.pairs before are distinct deep (numbers-taken names) list.of (rw (← same) begins) in
    let known = known-made header.columns seen list.pairs typed.known (rw own apart) in
    ap (λ v. sum_pairs_at (Some v) >>= (λ pairs. known_pairs header.columns seen pairs >>= (λ later. typed_pairs header Numbers (typed_columns front []) pairs before))) list.is
    ∙ rw (list-form key.Sum list.pairs (pairs-formed list.pairs (rw own formed)), typed.formed, known, typed.typed (typed_columns front [])) refl
    ∙ ap (λ t. Ok (typed_columns (front ++ map number_column names) sums, t)) (sym same)

summary-read : (header : HeaderOf) (all : Texts) (columns : List NamedKind) (places : List ℕ) (sums : List ExprTree) (entry value : Data) (before : Texts) → AreReferences header.columns
    → IsDistinct bytes_eq all → BeginsWith before all → All (λ e. depth e ≤ 64) sums → length columns ≤ 64 → AreNamed columns → IsSummaryWritten header.columns all columns places sums entry
    → get (codes "group") entry ≡ Some value → summary_columns header entry value before ≡ Ok (record { columns = columns; output = Sums places sums }, before)
summary-read header all columns places sums entry value before are distinct begins deep few named w at =
    let names = summary-names columns w.groups w.count w.sum_names w.columns_are named in
    let group = group-read header all w.groups places value are names.groups_formed names.groups_distinct (rw at at w.group) in
    let count = count-read entry w.count names.count_formed w.counted in
    let fresh = fresh-made (names_of w.groups) w.count w.sum_names names.count_distinct in
    let sum =
    sum-read header all (names_of w.groups ++ w.count ∷ []) (w.groups ++ count_column w.count ∷ []) w.sum_names sums (get (codes "sum") entry) before are distinct begins deep names.sums_formed names.sums_distinct w.sum in
    let whole : (w.groups ++ count_column w.count ∷ []) ++ map number_column w.sum_names ≡ columns =
    append_assoc w.groups (number_column w.count ∷ []) (map number_column w.sum_names) ∙ sym w.columns_are in
    rw (group, count, fresh, sum, whole, le-leb (length columns) 64 few) refl

-- Outputs, written and then read.

no-more : (texts : Texts) (found : Option Data) → found ≡ None → with_texts texts (literals_at found) ≡ texts
no-more texts found none = ap (λ f. with_texts texts (literals_at f)) none ∙ sym (no-texts texts)

-- an output that was written, where all texts begin with those that it numbers
pub output-read : (header : HeaderOf) (all : Texts) (entry : Data) (columns : List NamedKind) (output : OutputOf) (before : Texts) → AreReferences header.columns → IsDistinct bytes_eq all
    → All (λ e. depth e ≤ 64) (exprs_of output) → 1 ≤ length columns → length columns ≤ 64 → AreNamed columns → IsOutputWritten header.columns all columns output entry
    → BeginsWith (with_texts before (literals_at (get (codes "keep") entry))) all
    → output_of header entry before ≡ Ok (record { columns = columns; output = output }, with_texts before (literals_at (get (codes "keep") entry)))
output-read header all entry columns (Keep exprs) before are distinct deep some few named w begins = by (get (codes "keep") entry) refl w.1 begins
  where
    by : (keep : Option Data) → get (codes "keep") entry ≡ keep → IsListWritten header.columns all columns exprs keep → BeginsWith (with_texts before (literals_at keep)) all
        → output_of header entry before ≡ Ok (record { columns = columns; output = Keep exprs }, with_texts before (literals_at keep))
    by None is list first = absurd list
    by (Some value) is list first = rw (is, w.0) (keep-read header all columns exprs value before are distinct deep some few named list first)
output-read header all entry columns (Sums places sums) before are distinct deep some few named w begins =
    let none = no-more before (get (codes "keep") entry) w.0 in
    by (get (codes "group") entry) refl (w.1).group ∙ ap (λ t. Ok (record { columns = columns; output = Sums places sums }, t)) (sym none)
  where
    by : (group : Option Data) → get (codes "group") entry ≡ group → IsListWritten header.columns all w.1.groups (map Column places) group
        → output_of header entry before ≡ Ok (record { columns = columns; output = Sums places sums }, before)
    by None is list = absurd list
    by (Some value) is list =
        rw (w.0, is) (summary-read header all columns places sums entry value before are distinct (rw (no-more before (get (codes "keep") entry) w.0) at begins) deep few named w.1 is)

pub outputs-read-back : OutputsReadBack
outputs-read-back header entry texts own after are distinct is =
    let begins : BeginsWith (with_texts texts (literals_at (get (codes "keep") entry))) after = rw (← is.numbered) (begins-same after) in
    output-read header after entry own.columns own.output texts are distinct is.levels is.some is.few is.named is.written begins ∙ ap (λ t. Ok (own, t)) (sym is.numbered)

-- Reading, then what was written.

-- the data write this output, with the texts that it has numbered
record IsOfOutput (header : HeaderOf) (entry : Data) (texts : Texts) (own : ColumnsOf) (after : Texts) : Type 0 where
  pub written : IsOutputWritten header.columns after own.columns own.output entry
  pub deep : All (λ e. depth e ≤ 64) (exprs_of own.output)
  pub numbered : after ≡ with_texts texts (literals_at (get (codes "keep") entry))

of-same : (header : HeaderOf) (entry : Data) (texts : Texts) (made own : ColumnsOf) (so_far after : Texts) → (made ≡ own) × (so_far ≡ after) → IsOfOutput header entry texts made so_far → IsOfOutput header entry texts own after
of-same header entry texts made own so_far after same is = rw (← same.0, ← same.1) is

-- pairs that are read are a list
list-written : (row : List NamedKind) (texts : Texts) (columns : List NamedKind) (exprs : List ExprTree) (value : Data) (pairs : List WrittenPair) → value ≡ array (items_of (pair_values pairs))
    → ArePairsOf row texts columns exprs pairs → IsListWritten row texts columns exprs (Some value)
list-written row texts columns exprs value pairs is of = (pair_values pairs, is, of-pairs row texts columns exprs pairs of)

keep-of : (header : HeaderOf) (entry value : Data) (texts : Texts) (own : ColumnsOf) (after : Texts) → get (codes "keep") entry ≡ Some value → get (codes "group") entry ≡ None
    → joined_columns header value texts ≡ Ok (own, after) → IsOfOutput header entry texts own after
keep-of header entry value texts own after at none e =
    let pairs = gone_on (pairs_written key.Keep value) _ (own, after) e in
    let formed = gone_on (checked (is_few (length pairs.0) && are_exprs pairs.0) (fault.Key key.Keep) pairs.0) _ (own, after) pairs.2 in
    let names = gone_on (known_pairs header.columns [] formed.0) _ (own, after) formed.2 in
    let typed = gone_on (typed_pairs header AnyKind (typed_columns [] []) formed.0 texts) _ (own, after) names.2 in
    let made : ColumnsOf = record { columns = typed.0.0.columns; output = Keep typed.0.0.exprs } in
    let same = both-same {A = ColumnsOf} (made, typed.0.1) own after _ refl typed.2 in
    let test = checked-ok (is_few (length pairs.0) && are_exprs pairs.0) (fault.Key key.Keep) pairs.0 formed.0 formed.1 in
    let value-is : value ≡ array (items_of (pair_values formed.0)) = list-only key.Keep value pairs.0 pairs.1 ∙ ap (λ ps. array (items_of (pair_values ps))) test.1 in
    let are = typed-written header AnyKind (typed_columns [] []) formed.0 texts typed.0.0 typed.0.1 typed.1 in
    let written = list-written header.columns typed.0.1 are.columns are.exprs value formed.0 value-is are.of in
    of-same header entry texts made own typed.0.1 after same
    (rw (are.columns_are, are.exprs_are) (record {
      written = (none, rw at written);
      deep = are.deep;
      numbered = are.numbered ∙ ap (with_texts texts) (sym (list-literals value formed.0 value-is)) ∙ ap (λ f. with_texts texts (literals_at f)) (sym at);
    }))

-- the pairs of the groups of a summary
record AreGroupsWritten (row : List NamedKind) (texts : Texts) (value : Data) (read : Groups) : Type 0 where
  pub list : IsListWritten row texts read.found.columns (map Column read.found.places) (Some value)

groups-of : (header : HeaderOf) (texts : Texts) (value : Data) (read : Groups) → groups_of header value ≡ Ok read → AreGroupsWritten header.columns texts value read
groups-of header texts value read e =
    let pairs = gone_on (group_written value) _ read e in
    let written = gone_on (pairs_written key.Group value) _ pairs.0 pairs.1 in
    let test = checked-ok (are_references written.0) (fault.Key key.Group) written.0 pairs.0 written.2 in
    let seen = gone_on (known_pairs header.columns [] pairs.0) _ read pairs.2 in
    let found = gone_on (grouped header (group_columns [] []) pairs.0) _ read seen.2 in
    let same : record { names = seen.0; found = found.0 } ≡ read = cc in
    let are = groups-written header texts (group_columns [] []) pairs.0 found.0 found.1 in
    let value-is : value ≡ array (items_of (pair_values pairs.0)) = list-only key.Group value written.0 written.1 ∙ ap (λ ps. array (items_of (pair_values ps))) test.1 in
    rw (← same) (record { list = rw (are.columns_are, are.places_are) (list-written header.columns texts are.columns (map Column are.places) value pairs.0 value-is are.of) })

count-of : (entry : Data) (count : List ℕ) → count_written entry ≡ Ok count → get (codes "count") entry ≡ Some (string count)
count-of entry count e = by (get (codes "count") entry) (some_from_ok (option_and_then name_in (option_and_then as_str (get (codes "count") entry))) (fault.Key key.Count) count e)
  where
    text : (name : List ℕ) (b : Bool) → (if b then Some name else None) ≡ Some count → Some (string name) ≡ Some (string count)
    text name true e = let same : name ≡ count = cc in ap (λ n. Some (string n)) same
    text name false e = cc e

    by : (o : Option Data) → option_and_then name_in (option_and_then as_str o) ≡ Some count → o ≡ Some (string count)
    by None e = cc e
    by (Some (string name)) e = text name (is_name name) e
    by (Some other) e = cc e

-- the sums of a summary, after its groups and its count
record AreSumsWritten (row : List NamedKind) (texts : Texts) (front : List NamedKind) (found : Option Data) (typed : TypedColumns) (after : Texts) : Type 0 where
  pub names : List (List ℕ)
  pub columns_are : typed.columns ≡ front ++ map number_column names
  pub list : IsListWrittenIfAny row after (map number_column names) typed.exprs found
  pub deep : All (λ e. depth e ≤ 64) typed.exprs
  pub same : after ≡ texts

-- what stands at the key of pairs that are read
at-sum : (header : HeaderOf) (after : Texts) (o : Option Data) (pairs : List WrittenPair) (columns : List NamedKind) (exprs : List ExprTree) → sum_pairs_at o ≡ Ok pairs → ArePairsOf header.columns after columns exprs pairs
    → IsListWrittenIfAny header.columns after columns exprs o
at-sum header after None pairs columns exprs e of = let same : [] ≡ pairs = cc in empty columns exprs (rw (← same) at of)
  where
    empty : (columns : List NamedKind) (exprs : List ExprTree) → ArePairsOf header.columns after columns exprs [] → (columns ≡ []) × (exprs ≡ [])
    empty [] [] of = (refl, refl)
    empty [] (own ∷ exprs) of = absurd of
    empty (column ∷ columns) [] of = absurd of
    empty (column ∷ columns) (own ∷ exprs) of = absurd of
at-sum header after (Some value) pairs columns exprs e of =
    let written = gone_on (pairs_written key.Sum value) _ pairs e in
    let test = checked-ok (are_exprs written.0) (fault.Key key.Sum) written.0 pairs written.2 in
    list-written header.columns after columns exprs value pairs (list-only key.Sum value written.0 written.1 ∙ ap (λ ps. array (items_of (pair_values ps))) test.1) of

-- the sums that pairs are read as
sums-from : (header : HeaderOf) (front : List NamedKind) (found : Option Data) (texts : Texts) (typed : TypedColumns) (after : Texts) (pairs : List WrittenPair) → sum_pairs_at found ≡ Ok pairs
    → AreOfTyped header Numbers (typed_columns front []) pairs texts typed after → AreSumsWritten header.columns texts front found typed after
sums-from header front found texts typed after pairs at are =
    let columns = numbers-only header.columns after are.columns are.exprs pairs are.of are.taken in
    let none = no-pair-literals header.columns after are.columns are.exprs pairs are.of are.taken in
    let list = at-sum header after found pairs are.columns are.exprs at are.of in
    record {
      names = pair_names pairs;
      columns_are = are.columns_are ∙ ap (λ cs. front ++ cs) columns;
      list = rw (are.exprs_are, ← columns) list;
      deep = rw are.exprs_are are.deep;
      same = are.numbered ∙ ap (with_texts texts) none ∙ sym (no-texts texts);
    }

sums-of : (header : HeaderOf) (seen : Seen) (front : List NamedKind) (found : Option Data) (texts : Texts) (typed : TypedColumns) (after : Texts)
    → (sum_pairs_at found >>= (λ pairs. known_pairs header.columns seen pairs >>= (λ later. typed_pairs header Numbers (typed_columns front []) pairs texts))) ≡ Ok (typed, after)
    → AreSumsWritten header.columns texts front found typed after
sums-of header seen front found texts typed after e =
    let pairs = gone_on (sum_pairs_at found) _ (typed, after) e in
    let names = gone_on (known_pairs header.columns seen pairs.0) _ (typed, after) pairs.2 in
    sums-from header front found texts typed after pairs.0 pairs.1 (typed-written header Numbers (typed_columns front []) pairs.0 texts typed after names.2)

summary-of : (header : HeaderOf) (entry value : Data) (texts : Texts) (own : ColumnsOf) (after : Texts) → get (codes "keep") entry ≡ None → get (codes "group") entry ≡ Some value
    → summary_columns header entry value texts ≡ Ok (own, after) → IsOfOutput header entry texts own after
summary-of header entry value texts own after none at e =
    let read = gone_on (groups_of header value) _ (own, after) e in
    let count = gone_on (count_written entry) _ (own, after) read.2 in
    let names = gone_on (fresh_name read.0.names count.0) _ (own, after) count.2 in
    let front = read.0.found.columns ++ count_column count.0 ∷ [] in
    let sums = gone_on (sum_columns header names.0 front entry texts) _ (own, after) names.2 in
    let columns = gone_on (checked (nat_le (length sums.0.0.columns) 64) (fault.Key key.Group) sums.0.0.columns) _ (own, after) sums.2 in
    let made : ColumnsOf = record { columns = columns.0; output = Sums read.0.found.places sums.0.0.exprs } in
    let same = both-same {A = ColumnsOf} (made, sums.0.1) own after _ refl columns.2 in
    let test = checked-ok (nat_le (length sums.0.0.columns) 64) (fault.Key key.Group) sums.0.0.columns columns.0 columns.1 in
    let are = sums-of header names.0 front (get (codes "sum") entry) texts sums.0.0 sums.0.1 sums.1 in
    let group = groups-of header sums.0.1 value read.0 read.1 in
    of-same header entry texts made own sums.0.1 after same (record {
      written = (
        none,
        record {
          groups = read.0.found.columns;
          count = count.0;
          sum_names = are.names;
          columns_are = sym test.1 ∙ are.columns_are ∙ append_assoc read.0.found.columns (number_column count.0 ∷ []) (map number_column are.names);
          group = rw at group.list;
          counted = count-of entry count.0 count.1;
          sum = are.list;
        },
      );
      deep = are.deep;
      numbered = are.same ∙ sym (no-more texts (get (codes "keep") entry) none);
    })

output-of : (header : HeaderOf) (entry : Data) (texts : Texts) (own : ColumnsOf) (after : Texts) → output_of header entry texts ≡ Ok (own, after) → IsOfOutput header entry texts own after
output-of header entry texts own after = by (get (codes "keep") entry) (get (codes "group") entry) refl refl
  where
    by : (keep group : Option Data) → get (codes "keep") entry ≡ keep → get (codes "group") entry ≡ group → output_at header entry keep group texts ≡ Ok (own, after) → IsOfOutput header entry texts own after
    by None None k g e = cc e
    by None (Some group) k g e = summary-of header entry group texts own after k g e
    by (Some keep) None k g e = keep-of header entry keep texts own after k g e
    by (Some keep) (Some group) k g e = let columns = gone_on (joined_columns header keep texts) _ (own, after) e in cc

pub read-outputs-are-written : ReadOutputsAreWritten
read-outputs-are-written header entry texts own after e =
    let is = output-of header entry texts own after e in
    let fits = (output-within header entry texts own after e).columns in
    record { written = is.written; levels = is.deep; some = fits.some; few = fits.few; named = fits.named; numbered = is.numbered }
