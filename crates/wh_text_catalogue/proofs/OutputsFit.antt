-- The columns of a derived view that is read: 1 to 64, named, as many as its output has, whose places lie within the combined row.
use Rattle.std.proofs.Common.{◌≡◌, ℕ, ◌<◌, ◌+◌, ◌&&◌, Bool, true, false, List, [], ◌∷◌, ◌++◌, length, Option, Some, None, Result, Ok, refl, ap, sym, subst, ◌∙◌, arith, append_assoc, length-append, nat_lt, IsTrue, All}
use Rattle.std.specs.Prelude.{codes, nat_le}
use Rattle.std.specs.List.{list_all}
use Rattle.std.proofs.lemmas.Bool.{leb-true, lt-ltb, ltb-true}
use Rattle.std.proofs.lemmas.List.{append-nil, length-map}
use Rattle.std.proofs.lemmas.List.Folds.{list_all-append}
use Rattle.std.proofs.lemmas.List.Sums.{AllPass-from_list_all}
use Rattle.toml.specs.Data.{Data, get}
use Rattle.wh_dag.specs.Catalog.{FitsOutput, Keep, OutputOf, Sums}
use Rattle.wh_dag.specs.Catalog as catalog
use Rattle.wh_formula.specs.Expr.{fits}
use Rattle.wh_text.specs.Columns.{AreNamed, NamedKind, names_of}
use Rattle.wh_text.specs.declared.fault.Key.TheVariants as key
use Rattle.wh_text.specs.declared.fault.LoadFault.{LoadFault}
use Rattle.wh_text.specs.declared.fault.LoadFault.TheVariants as fault
use Rattle.wh_text.specs.NameForm.{is_name}
use Rattle.wh_text_catalogue.specs.BaseColumns.{is_few}
use Rattle.wh_text_catalogue.specs.ColumnNames.{Seen, checked, fresh_name}
use Rattle.wh_text_catalogue.specs.FormulaKinds.{Texts, unfit}
use Rattle.wh_text_catalogue.specs.Formula.{whole_expr}
use Rattle.wh_text_catalogue.specs.Header.{HeaderOf, cell_of}
use Rattle.wh_text_catalogue.specs.Output.{ColumnsOf, Groups, count_column, count_written, group_written, groups_of, joined_columns, output_at, output_of, summary_columns, sum_pairs_at, sum_columns}
use Rattle.wh_text_catalogue.specs.Pairs.{GroupColumns, TypedColumns, WrittenPair, are_exprs, are_references, group_cell, group_columns, grouped, known_pairs, pairs_written, reference_in, takes_kind, typed_cell, typed_columns, typed_pairs, with_cell, with_expr}
use Rattle.wh_text_catalogue.specs.declared.definitions.header.Cell.{Cell}
use Rattle.wh_text_catalogue.specs.declared.definitions.typed_pairs.KindRule.{KindRule}
use Rattle.wh_text_catalogue.specs.declared.definitions.typed_pairs.KindRule.TheVariants.{AnyKind, Numbers}
use Rattle.wh_text_catalogue.proofs.CatalogueNames.{form_from, gone_on, some_from_ok}
use Rattle.wh_text_catalogue.proofs.ColumnsNamed.{AreApart, AreColumns, apart-next, apart-none, few-both, has_pair_name, known-apart, named-from, pair_names, pairs_written-names, then-some}
use Rattle.wh_text_catalogue.proofs.ShapesRead.{same_Ok}
use Rattle.wh_text_catalogue.proofs.FormulasFit.{checked-ok, place-within, whole_expr-fits}

pub first-of : {A B : Type 0} (p : A × B) (a : A) (b : B) (r : Result (A × B) LoadFault) → r ≡ Ok p → r ≡ Ok (a, b) → p.0 ≡ a
first-of {A} {B} p a b r e f = let same : p ≡ (a, b) = cc in ap (λ (q : A × B). q.0) same

pub names-more : (columns : List NamedKind) (more : List NamedKind) → names_of (columns ++ more) ≡ names_of columns ++ names_of more
names-more [] more = refl
names-more (c ∷ columns) more = ap (λ names. c.name ∷ names) (names-more columns more)

-- The expressions of pairs.

-- these columns, after those found, are named after the pairs, and each has its expression, which lies within the row
record AreTyped (header : HeaderOf) (found : TypedColumns) (pairs : List WrittenPair) (typed : TypedColumns) : Type 0 where
  pub names : names_of typed.columns ≡ names_of found.columns ++ pair_names pairs
  pub each : length typed.exprs ≡ length found.exprs + length pairs
  pub within : list_all (fits (length header.columns)) typed.exprs ≡ true

are-typed : (header : HeaderOf) (rule : KindRule) (found : TypedColumns) (pairs : List WrittenPair) (texts : Texts) (typed : TypedColumns) (after : Texts)
    → list_all (fits (length header.columns)) found.exprs ≡ true → typed_pairs header rule found pairs texts ≡ Ok (typed, after) → AreTyped header found pairs typed
are-typed header rule found [] texts typed after within e =
    let same = first-of {A = TypedColumns} {B = Texts} (found, texts) typed after _ refl e in
    rw (← same) (record { names = sym (append-nil (names_of found.columns)); each = omega arith; within = within })
are-typed header rule found (pair ∷ rest) texts typed after within e =
    let cell = gone_on (typed_cell header rule pair.value texts) _ (typed, after) e in
    let whole = gone_on (whole_expr header pair.value texts) _ cell.0 cell.1 in
    let own = checked-ok (takes_kind rule whole.0.0.kind) (unfit header) whole.0 cell.0 whole.2 in
    let fit = whole_expr-fits header pair.value texts whole.0.0 whole.0.1 whole.1 in
    let fit : fits (length header.columns) cell.0.0.expr ≡ true = rw (← own.1) fit in
    let more = are-typed header rule (with_expr found pair.name cell.0.0) rest cell.0.1 typed after
    (rw (list_all-append (fits (length header.columns)) found.exprs (cell.0.0.expr ∷ []), within, fit) refl) cell.2 in
    let one = length-append found.exprs (cell.0.0.expr ∷ []) in
    let count = more.each in
    record {
      names = more.names ∙ ap (λ n. n ++ pair_names rest) (names-more found.columns (record { name = pair.name; kind = cell.0.0.kind } ∷ []))
          ∙ append_assoc (names_of found.columns) (pair.name ∷ []) (pair_names rest);
      each = omega arith;
      within = more.within;
    }

-- The cells of groups.

record AreGrouped (header : HeaderOf) (found : GroupColumns) (pairs : List WrittenPair) (grown : GroupColumns) : Type 0 where
  pub names : names_of grown.columns ≡ names_of found.columns ++ pair_names pairs
  pub each : length grown.places ≡ length found.places + length pairs
  pub within : list_all (λ place. nat_lt place (length header.columns)) grown.places ≡ true

cell-within : (header : HeaderOf) (value : Data) (cell : Cell) → group_cell header value ≡ Ok cell → cell.place < length header.columns
cell-within header value cell e =
    let text = then-some (cell_of header.columns) (reference_in value) cell (some_from_ok _ (unfit header) cell e) in
    place-within header.columns text.0 cell text.2

are-grouped : (header : HeaderOf) (found : GroupColumns) (pairs : List WrittenPair) (grown : GroupColumns)
    → list_all (λ place. nat_lt place (length header.columns)) found.places ≡ true → grouped header found pairs ≡ Ok grown → AreGrouped header found pairs grown
are-grouped header found [] grown within e =
    let same : found ≡ grown = cc in
    rw (← same) (record { names = sym (append-nil (names_of found.columns)); each = omega arith; within = within })
are-grouped header found (pair ∷ rest) grown within e =
    let cell = gone_on (group_cell header pair.value) _ grown e in
    let fit = lt-ltb cell.0.place (length header.columns) (cell-within header pair.value cell.0 cell.1) in
    let more = are-grouped header (with_cell found pair.name cell.0) rest grown
    (rw (list_all-append (λ place. nat_lt place (length header.columns)) found.places (cell.0.place ∷ []), within, fit) refl) cell.2 in
    let one = length-append found.places (cell.0.place ∷ []) in
    let count = more.each in
    record {
      names = more.names ∙ ap (λ n. n ++ pair_names rest) (names-more found.columns (record { name = pair.name; kind = cell.0.kind } ∷ []))
          ∙ append_assoc (names_of found.columns) (pair.name ∷ []) (pair_names rest);
      each = omega arith;
      within = more.within;
    }

-- Outputs.

-- columns that are named, and an output of so many within the combined row
pub record IsOutput (header : HeaderOf) (own : ColumnsOf) : Type 0 where
  pub columns : AreColumns own.columns
  pub each : length own.columns ≡ catalog.columns own.output
  pub within : FitsOutput (length header.columns) own.output

length-names : (columns : List NamedKind) → length (names_of columns) ≡ length columns
length-names columns = length-map columns (λ (column : NamedKind). column.name)

length-pairs : (pairs : List WrittenPair) → length (pair_names pairs) ≡ length pairs
length-pairs pairs = length-map pairs (λ (pair : WrittenPair). pair.name)

kept-output : (header : HeaderOf) (value : Data) (texts : Texts) (own : ColumnsOf) (after : Texts) → joined_columns header value texts ≡ Ok (own, after) → IsOutput header own
kept-output header value texts own after e =
    let pairs = gone_on (pairs_written key.Keep value) _ (own, after) e in
    let formed = gone_on (checked (is_few (length pairs.0) && are_exprs pairs.0) (fault.Key key.Keep) pairs.0) _ (own, after) pairs.2 in
    let names = gone_on (known_pairs header.columns [] formed.0) _ (own, after) formed.2 in
    let typed = gone_on (typed_pairs header AnyKind (typed_columns [] []) formed.0 texts) _ (own, after) names.2 in
    let same = first-of {A = ColumnsOf} {B = Texts} (record { columns = typed.0.0.columns; output = Keep typed.0.0.exprs }, typed.0.1) own after _ refl typed.2 in
    let test = checked-ok (is_few (length pairs.0) && are_exprs pairs.0) (fault.Key key.Keep) pairs.0 formed.0 formed.1 in
    let few = few-both (length formed.0) (rw (← test.1) (and-first (is_few (length pairs.0)) (are_exprs pairs.0) test.0)) in
    let are = are-typed header AnyKind (typed_columns [] []) formed.0 texts typed.0.0 typed.0.1 refl typed.1 in
    let apart = known-apart header.columns [] formed.0 names.0 apart-none (rw (← test.1) (pairs_written-names key.Keep value pairs.0 pairs.1)) names.1 in
    let named : names_of typed.0.0.columns ≡ names.0 = are.names ∙ sym apart.1 in
    let count = sym (length-names typed.0.0.columns) ∙ ap length are.names ∙ length-pairs formed.0 in
    let each = are.each in
    rw (← same) (record {
      columns = record { some = rw count few.0; few = rw count few.1; named = named-from typed.0.0.columns names.0 apart.0 named };
      each = count ∙ (let back : length formed.0 ≡ length typed.0.0.exprs = omega arith in back);
      within = AllPass-from_list_all (fits (length header.columns)) typed.0.0.exprs are.within;
    })
  where
    and-first : (a b : Bool) → (a && b) ≡ true → a ≡ true
    and-first true b h = refl
    and-first false b h = h

sums-names : (view : Option Data) (pairs : List WrittenPair) → sum_pairs_at view ≡ Ok pairs → list_all has_pair_name pairs ≡ true
unfolding has_pair_name
sums-names None pairs e = let same : [] ≡ pairs = cc in rw (← same) refl
sums-names (Some value) pairs e =
    let written = gone_on (pairs_written key.Sum value) _ pairs e in
    let test = checked-ok (are_exprs written.0) (fault.Key key.Sum) written.0 pairs written.2 in
    rw (← test.1) (pairs_written-names key.Sum value written.0 written.1)

group-names : (value : Data) (pairs : List WrittenPair) → group_written value ≡ Ok pairs → list_all has_pair_name pairs ≡ true
unfolding has_pair_name
group-names value pairs e =
    let written = gone_on (pairs_written key.Group value) _ pairs e in
    let test = checked-ok (are_references written.0) (fault.Key key.Group) written.0 pairs written.2 in
    rw (← test.1) (pairs_written-names key.Group value written.0 written.1)

count-name : (view : Data) (name : List ℕ) → count_written view ≡ Ok name → is_name name ≡ true
count-name view name e = form_from _ name (some_from_ok _ (fault.Key key.Count) name e)

all-below : (width : ℕ) (places : List ℕ) → list_all (λ place. nat_lt place width) places ≡ true → All (λ place. place < width) places
all-below width places h k d l = ltb-true _ width (AllPass-from_list_all (λ place. nat_lt place width) places h k d l)

-- the columns by which a summary groups
record AreGroups (header : HeaderOf) (groups : Groups) : Type 0 where
  pub apart : AreApart groups.names
  pub named : names_of groups.found.columns ≡ groups.names
  pub each : length groups.found.columns ≡ length groups.found.places
  pub within : All (λ place. place < length header.columns) groups.found.places

are-groups : (header : HeaderOf) (value : Data) (groups : Groups) → groups_of header value ≡ Ok groups → AreGroups header groups
are-groups header value groups e =
    let pairs = gone_on (group_written value) _ groups e in
    let seen = gone_on (known_pairs header.columns [] pairs.0) _ groups pairs.2 in
    let found = gone_on (grouped header (group_columns [] []) pairs.0) _ groups seen.2 in
    let same : record { names = seen.0; found = found.0 } ≡ groups = same_Ok (Ok (record { names = seen.0; found = found.0 })) (record { names = seen.0; found = found.0 }) groups refl found.2 in
    let are = are-grouped header (group_columns [] []) pairs.0 found.0 refl found.1 in
    let apart = known-apart header.columns [] pairs.0 seen.0 apart-none (group-names value pairs.0 pairs.1) seen.1 in
    let each = are.each in
    let back : length pairs.0 ≡ length found.0.places = omega arith in
    rw (← same) (record {
      apart = apart.0;
      named = are.names ∙ sym apart.1;
      each = sym (length-names found.0.columns) ∙ ap length are.names ∙ length-pairs pairs.0 ∙ back;
      within = all-below (length header.columns) found.0.places are.within;
    })

-- the columns of a summary, its sums last
record AreSums (header : HeaderOf) (before : List NamedKind) (typed : TypedColumns) : Type 0 where
  pub named : AreNamed typed.columns
  pub each : length typed.columns ≡ length before + length typed.exprs
  pub within : All (λ e. IsTrue (fits (length header.columns) e)) typed.exprs

are-sums : (header : HeaderOf) (seen : Seen) (before : List NamedKind) (view : Data) (texts : Texts) (typed : TypedColumns) (after : Texts) → AreApart seen → names_of before ≡ seen
    → sum_columns header seen before view texts ≡ Ok (typed, after) → AreSums header before typed
are-sums header seen before view texts typed after own same e =
    let pairs = gone_on (sum_pairs_at (get (codes "sum") view)) _ (typed, after) e in
    let names = gone_on (known_pairs header.columns seen pairs.0) _ (typed, after) pairs.2 in
    let are = are-typed header Numbers (typed_columns before []) pairs.0 texts typed after refl names.2 in
    let apart = known-apart header.columns seen pairs.0 names.0 own (sums-names (get (codes "sum") view) pairs.0 pairs.1) names.1 in
    let each = are.each in
    let count : length pairs.0 ≡ length typed.exprs = omega arith in
    record {
      named = named-from typed.columns names.0 apart.0 (are.names ∙ ap (λ n. n ++ pair_names pairs.0) same ∙ sym apart.1);
      each = sym (length-names typed.columns) ∙ ap length are.names ∙ length-append (names_of before) (pair_names pairs.0)
          ∙ ap (λ n. n + length (pair_names pairs.0)) (length-names before) ∙ ap (λ n. length before + n) (length-pairs pairs.0 ∙ count);
      within = AllPass-from_list_all (fits (length header.columns)) typed.exprs are.within;
    }

-- a summary of these groups and sums
summary : (header : HeaderOf) (groups : Groups) (name : List ℕ) (names : Seen) (view : Data) (texts : Texts) (sums : TypedColumns) (after : Texts) (columns : List NamedKind)
    → AreGroups header groups → is_name name ≡ true → fresh_name groups.names name ≡ Ok names → sum_columns header names (groups.found.columns ++ count_column name ∷ []) view texts ≡ Ok (sums, after)
    → nat_le (length sums.columns) 64 ≡ true → sums.columns ≡ columns → IsOutput header (record { columns = columns; output = Sums groups.found.places sums.exprs })
summary header groups name names view texts sums after columns are formed fresh read few same =
    let counted = apart-next groups.names name names are.apart formed fresh in
    let before = groups.found.columns ++ count_column name ∷ [] in
    let so-far : names_of before ≡ names = names-more groups.found.columns (count_column name ∷ []) ∙ ap (λ n. n ++ name ∷ []) are.named ∙ sym counted.1 in
    let more = are-sums header names before view texts sums after counted.0 so-far read in
    let one = length-append groups.found.columns (count_column name ∷ []) in
    let first = are.each in
    let last = more.each in
    rw (← same) (record {
      columns = record { some = omega arith; few = leb-true (length sums.columns) 64 few; named = more.named };
      each = omega arith;
      within = (are.within, more.within);
    })

summed-output : (header : HeaderOf) (view value : Data) (texts : Texts) (own : ColumnsOf) (after : Texts) → summary_columns header view value texts ≡ Ok (own, after) → IsOutput header own
summed-output header view value texts own after e =
    let groups = gone_on (groups_of header value) _ (own, after) e in
    let count = gone_on (count_written view) _ (own, after) groups.2 in
    let names = gone_on (fresh_name groups.0.names count.0) _ (own, after) count.2 in
    let sums = gone_on (sum_columns header names.0 (groups.0.found.columns ++ count_column count.0 ∷ []) view texts) _ (own, after) names.2 in
    let columns = gone_on (checked (nat_le (length sums.0.0.columns) 64) (fault.Key key.Group) sums.0.0.columns) _ (own, after) sums.2 in
    let test = checked-ok (nat_le (length sums.0.0.columns) 64) (fault.Key key.Group) sums.0.0.columns columns.0 columns.1 in
    along own (first-of {A = ColumnsOf} {B = Texts} (record { columns = columns.0; output = Sums groups.0.found.places sums.0.0.exprs }, sums.0.1) own after _ refl columns.2)
    (summary header groups.0 count.0 names.0 view texts sums.0.0 sums.0.1 columns.0 (are-groups header value groups.0 groups.1) (count-name view count.0 count.1) names.1 sums.1 test.0 test.1)
  where
    along : (other : ColumnsOf) {found : ColumnsOf} → found ≡ other → IsOutput header found → IsOutput header other
    along other same is = subst (IsOutput header) same is

pub output-within : (header : HeaderOf) (view : Data) (texts : Texts) (own : ColumnsOf) (after : Texts) → output_of header view texts ≡ Ok (own, after) → IsOutput header own
output-within header view texts own after = at (get (codes "keep") view) (get (codes "group") view)
  where
    at : (keep group : Option Data) → output_at header view keep group texts ≡ Ok (own, after) → IsOutput header own
    at None None e = cc e
    at None (Some group) e = summed-output header view group texts own after e
    at (Some keep) None e = kept-output header keep texts own after e
    at (Some keep) (Some group) e = let columns = gone_on (joined_columns header keep texts) _ (own, after) e in cc
