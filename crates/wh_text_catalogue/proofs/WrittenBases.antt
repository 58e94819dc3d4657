-- Base views that are written are read as what they are, and those that are read are what was written.
use Rattle.std.proofs.Common.{◌≡◌, ℕ, ◌+◌, ◌<◌, ◌≤◌, ◌&&◌, Bool, true, false, List, [], ◌∷◌, ◌++◌, length, get_or, drop, Option, Some, None, ok_or, option_map, Ok, ◌⊎◌, inl, inr, refl, ap, sym, ◌∙◌, arith, append_assoc}
use Rattle.std.specs.Prelude.{codes, if◌then◌else◌, nat_le, option_and_then}
use Rattle.std.specs.List.{AllPairs, after_first, before_first, list_all, position_or_len}
use Rattle.std.specs.Str.{bytes_eq}
use Rattle.std.proofs.lemmas.Bool.{and_parts, both_ways, cases_lt, eqb-true, false_from_ne_true}
use Rattle.std.proofs.lemmas.List.{append-nil, drop_all}
use Rattle.std.proofs.lemmas.List.Sums.{list_all-from_AllPass, passes_at_first, split_at_first}
use Rattle.std.proofs.lemmas.Slice.Eq.{bytes_eq-Decides}
use Rattle.toml.specs.View.{items_of}
use Rattle.toml.specs.Data.{Data, string, array, as_str, get}
use Rattle.wh_text.specs.Columns.{AreNamed, NamedKind, names_of}
use Rattle.wh_text.specs.NameForm.{begins_name, continues_name, is_name}
use Rattle.wh_text.specs.declared.columns.Kind.{Kind}
use Rattle.wh_text.specs.declared.columns.Kind.TheVariants.{Int, Text}
use Rattle.wh_text.specs.declared.fault.Key.TheVariants as key
use Rattle.wh_text.specs.declared.fault.LoadFault.TheVariants as fault
use Rattle.wh_text_catalogue.specs.BaseColumns.{base_columns, column_in, columns_in, columns_written, is_few, kind_named, kinded_column}
use Rattle.wh_text_catalogue.specs.Catalogue.{array_of}
use Rattle.wh_text_catalogue.specs.ColumnNames.{Seen, fresh_columns}
use Rattle.wh_text_catalogue.specs.Definitions.{ViewOf, base_view}
use Rattle.wh_text_catalogue.specs.FormulaKinds.{Texts}
use Rattle.wh_text_catalogue.specs.WrittenCatalogue.{AreColumnsWritten, BasesReadBack, IsColumnText, IsWholeBase, ReadBasesAreWritten}
use Rattle.wh_text_catalogue.proofs.CatalogueNames.{gone_on, some_from_ok}
use Rattle.wh_text_catalogue.proofs.ColumnsNamed.{base-columns, then-some}
use Rattle.wh_text_catalogue.proofs.FormulasFit.{checked-ok}
use Rattle.wh_text_catalogue.proofs.WrittenExprs.{both-same}
use Rattle.wh_text_catalogue.proofs.WrittenForms.{IsMark, after-mark, before-mark, elements-items, is_mark}
use Rattle.wh_text_catalogue.proofs.WrittenJoins.{array-only}
use Rattle.wh_text_catalogue.proofs.WrittenOutputs.{few-made}
use Rattle.wh_text_catalogue.proofs.WrittenPairs.{Differ, fresh-made}

-- Texts with a colon.

no-colon : IsMark 58
no-colon = record { begins = refl; continues = refl }

colon-later : (front more : List ℕ) → list_all continues_name (front ++ 58 ∷ more) ≡ false
colon-later [] more = refl
colon-later (byte ∷ front) more = either (continues_name byte) (list_all continues_name (front ++ 58 ∷ more)) (colon-later front more)
  where
    either : (a b : Bool) → b ≡ false → (a && b) ≡ false
    either true b h = h
    either false b h = refl

-- a text with a colon is no name
no-name : (front more : List ℕ) → is_name (front ++ 58 ∷ more) ≡ false
unfolding is_name
no-name [] more = refl
no-name (byte ∷ front) more =
    false_from_ne_true _
    (λ h.
    let both = (and_parts (begins_name byte && list_all continues_name (front ++ 58 ∷ more)) (nat_le (length (byte ∷ front ++ 58 ∷ more)) 64) h).0 in
    let later = (and_parts (begins_name byte) (list_all continues_name (front ++ 58 ∷ more)) both).1 in
    both_ways (list_all continues_name (front ++ 58 ∷ more)) (colon-later front more) later)

-- Writing, then reading.

kinded-read : (name word : List ℕ) (kind : Kind) → is_name name ≡ true → kind_named word ≡ Some kind → column_in (name ++ 58 ∷ word) ≡ Some (record { name = name; kind = kind })
kinded-read name word kind formed named =
    rw (no-name name word, before-mark 58 no-colon name word formed, after-mark 58 no-colon name word formed, formed, named) refl

column-read : (name : List ℕ) (kind : Kind) (text : List ℕ) → is_name name ≡ true → IsColumnText name kind text → column_in text ≡ Some (record { name = name; kind = kind })
column-read name Int text formed (inl plain) = ap column_in plain ∙ rw formed refl
column-read name Int text formed (inr marked) = ap column_in marked ∙ kinded-read name (codes "int") Int formed refl
column-read name Text text formed marked = ap column_in marked ∙ kinded-read name (codes "text") Text formed refl

columns-read : (found columns : List NamedKind) (values : List Data) → list_all is_name (names_of columns) ≡ true → AreColumnsWritten columns values → columns_in found values ≡ Some (found ++ columns)
columns-read found [] [] formed w = ap Some (sym (append-nil found))
columns-read found [] (value ∷ values) formed w = absurd w
columns-read found (column ∷ columns) [] formed w = absurd w
columns-read found (column ∷ columns) (value ∷ values) formed w =
    let parts = and_parts (is_name column.name) (list_all is_name (names_of columns)) formed in
    let own = column-read column.name column.kind w.0.0 parts.0 w.0.2 in
    ap (λ v. columns_in found (v ∷ values)) w.0.1 ∙ rw own (columns-read (found ++ column ∷ []) columns values parts.1 w.1 ∙ ap Some (append_assoc found (column ∷ []) columns))

names-fresh : (seen : Seen) (columns : List NamedKind) → AllPairs Differ (seen ++ names_of columns) → fresh_columns seen columns ≡ Ok (seen ++ names_of columns)
names-fresh seen [] apart = ap Ok (sym (append-nil seen))
names-fresh seen (column ∷ columns) apart =
    let later : AllPairs Differ ((seen ++ column.name ∷ []) ++ names_of columns) = rw (append_assoc seen (column.name ∷ []) (names_of columns)) apart in
    rw (fresh-made seen column.name (names_of columns) apart) (names-fresh (seen ++ column.name ∷ []) columns later ∙ ap Ok (append_assoc seen (column.name ∷ []) (names_of columns)))

base-read : (entry : Data) (columns : List NamedKind) (values : List Data) (texts : Texts) → get (codes "columns") entry ≡ Some (array (items_of values)) → AreColumnsWritten columns values
    → 1 ≤ length columns → length columns ≤ 64 → AreNamed columns → base_view entry texts ≡ Ok (record { columns = columns; definition = None }, texts)
base-read entry columns values texts at w some few named =
    let read = columns-read [] columns values (list_all-from_AllPass is_name (names_of columns) named.formed) w in
    rw (at, elements-items values, read, few-made (length columns) some few, names-fresh [] columns named.distinct) refl

pub bases-read-back : BasesReadBack
bases-read-back entry texts own after is =
    base-read entry own.columns is.values texts is.at is.written is.some is.few is.named
    ∙ ap (λ t. Ok (record { columns = own.columns; definition = None }, t)) (sym is.numbered)
    ∙ ap (λ d. Ok (record { columns = own.columns; definition = d }, after)) (sym is.base)

-- Reading, then what was written.

-- the word of a kind
abbrev word_of : Kind → List ℕ
word_of Int = codes "int"
word_of Text = codes "text"

kind-word : (word : List ℕ) (kind : Kind) → kind_named word ≡ Some kind → word ≡ word_of kind
kind-word word kind = int (bytes_eq word (codes "int")) refl
  where
    text : (b : Bool) → bytes_eq word (codes "text") ≡ b → (if b then Some Text else None) ≡ Some kind → word ≡ word_of kind
    text true is e = let same : Text ≡ kind = cc in rw (← same) ((bytes_eq-Decides word (codes "text")).0 is)
    text false is e = cc e

    int : (b : Bool) → bytes_eq word (codes "int") ≡ b → (if b then Some Int else (if bytes_eq word (codes "text") then Some Text else None)) ≡ Some kind → word ≡ word_of kind
    int true is e = let same : Int ≡ kind = cc in rw (← same) ((bytes_eq-Decides word (codes "int")).0 is)
    int false is e = text (bytes_eq word (codes "text")) refl e

-- where something stands after the first colon there is one
colon-stands : (text word : List ℕ) → 1 ≤ length word → after_first (is_mark 58) text ≡ word → text ≡ before_first (is_mark 58) text ++ 58 ∷ word
colon-stands text word some is = by (cases_lt (position_or_len (is_mark 58) text) (length text))
  where
    by : (position_or_len (is_mark 58) text < length text) ⊎ (length text ≤ position_or_len (is_mark 58) text) → text ≡ before_first (is_mark 58) text ++ 58 ∷ word
    by (inl within) =
        let mark : get_or text (position_or_len (is_mark 58) text) 0 ≡ 58 = eqb-true (get_or text (position_or_len (is_mark 58) text) 0) 58 (passes_at_first (is_mark 58) text 0 within) in
        split_at_first (is_mark 58) text 0 within
        ∙ ap (λ m. before_first (is_mark 58) text ++ m ∷ after_first (is_mark 58) text) mark
        ∙ ap (λ w. before_first (is_mark 58) text ++ 58 ∷ w) is
    by (inr past) =
        let none : drop (position_or_len (is_mark 58) text + 1) text ≡ [] = drop_all (position_or_len (is_mark 58) text + 1) text (omega arith) in
        let empty : [] ≡ word = sym none ∙ is in
        let count : 0 ≡ length word = ap length empty in
        absurd (omega arith)

marked : (name word : List ℕ) (kind : Kind) (text : List ℕ) → word ≡ word_of kind → text ≡ name ++ 58 ∷ word → IsColumnText name kind text
marked name word Int text is parts = inr (parts ∙ ap (λ w. name ++ 58 ∷ w) is)
marked name word Text text is parts = parts ∙ ap (λ w. name ++ 58 ∷ w) is

word-some : (kind : Kind) → 1 ≤ length (word_of kind)
word-some Int = omega arith
word-some Text = omega arith

kinded-only : (text : List ℕ) (column : NamedKind) → kinded_column (before_first (is_mark 58) text) (after_first (is_mark 58) text) ≡ Some column → IsColumnText column.name column.kind text
kinded-only text column = by (is_name (before_first (is_mark 58) text)) (kind_named (after_first (is_mark 58) text)) refl
  where
    by : (formed : Bool) (kind : Option Kind) → kind_named (after_first (is_mark 58) text) ≡ kind
        → (if formed then option_map (λ k. record { name = before_first (is_mark 58) text; kind = k }) kind else None) ≡ Some column → IsColumnText column.name column.kind text
    by false kind is e = cc e
    by true None is e = cc e
    by true (Some kind) is e =
        let same : record { name = before_first (is_mark 58) text; kind = kind } ≡ column = cc in
        let word = kind-word (after_first (is_mark 58) text) kind is in
        rw (← same) (marked (before_first (is_mark 58) text) (word_of kind) kind text refl (colon-stands text (word_of kind) (word-some kind) word))

column-only : (text : List ℕ) (column : NamedKind) → column_in text ≡ Some column → IsColumnText column.name column.kind text
column-only text column = by (is_name text)
  where
    by : (formed : Bool) → (if formed then Some (record { name = text; kind = Int }) else kinded_column (before_first (is_mark 58) text) (after_first (is_mark 58) text)) ≡ Some column
        → IsColumnText column.name column.kind text
    by true e = let same : record { name = text; kind = Int } ≡ column = cc in rw (← same) (inl refl)
    by false e = kinded-only text column e

str-only : (value : Data) (text : List ℕ) → as_str value ≡ Some text → value ≡ string text
str-only (string own) text e = let same : own ≡ text = cc in ap string same
str-only _ text e = cc e

columns-only : (found : List NamedKind) (values : List Data) (columns : List NamedKind) → columns_in found values ≡ Some columns → (more : List NamedKind) × (columns ≡ found ++ more) × AreColumnsWritten more values
columns-only found [] columns e = let same : found ≡ columns = cc in ([], sym same ∙ sym (append-nil found), tt)
columns-only found (value ∷ values) columns e =
    let column = then-some (λ column. columns_in (found ++ column ∷ []) values) (option_and_then column_in (as_str value)) columns e in
    let text = then-some column_in (as_str value) column.0 column.1 in
    let rest = columns-only (found ++ column.0 ∷ []) values columns column.2 in
    (column.0 ∷ rest.0, rest.1 ∙ append_assoc found (column.0 ∷ []) rest.0, ((text.0, str-only value text.0 text.1, column-only text.0 column.0 text.2), rest.2))

-- the columns that stand at the key
record AreAtKey (entry : Data) (columns : List NamedKind) : Type 0 where
  pub values : List Data
  pub at : get (codes "columns") entry ≡ Some (array (items_of values))
  pub written : AreColumnsWritten columns values

at-key : (entry : Data) (columns : List NamedKind) → base_columns entry ≡ Ok columns → AreAtKey entry columns
at-key entry columns e =
    let value = gone_on (ok_or (get (codes "columns") entry) (fault.Key key.Columns)) _ columns e in
    let written = gone_on (columns_written value.0) _ columns value.2 in
    let names = gone_on (fresh_columns [] written.0) _ columns written.2 in
    let found = gone_on (ok_or (option_and_then (columns_in []) (array_of value.0)) (fault.Key key.Columns)) _ written.0 written.1 in
    let few = checked-ok (is_few (length found.0)) (fault.Key key.Columns) found.0 written.0 found.2 in
    let values = then-some (columns_in []) (array_of value.0) found.0 (some_from_ok (option_and_then (columns_in []) (array_of value.0)) (fault.Key key.Columns) found.0 found.1) in
    let are = columns-only [] values.0 found.0 values.2 in
    let last : written.0 ≡ columns = cc in
    let same : are.0 ≡ columns = sym are.1 ∙ few.1 ∙ last in
    let at = some_from_ok (get (codes "columns") entry) (fault.Key key.Columns) value.0 value.1 in
    made columns values.0 are.0 value.0 same at (array-only value.0 values.0 values.1) are.2
  where
    made : (columns : List NamedKind) (values : List Data) (own : List NamedKind) (value : Data) → own ≡ columns → get (codes "columns") entry ≡ Some value → value ≡ array (items_of values)
        → AreColumnsWritten own values → AreAtKey entry columns
    made columns values own value same at is written = record { values = values; at = at ∙ ap Some is; written = rw (← same) written }

base-of-same : (entry : Data) (texts : Texts) (made own : ViewOf) (so_far after : Texts) → (made ≡ own) × (so_far ≡ after) → IsWholeBase entry texts made so_far → IsWholeBase entry texts own after
base-of-same entry texts made own so_far after same is = rw (← same.0, ← same.1) is

pub read-bases-are-written : ReadBasesAreWritten
read-bases-are-written entry texts own after e =
    let columns = gone_on (base_columns entry) _ (own, after) e in
    let same = both-same {A = ViewOf} (record { columns = columns.0; definition = None }, texts) own after _ refl columns.2 in
    let are = base-columns entry columns.0 columns.1 in
    let at = at-key entry columns.0 columns.1 in
    base-of-same entry texts (record { columns = columns.0; definition = None }) own texts after same (record {
      base = refl;
      values = at.values;
      at = at.at;
      written = at.written;
      some = are.some;
      few = are.few;
      named = are.named;
      numbered = refl;
    })
