-- The columns of a view that is read have names of the form of names, none of them twice.
use Rattle.std.proofs.Common.{◌≡◌, ◌≢◌, ℕ, suc, zero, ◌<◌, ◌≤◌, ◌||◌, ◌==◌, Bool, true, false, List, [], ◌∷◌, ◌++◌, length, map, get_or, Option, Some, None, ok_or, Ok, Err, refl, ap, sym, ◌∙◌, arith, append_assoc}
use Rattle.std.specs.Prelude.{codes, if◌then◌else◌, nat_le, option_and_then, option_map}
use Rattle.std.specs.List.{AllPairs, after_first, before_first, list_all, list_any}
use Rattle.std.specs.Str.{bytes_eq}
use Rattle.std.proofs.lemmas.Bool.{and_parts, both_ways, leb-true}
use Rattle.std.proofs.lemmas.List.{append-nil}
use Rattle.std.proofs.lemmas.List.Folds.{list_all-append}
use Rattle.std.proofs.lemmas.List.Quantifiers.{all_pairs_push}
use Rattle.std.proofs.lemmas.List.Sums.{AllPass-from_list_all}
use Rattle.std.proofs.lemmas.Slice.Eq.{bytes_eq-Decides}
use Rattle.toml.specs.Data.{Data, as_str, get, string}
use Rattle.wh_text.specs.Columns.{AreNamed, NamedKind, names_of}
use Rattle.wh_text.specs.NameForm.{is_name}
use Rattle.wh_text.specs.declared.columns.Kind.{Kind}
use Rattle.wh_text.specs.declared.columns.Kind.TheVariants.{Int}
use Rattle.wh_text.specs.declared.fault.Key.{Key}
use Rattle.wh_text.specs.declared.fault.Key.TheVariants as key
use Rattle.wh_text.specs.declared.fault.LoadFault.TheVariants as fault
use Rattle.wh_text_catalogue.specs.BaseColumns.{base_columns, colon, column_in, columns_in, columns_written, is_few, kind_named, kinded_column}
use Rattle.wh_text_catalogue.specs.Catalogue.{array_of}
use Rattle.wh_text_catalogue.specs.ColumnNames.{Seen, fresh_columns, fresh_name, unless_unknown}
use Rattle.wh_text_catalogue.specs.Pairs.{WrittenPair, known_pairs, named_pair, pair_of, pairs_in, pairs_written}
use Rattle.wh_text_catalogue.specs.Formula.{unknown_column}
use Rattle.wh_text_catalogue.proofs.CatalogueNames.{gone_on, some_from_ok}
use Rattle.wh_text_catalogue.proofs.ShapesRead.{same_Ok}
use Rattle.wh_text_catalogue.proofs.FormulasFit.{checked-ok, unless-ok}

-- Names, one after another.

-- the names have the form of names, and none of them stands twice
pub record AreApart (names : Seen) : Type 0 where
  pub formed : list_all is_name names ≡ true
  pub distinct : AllPairs (λ first second. first ≢ second) names

pub apart-none : AreApart []
apart-none = record { formed = refl; distinct = λ i j d l m. absurd (omega arith) }

either-false : (a b : Bool) → (a || b) ≡ false → (a ≡ false) × (b ≡ false)
either-false true b e = cc e
either-false false b e = (refl, e)

not-among : (names : Seen) (name : List ℕ) → list_any (bytes_eq name) names ≡ false → (k : ℕ) (d : List ℕ) → k < length names → get_or names k d ≢ name
not-among [] name e k d l = absurd (omega arith)
not-among (n ∷ names) name e zero d l =
    λ same. both_ways (bytes_eq name n) (either-false (bytes_eq name n) (list_any (bytes_eq name) names) e).0 ((bytes_eq-Decides name n).1 (sym same))
not-among (n ∷ names) name e (suc k) d l = not-among names name (either-false (bytes_eq name n) (list_any (bytes_eq name) names) e).1 k d (omega arith)

-- one name more
pub apart-next : (seen : Seen) (name : List ℕ) (names : Seen) → AreApart seen → is_name name ≡ true → fresh_name seen name ≡ Ok names → AreApart names × (names ≡ seen ++ name ∷ [])
apart-next seen name names apart formed = by (list_any (bytes_eq name) seen) refl
  where
    by : (again : Bool) → list_any (bytes_eq name) seen ≡ again → (if again then Err (fault.Column name) else Ok (seen ++ name ∷ [])) ≡ Ok names → AreApart names × (names ≡ seen ++ name ∷ [])
    by true is e = cc e
    by false is e =
        let same : seen ++ name ∷ [] ≡ names = cc in (
          rw (← same) (record {
            formed = rw (list_all-append is_name seen (name ∷ []), apart.formed, formed) refl;
            distinct = all_pairs_push (λ first second. first ≢ second) seen name apart.distinct (not-among seen name is);
          }),
          sym same,
        )

pub named-from : (columns : List NamedKind) (names : Seen) → AreApart names → names_of columns ≡ names → AreNamed columns
named-from columns names apart same = record {
  formed = rw same (AllPass-from_list_all is_name names apart.formed);
  distinct = rw same apart.distinct;
}

-- Base views.

has-name : NamedKind → Bool
has-name column = is_name column.name

fresh-apart : (seen : Seen) (columns : List NamedKind) (names : Seen) → AreApart seen → list_all has-name columns ≡ true → fresh_columns seen columns ≡ Ok names → AreApart names × (names ≡ seen ++ names_of columns)
unfolding has-name
fresh-apart seen [] names apart formed e = let same : seen ≡ names = cc in (rw (← same) apart, sym same ∙ sym (append-nil seen))
fresh-apart seen (column ∷ rest) names apart formed e =
    let parts = and_parts (is_name column.name) (list_all has-name rest) formed in
    let first = gone_on (fresh_name seen column.name) _ names e in
    let own = apart-next seen column.name first.0 apart parts.0 first.1 in
    let more = fresh-apart first.0 rest names own.0 parts.1 first.2 in
    (more.0, more.1 ∙ ap (λ n. n ++ names_of rest) own.1 ∙ append_assoc seen (column.name ∷ []) (names_of rest))

kinded-name : (name word : List ℕ) (column : NamedKind) → kinded_column name word ≡ Some column → is_name column.name ≡ true
kinded-name name word column = by (is_name name) refl (kind_named word)
  where
    by : (formed : Bool) → is_name name ≡ formed → (kind : Option Kind) → (if formed then option_map (λ k. record { name = name; kind = k }) kind else None) ≡ Some column → is_name column.name ≡ true
    by false is kind e = cc e
    by true is None e = cc e
    by true is (Some kind) e = let same : record { name = name; kind = kind } ≡ column = cc in rw (← same) is

column_in-name : (text : List ℕ) (column : NamedKind) → column_in text ≡ Some column → is_name column.name ≡ true
column_in-name text column = by (is_name text) refl
  where
    by : (formed : Bool) → is_name text ≡ formed
        → (if formed then Some (record { name = text; kind = Int }) else kinded_column (before_first (λ byte. byte == colon) text) (after_first (λ byte. byte == colon) text)) ≡ Some column → is_name column.name ≡ true
    by true is e = let same : record { name = text; kind = Int } ≡ column = cc in rw (← same) is
    by false is e = kinded-name (before_first (λ byte. byte == colon) text) (after_first (λ byte. byte == colon) text) column e

pub then-some : {A B : Type 0} (f : A → Option B) (o : Option A) (y : B) → option_and_then f o ≡ Some y → (x : A) × (o ≡ Some x) × (f x ≡ Some y)
then-some f None y e = cc e
then-some f (Some x) y e = (x, refl, e)

columns_in-names : (found : List NamedKind) (values : List Data) (columns : List NamedKind) → list_all has-name found ≡ true → columns_in found values ≡ Some columns → list_all has-name columns ≡ true
unfolding has-name
columns_in-names found [] columns formed e = let same : found ≡ columns = cc in rw (← same) formed
columns_in-names found (value ∷ rest) columns formed e =
    let column = then-some (λ column. columns_in (found ++ column ∷ []) rest) (option_and_then column_in (as_str value)) columns e in
    let text = then-some column_in (as_str value) column.0 column.1 in
    columns_in-names (found ++ column.0 ∷ []) rest columns (rw (list_all-append has-name found (column.0 ∷ []), formed, column_in-name text.0 column.0 text.2) refl) column.2

-- 1 to 64 columns, which are named
pub record AreColumns (columns : List NamedKind) : Type 0 where
  pub some : 1 ≤ length columns
  pub few : length columns ≤ 64
  pub named : AreNamed columns

pub few-both : (n : ℕ) → is_few n ≡ true → (1 ≤ n) × (n ≤ 64)
few-both n e = let parts = and_parts (nat_le 1 n) (nat_le n 64) e in (leb-true 1 n parts.0, leb-true n 64 parts.1)

pub base-columns : (view : Data) (columns : List NamedKind) → base_columns view ≡ Ok columns → AreColumns columns
unfolding has-name
base-columns view columns e =
    let value = gone_on (ok_or (get (codes "columns") view) (fault.Key key.Columns)) _ columns e in
    let written = gone_on (columns_written value.0) _ columns value.2 in
    let names = gone_on (fresh_columns [] written.0) _ columns written.2 in
    let found = gone_on (ok_or (option_and_then (columns_in []) (array_of value.0)) (fault.Key key.Columns)) _ written.0 written.1 in
    let some = checked-ok (is_few (length found.0)) (fault.Key key.Columns) found.0 written.0 found.2 in
    let values = then-some (columns_in []) (array_of value.0) found.0 (some_from_ok (option_and_then (columns_in []) (array_of value.0)) (fault.Key key.Columns) found.0 found.1) in
    let formed = columns_in-names [] values.0 found.0 refl values.2 in
    let same : written.0 ≡ columns = same_Ok (Ok written.0) written.0 columns refl names.2 in
    let whole : found.0 ≡ columns = some.1 ∙ same in
    let count = few-both (length found.0) some.0 in
    let apart = fresh-apart [] written.0 names.0 apart-none (rw (← some.1) formed) names.1 in
    rw (← whole) (record {
      some = count.0;
      few = count.1;
      named = named-from found.0 names.0 apart.0 (ap names_of some.1 ∙ sym apart.1);
    })

-- Pairs.

unfoldable pub has_pair_name : WrittenPair → Bool
has_pair_name pair = is_name pair.name

-- the names of pairs
abbrev pub pair_names : List WrittenPair → Seen
pair_names pairs = map (λ pair. pair.name) pairs

pub known-apart : (columns : List NamedKind) (seen : Seen) (pairs : List WrittenPair) (names : Seen) → AreApart seen → list_all has_pair_name pairs ≡ true → known_pairs columns seen pairs ≡ Ok names
    → AreApart names × (names ≡ seen ++ pair_names pairs)
unfolding has_pair_name
known-apart columns seen [] names apart formed e = let same : seen ≡ names = cc in (rw (← same) apart, sym same ∙ sym (append-nil seen))
known-apart columns seen (pair ∷ rest) names apart formed e =
    let parts = and_parts (is_name pair.name) (list_all has_pair_name rest) formed in
    let first = gone_on (fresh_name seen pair.name) _ names e in
    let known = gone_on (unless_unknown (unknown_column columns pair.value) first.0) _ names first.2 in
    let kept = unless-ok (unknown_column columns pair.value) first.0 known.0 known.1 in
    let own = apart-next seen pair.name first.0 apart parts.0 first.1 in
    let more = known-apart columns known.0 rest names (rw (← kept) own.0) parts.1 known.2 in
    (more.0, more.1 ∙ ap (λ n. n ++ pair_names rest) (sym kept ∙ own.1) ∙ append_assoc seen (pair.name ∷ []) (pair_names rest))

named_pair-name : (name : List ℕ) (value : Data) (pair : WrittenPair) → named_pair name value ≡ Some pair → is_name pair.name ≡ true
named_pair-name name value pair = by (is_name name) refl
  where
    by : (formed : Bool) → is_name name ≡ formed → (if formed then Some (record { name = name; value = value }) else None) ≡ Some pair → is_name pair.name ≡ true
    by true is e = let same : record { name = name; value = value } ≡ pair = cc in rw (← same) is
    by false is e = cc e

pair_of-name : (parts : List Data) (pair : WrittenPair) → pair_of parts ≡ Some pair → is_name pair.name ≡ true
pair_of-name (string name ∷ value ∷ []) pair e = named_pair-name name value pair e
pair_of-name _ pair e = cc e

pairs_in-names : (found : List WrittenPair) (values : List Data) (pairs : List WrittenPair) → list_all has_pair_name found ≡ true → pairs_in found values ≡ Some pairs → list_all has_pair_name pairs ≡ true
unfolding has_pair_name
pairs_in-names found [] pairs formed e = let same : found ≡ pairs = cc in rw (← same) formed
pairs_in-names found (value ∷ rest) pairs formed e =
    let pair = then-some (λ pair. pairs_in (found ++ pair ∷ []) rest) (option_and_then pair_of (array_of value)) pairs e in
    let parts = then-some pair_of (array_of value) pair.0 pair.1 in
    pairs_in-names (found ++ pair.0 ∷ []) rest pairs (rw (list_all-append has_pair_name found (pair.0 ∷ []), formed, pair_of-name parts.0 pair.0 parts.2) refl) pair.2

pub pairs_written-names : (key : Key) (value : Data) (pairs : List WrittenPair) → pairs_written key value ≡ Ok pairs → list_all has_pair_name pairs ≡ true
unfolding has_pair_name
pairs_written-names key value pairs e =
    let values = then-some (pairs_in []) (array_of value) pairs (some_from_ok _ (fault.Key key) pairs e) in
    pairs_in-names [] values.0 pairs refl values.2
