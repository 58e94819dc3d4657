-- Parts of rows that were read in pieces.
use Rattle.std.proofs.Common.{◌≡◌, ◌∙◌, ◌<◌, ◌+◌, ◌-◌, ℕ, ℤ, zero, suc, pos, Bool, true, false, List, [], ◌∷◌, ◌++◌, length, take, get_or, Option, Some, None, Ok, Err, Result, ◌⊎◌, inl, inr, refl, sym, ap, subst, arith, append_assoc, slice_get, map}
use Rattle.std.specs.Prelude.{⊤, ◌&&◌, ◌==◌, if◌then◌else◌, IfSome, flat_map, ok_or, option_and_then, option_map}
use denote.Ref.{Bor}
use Rattle.std.specs.List.{AllZip, list_all, list_any}
use Rattle.std.specs.Str.{bytes_eq, is_utf8}
use Rattle.std.proofs.lemmas.Bool.{cases_Bool}
use Rattle.std.proofs.lemmas.List.{append-nil, length-map, length-take-le}
use Rattle.std.proofs.Math.Seq.{take-suc}
use Rattle.std.proofs.lemmas.List.Folds.{list_any-append}
use Rattle.std.proofs.lemmas.List.Concat.{flat_map-append}
use Rattle.std.proofs.lemmas.Slice.Eq.{bytes_eq-Decides}
use Rattle.std.proofs.lemmas.Slice.Zip.{all_zipped_more}
use Rattle.wh_row.specs.Bag.{Bag}
use Rattle.wh_row.specs.Records.{joined}
use Rattle.wh_row.specs.Row.{Row}
use Rattle.wh_row.specs.Weigh.{Counted}
use Rattle.wh_text.specs.Columns.{NamedKind, kinds_of}
use Rattle.wh_text.specs.Dict.{HasText, number_of_text, with_text, with_texts}
use Rattle.wh_text.specs.Inner.Dict.{BeginsWith}
use Rattle.wh_text.specs.declared.columns.Kind.{Kind}
use Rattle.wh_text.specs.declared.columns.Kind.TheVariants as of_kind
use Rattle.wh_text.specs.declared.fault.LoadFault.{LoadFault}
use Rattle.wh_text.specs.declared.fault.LoadFault.TheVariants.{Header, Number}
use Rattle.wh_text.specs.WholeNumber.{whole_number}
use Rattle.wh_text.specs.ValueOrFault.{◌>>=◌, or_fault}
use Rattle.wh_text.proofs.DictGrowth.{begins-text, begins-texts, has-text, number-begins, number-own, with_texts-append}
use Rattle.wh_text_tables.specs.Part.{Below, Scheme, below_header, part_gives, record_gives, records_give}
use Rattle.wh_text_tables.specs.Records.{form_fault, records_of}
use Rattle.wh_text_tables.specs.TableText.{EntriesRead, bag_read, cell_number, count_of, entry_of, row_cells, row_of, table_scheme, texts_after, texts_in_row, with_entry}
use Rattle.wh_text_tables.specs.Inner.TableText.{entered, entry_scheme}
use Rattle.wh_text_tables.specs.Inner.Pieces.{AreEntries, AreFormed, AreNumbers, AreWholeNumbers, IsBagOf, IsCellRenumbered, IsFormed, IsNumbered, IsPartRenumbered, IsPieceRead, IsReadAlone, IsRenumbered, IsRenumberedBy, all_texts, texts_in}
use Rattle.wh_text_tables.specs.declared.table.header.Content.{Content}
use Rattle.wh_text_tables.specs.declared.table.header.Counting.{Counting}
use Rattle.wh_text_tables.specs.declared.table.renumbered.Numbered.{Numbered}
use Rattle.wh_text_tables.specs.declared.table.rows.RowsRead.{RowsRead}
use Rattle.wh_text_tables.proofs.TableSums.{pass}
use Rattle.wh_text_tables.proofs.PartReads.{from_step, or_fault-ok, same_Ok, some-or}

-- ---- texts that are there

has-begins : (texts all : List (List ℕ)) (text : List ℕ) → BeginsWith texts all → HasText texts text → HasText all text
has-begins texts all text b has = rw (b.parts, list_any-append (bytes_eq text) texts b.more, has) refl

-- these texts are all there
unfoldable pub HaveTexts : List (List ℕ) → List (List ℕ) → Type 0
HaveTexts texts [] = ⊤
HaveTexts texts (own ∷ others) = HasText texts own × HaveTexts texts others

pub have-begins : (texts all own : List (List ℕ)) → BeginsWith texts all → HaveTexts texts own → HaveTexts all own
unfolding HaveTexts
have-begins texts all [] b have = tt
have-begins texts all (text ∷ own) b have = (has-begins texts all text b have.0, have-begins texts all own b have.1)

-- a dictionary has the texts that it got
pub have-own : (texts own : List (List ℕ)) → HaveTexts (with_texts texts own) own
unfolding HaveTexts with_texts
have-own texts [] = tt
have-own texts (text ∷ own) = (has-begins (with_text texts text) _ text (begins-texts (with_text texts text) own) (has-text texts text), have-own (with_text texts text) own)

pub have-front : (texts xs ys : List (List ℕ)) → HaveTexts texts (xs ++ ys) → HaveTexts texts xs
unfolding HaveTexts
have-front texts [] ys have = tt
have-front texts (x ∷ xs) ys have = (have.0, have-front texts xs ys have.1)

pub have-back : (texts xs ys : List (List ℕ)) → HaveTexts texts (xs ++ ys) → HaveTexts texts ys
unfolding HaveTexts
have-back texts [] ys have = have
have-back texts (x ∷ xs) ys have = have-back texts xs ys have.1

-- ---- a dictionary that gets texts by way of another

stays : (texts : List (List ℕ)) (text : List ℕ) → HasText texts text → with_text texts text ≡ texts
stays texts text has = rw has refl

goes-last : (texts : List (List ℕ)) (text : List ℕ) → list_any (bytes_eq text) texts ≡ false → with_text texts text ≡ texts ++ text ∷ []
goes-last texts text new = rw new refl

-- some text of a list, with what has it
has-of : (texts own : List (List ℕ)) (text : List ℕ) → HaveTexts texts own → HasText own text → HasText texts text
unfolding HaveTexts
has-of texts [] text have has = absurd (let bad : false ≡ true = has in cc)
has-of texts (x ∷ own) text have has = by (cases_Bool (bytes_eq text x)) (λ later. has-of texts own text have.1 later)
  where
    by : (bytes_eq text x ≡ true) ⊎ (bytes_eq text x ≡ false) → (HasText own text → HasText texts text) → HasText texts text
    by (inl same) more = subst (HasText texts) (sym ((bytes_eq-Decides text x).0 same)) have.0
    by (inr other) more = more (rw other at has)

with-step : (texts own : List (List ℕ)) (text : List ℕ) → with_texts texts (with_text own text) ≡ with_text (with_texts texts own) text
unfolding with_texts
with-step texts own text = by (cases_Bool (list_any (bytes_eq text) own))
  where
    by : (list_any (bytes_eq text) own ≡ true) ⊎ (list_any (bytes_eq text) own ≡ false) → with_texts texts (with_text own text) ≡ with_text (with_texts texts own) text
    by (inl has) = ap (with_texts texts) (stays own text has) ∙ sym (stays (with_texts texts own) text (has-of (with_texts texts own) own text (have-own texts own) has))
    by (inr new) = ap (with_texts texts) (goes-last own text new) ∙ with_texts-append texts own (text ∷ [])

pub with-through : (texts own more : List (List ℕ)) → with_texts texts (with_texts own more) ≡ with_texts (with_texts texts own) more
unfolding with_texts
with-through texts own [] = refl
with-through texts own (text ∷ more) = with-through texts (with_text own text) more ∙ ap (λ t. with_texts t more) (with-step texts own text)

-- ---- cells keep their numbers

row-begins : (texts all : List (List ℕ)) (kinds : List Kind) (cells : List (List ℕ)) → BeginsWith texts all → HaveTexts texts (texts_in_row kinds cells) → row_of all kinds cells ≡ row_of texts kinds cells
unfolding row_of texts_in_row HaveTexts
row-begins texts all [] cells b have = refl
row-begins texts all (kind ∷ kinds) [] b have = refl
row-begins texts all (of_kind.Int ∷ kinds) (cell ∷ cells) b have =
    ap (λ rest. option_and_then (λ number. option_map (λ row. number ∷ row) rest) (cell_number texts of_kind.Int cell)) (row-begins texts all kinds cells b have)
row-begins texts all (of_kind.Text ∷ kinds) (cell ∷ cells) b have =
    rw (number-begins texts all cell b have.0, row-begins texts all kinds cells b have.1) refl

pub entry-begins : (count : Counting) (texts all : List (List ℕ)) (kinds : List Kind) (cells : List (List ℕ)) → BeginsWith texts all → HaveTexts texts (texts_in_row kinds (row_cells count cells))
    → entry_of count all kinds cells ≡ entry_of count texts kinds cells
entry-begins count texts all kinds cells b have =
    ap (λ row. option_and_then (λ n. option_map (λ r. (r, n)) row) (count_of count cells)) (row-begins texts all kinds (row_cells count cells) b have)

-- ---- records that are read by themselves

formed-none : (width number : ℕ) (cells : List (List ℕ)) → IsFormed width cells → form_fault width number cells ≡ None
formed-none width number cells formed = rw formed refl

none-formed : {A : Type 0} (width number : ℕ) (cells : List (List ℕ)) (other : Result A LoadFault) (value : A) → or_fault (form_fault width number cells) other ≡ Ok value → IsFormed width cells
none-formed {A} width number cells other value e = by (list_all is_utf8 cells && (length cells == width)) e
  where
    by : (b : Bool) → or_fault (if b then None else Some (Rattle.wh_text.specs.declared.fault.LoadFault.TheVariants.Csv number)) other ≡ Ok value → b ≡ true
    by true h = refl
    by false h = cc h

-- what records gave: their texts were put behind those before, and their entries too
pub record AreRead (count : Counting) (kinds : List Kind) (width : ℕ) (old : EntriesRead) (rows : List (List (List ℕ))) (new : EntriesRead) : Type 0 where
  pub formed : AreFormed width rows
  pub numbered : new.texts ≡ with_texts old.texts (texts_in count kinds rows)
  pub entries : Counted
  pub behind : new.entries ≡ old.entries ++ entries
  pub each : AreEntries count kinds new.texts rows entries

pub given-read : (content : Content) (columns : List NamedKind) (count : Counting) (width number : ℕ) (old new : EntriesRead) (rows : List (List (List ℕ)))
    → records_give (entry_scheme content columns) width count number old rows ≡ Ok new → AreRead count (kinds_of columns) width old rows new
unfolding records_give AreFormed AreEntries texts_in with_texts
given-read content columns count width number old new [] e =
    let same = same_Ok _ _ _ refl e in
    record { formed = tt; numbered = ap (λ (r : EntriesRead). r.texts) (sym same); entries = []; behind = ap (λ (r : EntriesRead). r.entries) (sym same) ∙ sym (append-nil old.entries); each = refl }
given-read content columns count width number old new (cells ∷ rest) e =
    let kinds = kinds_of columns in
    let next = from_step (record_gives (entry_scheme content columns) width count old number cells) _ new e in
    let own = or_fault-ok (form_fault width number cells) (entered kinds count old number cells) next.0 next.1 in
    let texts = texts_after count kinds old.texts cells in
    let entry = from_step (ok_or (entry_of count texts kinds cells) (Number number)) (λ entry. Ok (with_entry old texts entry)) next.0 own in
    let is = some-or (entry_of count texts kinds cells) (Number number) entry.0 entry.1 in
    let same : with_entry old texts entry.0 ≡ next.0 = same_Ok _ _ _ refl entry.2 in
    let more = given-read content columns count width (number + 1) next.0 new rest next.2 in
    let grown : next.0.texts ≡ texts = ap (λ (r : EntriesRead). r.texts) (sym same) in
    let row = texts_in_row kinds (row_cells count cells) in
    let all : new.texts ≡ with_texts texts (texts_in count kinds rest) = more.numbered ∙ ap (λ t. with_texts t (texts_in count kinds rest)) grown in
    record {
      formed = (none-formed width number cells (entered kinds count old number cells) next.0 next.1, more.formed);
      numbered = all ∙ sym (with_texts-append old.texts row (texts_in count kinds rest));
      entries = entry.0 ∷ more.entries;
      behind = more.behind ∙ ap (λ (r : EntriesRead). r.entries ++ more.entries) (sym same) ∙ append_assoc old.entries (entry.0 ∷ []) more.entries;
      each = (
        entry-begins count texts new.texts kinds cells (subst (BeginsWith texts) (sym all) (begins-texts texts (texts_in count kinds rest))) (have-own old.texts row) ∙ is,
        more.each,
      );
    }

-- and the other way about
pub read-given : (content : Content) (columns : List NamedKind) (count : Counting) (width number : ℕ) (texts all : List (List ℕ)) (before entries : Counted) (rows : List (List (List ℕ)))
    → AreFormed width rows → all ≡ with_texts texts (texts_in count (kinds_of columns) rows) → AreEntries count (kinds_of columns) all rows entries
    → records_give (entry_scheme content columns) width count number (record { texts = texts; entries = before }) rows ≡ Ok (record { texts = all; entries = before ++ entries })
unfolding records_give AreFormed AreEntries texts_in with_texts
read-given content columns count width number texts all before entries [] formed grown each = rw (grown, each, append-nil before) refl
read-given content columns count width number texts all before [] (cells ∷ rest) formed grown each = absurd each
read-given content columns count width number texts all before (entry ∷ entries) (cells ∷ rest) formed grown each =
    let kinds = kinds_of columns in
    let row = texts_in_row kinds (row_cells count cells) in
    let after = texts_after count kinds texts cells in
    let later : all ≡ with_texts after (texts_in count kinds rest) = grown ∙ with_texts-append texts row (texts_in count kinds rest) in
    let begins : BeginsWith after all = subst (BeginsWith after) (sym later) (begins-texts after (texts_in count kinds rest)) in
    let own : entry_of count after kinds cells ≡ Some entry = sym (entry-begins count after all kinds cells begins (have-own texts row)) ∙ each.0 in
    let first : record_gives (entry_scheme content columns) width count (record { texts = texts; entries = before }) number cells ≡ Ok (record { texts = after; entries = before ++ entry ∷ [] }) = rw (formed-none width number cells formed.0, own) refl in
    let more = read-given content columns count width (number + 1) after all (before ++ entry ∷ []) entries rest formed.1 later each.1 in
    ap (λ r. r >>= (λ state. records_give (entry_scheme content columns) width count (number + 1) state rest)) first
    ∙ more ∙ ap (λ es. Ok (record { texts = all; entries = es })) (append_assoc before (entry ∷ []) entries)

-- ---- the numbers of one dictionary

position-seam : (texts : List (List ℕ)) (text : List ℕ) → list_any (bytes_eq text) texts ≡ false → number_of_text (texts ++ text ∷ []) text ≡ length texts
position-seam [] text new = rw ((bytes_eq-Decides text text).1 refl) refl
position-seam (x ∷ texts) text new = by (cases_Bool (bytes_eq text x)) (λ later. position-seam texts text later)
  where
    by : (bytes_eq text x ≡ true) ⊎ (bytes_eq text x ≡ false) → (list_any (bytes_eq text) texts ≡ false → number_of_text (texts ++ text ∷ []) text ≡ length texts)
        → number_of_text ((x ∷ texts) ++ text ∷ []) text ≡ length (x ∷ texts)
    by (inl same) more = absurd (let bad : true ≡ false = rw same at new in cc)
    by (inr other) more = rw (other, more (rw other at new)) (omega arith)

get-front : {X : Type 0} (xs ys : List X) (k : ℕ) (x : X) → slice_get xs k ≡ Some x → slice_get (xs ++ ys) k ≡ Some x
get-front [] ys k x e = cc e
get-front (y ∷ xs) ys zero x e = e
get-front (y ∷ xs) ys (suc k) x e = get-front xs ys k x e

get-seam : {X : Type 0} (xs : List X) (x : X) → slice_get (xs ++ x ∷ []) (length xs) ≡ Some x
get-seam [] x = refl
get-seam (y ∷ xs) x = get-seam xs x

last-has : (texts : List (List ℕ)) (own text : List ℕ) → HasText (texts ++ own ∷ []) text → (HasText texts text) ⊎ ((list_any (bytes_eq text) texts ≡ false) × (text ≡ own))
last-has texts own text has = by (cases_Bool (list_any (bytes_eq text) texts)) (cases_Bool (bytes_eq text own))
  where
    by : (list_any (bytes_eq text) texts ≡ true) ⊎ (list_any (bytes_eq text) texts ≡ false) → (bytes_eq text own ≡ true) ⊎ (bytes_eq text own ≡ false)
        → (HasText texts text) ⊎ ((list_any (bytes_eq text) texts ≡ false) × (text ≡ own))
    by (inl there) same = inl there
    by (inr new) (inl same) = inr (new, (bytes_eq-Decides text own).0 same)
    by (inr new) (inr other) = absurd (let bad : false ≡ true = rw (list_any-append (bytes_eq text) texts (own ∷ []), new, other) at has in cc)

-- one text more
pub numbers-next : (old dict texts : List (List ℕ)) (own : List ℕ) (numbers : List ℤ) → dict ≡ with_texts old texts → length numbers ≡ length texts → AreNumbers dict texts numbers
    → AreNumbers (with_text dict own) (texts ++ own ∷ []) (numbers ++ pos (number_of_text dict own) ∷ [])
numbers-next old dict texts own numbers is long so_far text has = by (last-has texts own text has)
  where
    own-number : number_of_text (with_text dict own) own ≡ number_of_text dict own
    own-number = number-own dict own

    by : (HasText texts text) ⊎ ((list_any (bytes_eq text) texts ≡ false) × (text ≡ own))
        → slice_get (numbers ++ pos (number_of_text dict own) ∷ []) (number_of_text (texts ++ own ∷ []) text) ≡ Some (pos (number_of_text (with_text dict own) text))
    by (inl there) =
        let kept : number_of_text (texts ++ own ∷ []) text ≡ number_of_text texts text = number-begins texts (texts ++ own ∷ []) text (record { more = own ∷ []; parts = refl }) there in
        let in_dict : HasText dict text = subst (λ d. HasText d text) (sym is) (has-of (with_texts old texts) texts text (have-own old texts) there) in
        let same : number_of_text (with_text dict own) text ≡ number_of_text dict text = number-begins dict (with_text dict own) text (begins-text dict own) in_dict in
        rw (kept, same) (get-front numbers (pos (number_of_text dict own) ∷ []) (number_of_text texts text) (pos (number_of_text dict text)) (so_far text there))
    by (inr (new, same)) =
        let at : number_of_text (texts ++ text ∷ []) text ≡ length texts = position-seam texts text new in
        rw (← same, at, ← long, number-own dict text) (get-seam numbers (pos (number_of_text dict text)))

-- ---- whole numbers alone

pub whole-next : (kinds : List Kind) (kind : Kind) → AreWholeNumbers kinds → kind ≡ of_kind.Int → AreWholeNumbers (kinds ++ kind ∷ [])
unfolding AreWholeNumbers
whole-next [] kind are is = rw is tt
whole-next (of_kind.Int ∷ kinds) kind are is = whole-next kinds kind are is
whole-next (of_kind.Text ∷ kinds) kind are is = absurd are

row-same : (kinds : List Kind) (dict texts : List (List ℕ)) (row : Row) → AreWholeNumbers kinds → IsRenumbered kinds dict texts row row
unfolding AreWholeNumbers IsRenumbered
row-same [] dict texts row are = refl
row-same (of_kind.Int ∷ kinds) dict texts [] are = refl
row-same (of_kind.Int ∷ kinds) dict texts (cell ∷ row) are = (refl, row-same kinds dict texts row are)
row-same (of_kind.Text ∷ kinds) dict texts row are = absurd are

part-same : (kinds : List Kind) (dict texts : List (List ℕ)) (entries : Counted) → AreWholeNumbers kinds → IsPartRenumbered kinds dict texts entries entries
unfolding IsPartRenumbered
part-same kinds dict texts [] are = refl
part-same kinds dict texts (entry ∷ entries) are = (refl, row-same kinds dict texts entry.0 are, part-same kinds dict texts entries are)

-- entries without texts are as they were read
pub parts-same : (kinds : List Kind) (parts : List Numbered) → AreWholeNumbers kinds → AllZip (IsRenumberedBy kinds) parts (map (λ (own : Numbered). own.records) parts)
parts-same kinds [] are = tt
parts-same kinds (own ∷ parts) are = ((λ dict texts numbers. part-same kinds dict texts own.records are), parts-same kinds parts are)

-- ---- rows by the numbers of one dictionary

row-renumbered : (kinds : List Kind) (dict texts : List (List ℕ)) (cells : List (List ℕ)) (row other : Row) → IsRenumbered kinds dict texts row other → HaveTexts texts (texts_in_row kinds cells)
    → row_of texts kinds cells ≡ Some row → row_of dict kinds cells ≡ Some other
unfolding IsRenumbered HaveTexts texts_in_row row_of
row-renumbered [] dict texts cells row other same have is = is ∙ ap Some (sym same)
row-renumbered (kind ∷ kinds) dict texts [] row other same have is = cc is
row-renumbered (of_kind.Int ∷ kinds) dict texts (cell ∷ cells) row other same have is =
    by (whole_number cell) (row_of texts kinds cells) row other same is (λ t u renumbered e. row-renumbered kinds dict texts cells t u renumbered have e)
  where
    by : (o : Option ℤ) (r : Option Row) (row other : Row) → IsRenumbered (of_kind.Int ∷ kinds) dict texts row other → option_and_then (λ n. option_map (λ t. n ∷ t) r) o ≡ Some row
        → ((t u : Row) → IsRenumbered kinds dict texts t u → r ≡ Some t → row_of dict kinds cells ≡ Some u)
        → option_and_then (λ n. option_map (λ t. n ∷ t) (row_of dict kinds cells)) o ≡ Some other
    by None r row other same is more = cc is
    by (Some n) None row other same is more = cc is
    by (Some n) (Some t) [] other same is more = cc is
    by (Some n) (Some t) (m ∷ row) [] same is more = absurd same
    by (Some n) (Some t) (m ∷ row) (k ∷ other) same is more =
        let first : n ≡ m = cc is in
        let rest : t ≡ row = cc is in
        rw (more row other same.1 (ap Some rest)) (ap (λ x. Some (x ∷ other)) (first ∙ sym same.0))
row-renumbered (of_kind.Text ∷ kinds) dict texts (cell ∷ cells) row other same have is =
    by (row_of texts kinds cells) row other same is (λ t u renumbered e. row-renumbered kinds dict texts cells t u renumbered have.1 e)
  where
    by : (r : Option Row) (row other : Row) → IsRenumbered (of_kind.Text ∷ kinds) dict texts row other → option_map (λ t. pos (number_of_text texts cell) ∷ t) r ≡ Some row
        → ((t u : Row) → IsRenumbered kinds dict texts t u → r ≡ Some t → row_of dict kinds cells ≡ Some u)
        → option_map (λ t. pos (number_of_text dict cell) ∷ t) (row_of dict kinds cells) ≡ Some other
    by None row other same is more = cc is
    by (Some t) [] other same is more = cc is
    by (Some t) (m ∷ row) [] same is more = absurd same
    by (Some t) (m ∷ row) (k ∷ other) same is more =
        let first : pos (number_of_text texts cell) ≡ m = cc is in
        let rest : t ≡ row = cc is in
        rw (more row other same.1 (ap Some rest)) (ap (λ x. Some (x ∷ other)) (sym (same.0 cell have.0 first)))

entry-renumbered : (count : Counting) (kinds : List Kind) (dict texts : List (List ℕ)) (cells : List (List ℕ)) (entry other : Row × ℤ) → other.1 ≡ entry.1 → IsRenumbered kinds dict texts entry.0 other.0
    → HaveTexts texts (texts_in_row kinds (row_cells count cells)) → entry_of count texts kinds cells ≡ Some entry → entry_of count dict kinds cells ≡ Some other
entry-renumbered count kinds dict texts cells entry other counts same have is =
    by (count_of count cells) (row_of texts kinds (row_cells count cells)) is (λ row e. row-renumbered kinds dict texts (row_cells count cells) row other.0 e have)
  where
    by : (o : Option ℤ) (r : Option Row) → option_and_then (λ n. option_map (λ t. (t, n)) r) o ≡ Some entry
        → ((row : Row) → IsRenumbered kinds dict texts row other.0 → r ≡ Some row → row_of dict kinds (row_cells count cells) ≡ Some other.0)
        → option_and_then (λ n. option_map (λ t. (t, n)) (row_of dict kinds (row_cells count cells))) o ≡ Some other
    by None r is more = cc is
    by (Some n) None is more = cc is
    by (Some n) (Some t) is more =
        let whole : (t, n) ≡ entry = cc is in
        let row : entry.0 ≡ t = ap (λ (e : Row × ℤ). e.0) (sym whole) in
        let number : n ≡ other.1 = ap (λ (e : Row × ℤ). e.1) whole ∙ sym counts in
        rw (more t (subst (λ r. IsRenumbered kinds dict texts r other.0) row same) refl) (ap (λ m. Some (other.0, m)) number)

part-entries : (count : Counting) (kinds : List Kind) (dict texts : List (List ℕ)) (rows : List (List (List ℕ))) (part other : Counted) → IsPartRenumbered kinds dict texts part other
    → HaveTexts texts (texts_in count kinds rows) → AreEntries count kinds texts rows part → AreEntries count kinds dict rows other
unfolding IsPartRenumbered texts_in AreEntries
part-entries count kinds dict texts [] [] other same have each = same
part-entries count kinds dict texts [] (entry ∷ part) other same have each = cc each
part-entries count kinds dict texts (cells ∷ rest) [] other same have each = absurd each
part-entries count kinds dict texts (cells ∷ rest) (entry ∷ part) [] same have each = absurd same
part-entries count kinds dict texts (cells ∷ rest) (entry ∷ part) (own ∷ other) same have each =
    let row = texts_in_row kinds (row_cells count cells) in (
      entry-renumbered count kinds dict texts cells entry own same.0 same.1 (have-front texts row (texts_in count kinds rest) have) each.0,
      part-entries count kinds dict texts rest part other same.2 (have-back texts row (texts_in count kinds rest) have) each.1,
    )

-- ---- pieces one behind the other

formed-append : (width : ℕ) (xs ys : List (List (List ℕ))) → AreFormed width xs → AreFormed width ys → AreFormed width (xs ++ ys)
unfolding AreFormed
formed-append width [] ys a b = b
formed-append width (x ∷ xs) ys a b = (a.0, formed-append width xs ys a.1 b)

texts-append : (count : Counting) (kinds : List Kind) (xs ys : List (List (List ℕ))) → texts_in count kinds (xs ++ ys) ≡ texts_in count kinds xs ++ texts_in count kinds ys
unfolding texts_in
texts-append count kinds [] ys = refl
texts-append count kinds (x ∷ xs) ys = ap (λ t. texts_in_row kinds (row_cells count x) ++ t) (texts-append count kinds xs ys) ∙ sym (append_assoc (texts_in_row kinds (row_cells count x)) (texts_in count kinds xs) (texts_in count kinds ys))

entries-append : (count : Counting) (kinds : List Kind) (dict : List (List ℕ)) (xs ys : List (List (List ℕ))) (es fs : Counted) → AreEntries count kinds dict xs es → AreEntries count kinds dict ys fs
    → AreEntries count kinds dict (xs ++ ys) (es ++ fs)
unfolding AreEntries
entries-append count kinds dict [] ys es fs a b = rw a b
entries-append count kinds dict (x ∷ xs) ys [] fs a b = absurd a
entries-append count kinds dict (x ∷ xs) ys (e ∷ es) fs a b = (a.0, entries-append count kinds dict xs ys es fs a.1 b)

-- what the records of all pieces give, by the numbers of one dictionary
pub record AreAllRead (count : Counting) (kinds : List Kind) (width : ℕ) (old dict : List (List ℕ)) (rows : List (List (List ℕ))) (entries : Counted) : Type 0 where
  pub formed : AreFormed width rows
  pub numbered : dict ≡ with_texts old (texts_in count kinds rows)
  pub each : AreEntries count kinds dict rows entries

pub all-read : {X : Type 0} (f : X → List (List (List ℕ))) (count : Counting) (kinds : List Kind) (width : ℕ) (old dict : List (List ℕ)) (texts : List X) (pieces : List RowsRead) (others : List Counted)
    → AllZip (λ text read. IsPieceRead count kinds width (f text) read.dict read.counted) texts pieces → dict ≡ with_texts old (all_texts pieces)
    → AllZip (λ read own. IsPartRenumbered kinds dict read.dict read.counted own) pieces others → AreAllRead count kinds width old dict (flat_map f texts) (joined others)
unfolding with_texts texts_in AreFormed AreEntries
all-read f count kinds width old dict [] [] [] read is same = record { formed = tt; numbered = is; each = refl }
all-read f count kinds width old dict [] [] (other ∷ others) read is same = absurd same
all-read f count kinds width old dict [] (piece ∷ pieces) others read is same = absurd read
all-read f count kinds width old dict (text ∷ texts) [] others read is same = absurd read
all-read f count kinds width old dict (text ∷ texts) (piece ∷ pieces) [] read is same = absurd same
all-read f count kinds width old dict (text ∷ texts) (piece ∷ pieces) (other ∷ others) read is same =
    let own = piece.dict in
    let first = f text in
    let rest = flat_map f texts in
    let mine = texts_in count kinds first in
    let theirs = texts_in count kinds rest in
    let mid = with_texts old own in
    let later : dict ≡ with_texts mid (all_texts pieces) = is ∙ with_texts-append old own (all_texts pieces) in
    let tail = all-read f count kinds width mid dict texts pieces others read.1 later same.1 in
    let through : mid ≡ with_texts old mine = ap (with_texts old) read.0.numbered ∙ with-through old [] mine in
    let have : HaveTexts own mine = subst (λ t. HaveTexts t mine) (sym read.0.numbered) (have-own [] mine) in
    record {
      formed = formed-append width first rest read.0.formed tail.formed;
      numbered = tail.numbered ∙ ap (λ t. with_texts t theirs) through ∙ sym (with_texts-append old mine theirs) ∙ ap (with_texts old) (sym (texts-append count kinds first rest));
      each = entries-append count kinds dict first rest other (joined others) (part-entries count kinds dict own first piece.counted other same.0 have read.0.each) tail.each;
    }

-- one place more of a list
pub take-one : {X : Type 0} (xs : List X) (j : ℕ) (x : X) → slice_get xs j ≡ Some x → take (j + 1) xs ≡ take j xs ++ x ∷ []
take-one [] j x e = cc e
take-one (y ∷ xs) zero x e = ap (λ z. z ∷ []) (let h : y ≡ x = cc e in h)
take-one (y ∷ xs) (suc j) x e = (let n : suc j + 1 ≡ suc (j + 1) = omega arith in ap (λ m. take m (y ∷ xs)) n) ∙ ap (λ t. y ∷ t) (take-one xs j x e)

-- what all records of a part give
pub piece-read : (content : Content) (columns : List NamedKind) (count : Counting) (width number : ℕ) (new : EntriesRead) (rows : List (List (List ℕ)))
    → records_give (entry_scheme content columns) width count number (record { texts = []; entries = [] }) rows ≡ Ok new → IsPieceRead count (kinds_of columns) width rows new.texts new.entries
piece-read content columns count width number new rows e =
    let is = given-read content columns count width number (record { texts = []; entries = [] }) new rows e in
    record {
      formed = is.formed;
      numbered = is.numbered;
      each = subst (AreEntries count (kinds_of columns) new.texts rows) (sym is.behind) is.each;
    }

-- ---- one more of each

kinds-one : (columns : List NamedKind) (j : ℕ) (column : NamedKind) → column ≡ get_or columns j column → j < length columns → kinds_of (take (j + 1) columns) ≡ kinds_of (take j columns) ++ column.kind ∷ []
kinds-one [] j column is below = absurd (omega arith)
kinds-one (c ∷ columns) zero column is below = ap (λ (d : NamedKind). d.kind ∷ []) (sym is)
kinds-one (c ∷ columns) (suc j) column is below =
    (let n : suc j + 1 ≡ suc (j + 1) = omega arith in ap (λ m. kinds_of (take m (c ∷ columns))) n) ∙ ap (λ t. c.kind ∷ t) (kinds-one columns j column is (omega arith))

pub whole-one : (columns : List NamedKind) (j : ℕ) (column : NamedKind) → column ≡ get_or columns j column → j < length columns → AreWholeNumbers (kinds_of (take j columns)) → column.kind ≡ of_kind.Int
    → AreWholeNumbers (kinds_of (take (j + 1) columns))
whole-one columns j column is below are int = subst AreWholeNumbers (sym (kinds-one columns j column is below)) (whole-next (kinds_of (take j columns)) column.kind are int)

row-next : (kinds : List Kind) (kind : Kind) (dict texts : List (List ℕ)) (row other : Row) (cell own : ℤ) → length kinds ≡ length row → IsRenumbered kinds dict texts row other → IsCellRenumbered kind dict texts cell own
    → IsRenumbered (kinds ++ kind ∷ []) dict texts (row ++ cell ∷ []) (other ++ own ∷ [])
unfolding IsRenumbered
row-next [] kind dict texts [] other cell own long same is = rw same (is, refl)
row-next [] kind dict texts (r ∷ row) other cell own long same is = absurd (omega arith)
row-next (k ∷ kinds) kind dict texts [] other cell own long same is = absurd (omega arith)
row-next (k ∷ kinds) kind dict texts (r ∷ row) [] cell own long same is = absurd same
row-next (k ∷ kinds) kind dict texts (r ∷ row) (o ∷ other) cell own long same is = (same.0, row-next kinds kind dict texts row other cell own (omega arith) same.1 is)

-- a column more of a row
pub row-one : (columns : List NamedKind) (j : ℕ) (column : NamedKind) (dict texts : List (List ℕ)) (row other : Row) (own : ℤ) → column ≡ get_or columns j column → j < length columns → length row ≡ length columns
    → IsRenumbered (kinds_of (take j columns)) dict texts (take j row) other → IsCellRenumbered column.kind dict texts (get_or row j (pos 0)) own
    → IsRenumbered (kinds_of (take (j + 1) columns)) dict texts (take (j + 1) row) (other ++ own ∷ [])
row-one columns j column dict texts row other own is below long same cell =
    let more : take (j + 1) row ≡ take j row ++ get_or row j (pos 0) ∷ [] = (let e : j + 1 ≡ suc j = omega arith in ap (λ m. take m row) e) ∙ take-suc row j (pos 0) (omega (arith, below, long)) in
    let first = length-take-le j row (omega (arith, below, long)) in
    let second = length-map (take j columns) (λ (c : NamedKind). c.kind) in
    let third = length-take-le j columns (omega (arith, below)) in
    rw (kinds-one columns j column is below, more) (row-next (kinds_of (take j columns)) column.kind dict texts (take j row) other (get_or row j (pos 0)) own (omega (arith, first, second, third)) same cell)

pub part-one : (kinds : List Kind) (dict texts : List (List ℕ)) (entries others : Counted) (entry own : Row × ℤ) → IsPartRenumbered kinds dict texts entries others → own.1 ≡ entry.1 → IsRenumbered kinds dict texts entry.0 own.0
    → IsPartRenumbered kinds dict texts (entries ++ entry ∷ []) (others ++ own ∷ [])
unfolding IsPartRenumbered
part-one kinds dict texts [] others entry own same counts row = rw same (counts, row, refl)
part-one kinds dict texts (e ∷ entries) [] entry own same counts row = absurd same
part-one kinds dict texts (e ∷ entries) (o ∷ others) entry own same counts row = (same.0, same.1, part-one kinds dict texts entries others entry own same.2 counts row)

-- ---- what all parts answered

-- what is said of each answer, where there is one, holds of all that is there
pub all-there : {X Y : Type 0} (Q : X → Y → Type 0) (parts : List X) (answers : List (Option Y)) (all : List Y) → AllZip (λ part answer. IfSome answer (Q part)) parts answers → answers ≡ map Some all → AllZip Q parts all
all-there Q [] [] [] are is = tt
all-there Q [] [] (y ∷ all) are is = cc is
all-there Q [] (answer ∷ answers) all are is = absurd are
all-there Q (part ∷ parts) [] all are is = absurd are
all-there Q (part ∷ parts) (answer ∷ answers) [] are is = cc is
all-there Q (part ∷ parts) (answer ∷ answers) (y ∷ all) are is =
    let first : answer ≡ Some y = cc is in
    let rest : answers ≡ map Some all = cc is in
    (rw first at are.0, all-there Q parts answers all are.1 rest)

-- ---- pieces that get the numbers of one dictionary

numbered-grow : (dict more : List (List ℕ)) (pieces : List RowsRead) (all : List Numbered) → BeginsWith dict more → HaveTexts dict (all_texts pieces) → AllZip (IsNumbered dict) pieces all → AllZip (IsNumbered more) pieces all
numbered-grow dict more [] [] begins have are = tt
numbered-grow dict more [] (own ∷ all) begins have are = absurd are
numbered-grow dict more (piece ∷ pieces) [] begins have are = absurd are
numbered-grow dict more (piece ∷ pieces) (own ∷ all) begins have are =
    let mine = have-front dict piece.dict (all_texts pieces) have in
    let theirs = have-back dict piece.dict (all_texts pieces) have in (
      (are.0.0, λ text has. are.0.1 text has ∙ ap (λ n. Some (pos n)) (sym (number-begins dict more text begins (has-of dict piece.dict text mine has)))),
      numbered-grow dict more pieces all begins theirs are.1,
    )

-- a piece more
pub numbered-next : (old dict more : List (List ℕ)) (pieces : List RowsRead) (all : List Numbered) (piece : RowsRead) (own : Numbered) → dict ≡ with_texts old (all_texts pieces) → more ≡ with_texts dict piece.dict
    → AllZip (IsNumbered dict) pieces all → IsNumbered more piece own → AllZip (IsNumbered more) (pieces ++ piece ∷ []) (all ++ own ∷ [])
numbered-next old dict more pieces all piece own is grown are numbered =
    let begins : BeginsWith dict more = subst (BeginsWith dict) (sym grown) (begins-texts dict piece.dict) in
    let have : HaveTexts dict (all_texts pieces) = subst (λ d. HaveTexts d (all_texts pieces)) (sym is) (have-own old (all_texts pieces)) in
    all_zipped_more (IsNumbered more) pieces all piece own (numbered-grow dict more pieces all begins have are) numbered

pub texts-next : (old dict more : List (List ℕ)) (pieces : List RowsRead) (piece : RowsRead) → dict ≡ with_texts old (all_texts pieces) → more ≡ with_texts dict piece.dict → more ≡ with_texts old (all_texts (pieces ++ piece ∷ []))
texts-next old dict more pieces piece is grown =
    let all : all_texts (pieces ++ piece ∷ []) ≡ all_texts pieces ++ piece.dict = flat_map-append (λ (read : RowsRead). read.dict) pieces (piece ∷ []) ∙ ap (λ t. all_texts pieces ++ t) (append-nil piece.dict) in
    grown ∙ ap (λ d. with_texts d piece.dict) is ∙ sym (with_texts-append old (all_texts pieces) piece.dict) ∙ ap (with_texts old) (sym all)

-- the entries by those numbers
pub parts-renumbered : (kinds : List Kind) (dict : List (List ℕ)) (pieces : List RowsRead) (all : List Numbered) (others : List Counted) → AllZip (IsNumbered dict) pieces all → AllZip (IsRenumberedBy kinds) all others
    → AllZip (λ read own. IsPartRenumbered kinds dict read.dict read.counted own) pieces others
parts-renumbered kinds dict [] [] [] are same = tt
parts-renumbered kinds dict [] [] (other ∷ others) are same = absurd same
parts-renumbered kinds dict [] (own ∷ all) others are same = absurd are
parts-renumbered kinds dict (piece ∷ pieces) [] others are same = absurd are
parts-renumbered kinds dict (piece ∷ pieces) (own ∷ all) [] are same = absurd same
parts-renumbered kinds dict (piece ∷ pieces) (own ∷ all) (other ∷ others) are same = (
  subst (λ r. IsPartRenumbered kinds dict piece.dict r other) are.0.0 (same.0 dict piece.dict are.0.1),
  parts-renumbered kinds dict pieces all others are.1 same.1,
)

-- the answer of a part whose header tells this of the records below it
pub part-read : (content : Content) (columns : List NamedKind) (records : List (List (List ℕ))) (texts dict : List (List ℕ)) (pieces : List RowsRead) (bag : Bag)
    → IsReadAlone content columns records pieces → dict ≡ with_texts texts (all_texts pieces) → IsBagOf (kinds_of columns) dict pieces bag
    → bag_read (part_gives (table_scheme content columns) (record { texts = texts; entries = [] }) records) ≡ Ok (bag, dict)
part-read content columns records texts dict pieces bag read is sum =
    let below = read.below in
    let all = rw (← read.follow) at (all-read (λ (text : Bor (List ℕ)). records_of text.now) below.kind (kinds_of columns) below.width texts dict read.texts pieces sum.entries read.each is sum.renumbered) in
    let given = read-given content columns below.kind below.width 2 texts dict [] (joined sum.entries) below.rows all.formed all.numbered all.each in
    let summed = pass content columns below.width below.kind 2 (record { texts = texts; entries = [] }) (record { texts = dict; entries = joined sum.entries }) below.rows given sum.fits in
    rw (read.tells, summed) (ap (λ b. Ok (b, dict)) (sym sum.is))

-- a header by itself tells what it tells before more records
pub header-cut : {K S : Type 0} (scheme : Scheme K S) (head rest : List (List (List ℕ))) (kind : K) (width : ℕ) → below_header scheme head ≡ Ok (record { kind = kind; width = width; rows = [] })
    → below_header scheme (head ++ rest) ≡ Ok (record { kind = kind; width = width; rows = rest })
header-cut scheme [] rest kind width is = cc is
header-cut {K} scheme (header ∷ rows) rest kind width is = by (or_fault (form_fault (length header) 1 header) (ok_or (scheme.kind_of header) Header)) is
  where
    by : (r : Result K LoadFault) → ◌>>=◌ {B = Below K} r (λ k. Ok (record { kind = k; width = length header; rows = rows })) ≡ Ok (record { kind = kind; width = width; rows = [] })
        → ◌>>=◌ {B = Below K} r (λ k. Ok (record { kind = k; width = length header; rows = rows ++ rest })) ≡ Ok (record { kind = kind; width = width; rows = rest })
    by (Err f) e = cc e
    by (Ok k) e =
        let same : ◌≡◌ {A = Below K} (record { kind = k; width = length header; rows = rows }) (record { kind = kind; width = width; rows = [] }) = same_Ok _ _ _ refl e in
        rw (ap (λ (b : Below K). b.kind) same, ap (λ (b : Below K). b.width) same, ap (λ (b : Below K). b.rows) same) refl
