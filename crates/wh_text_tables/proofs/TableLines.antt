-- The lines of a table that is written.
use Rattle.std.proofs.Common.{◌≡◌, ◌<◌, ◌≤◌, ◌^◌, ℕ, zero, suc, ◌+◌, ℤ, pos, negsuc, true, false, List, [], ◌∷◌, ◌++◌, length, drop, get_or, ◌⊎◌, inl, inr, refl, sym, ap, subst, ◌∙◌, arith, append_assoc, FitsSigned}
use Rattle.std.specs.Prelude.{◌==◌}
use Rattle.std.specs.Char.{digit_value}
use Rattle.std.specs.Fmt.{decimal, signed_decimal}
use Rattle.std.specs.Int.{w64}
use Rattle.std.specs.List.{flat_map, list_any}
use Rattle.std.specs.Str.Parse.{AllDigits}
use Rattle.std.proofs.Math.Seq.{drop-cons}
use Rattle.std.proofs.lemmas.Bool.{cases_Bool, eqb-true, ne_eqb}
use Rattle.std.proofs.lemmas.Fmt.{decimal_is_IsNumeral}
use Rattle.std.proofs.lemmas.List.{append-nil, drop_all}
use Rattle.csv.specs.Writing.{default_writer, escaped, field_text, fields_text, is_blank, needs_byte, row_text}
use Rattle.wh_row.specs.Row.{Row}
use Rattle.wh_text.specs.Columns.{NamedKind, kinds_of, names_of}
use Rattle.wh_text.specs.declared.columns.Kind.{Kind}
use Rattle.wh_text_tables.specs.TableText.{counted_header}
use Rattle.wh_text_tables.specs.TableWritten.{cell_text, cell_texts}
use Rattle.wh_text_tables.proofs.TableRow.{kinds-next}

not-byte : (c k : ℕ) → digit_value c < 10 → (digit_value k < 10 → ⊥) → (c == k) ≡ false
not-byte c k digit other = by (cases_Bool (c == k))
  where
    by : ((c == k) ≡ true) ⊎ ((c == k) ≡ false) → (c == k) ≡ false
    by (inl same) = absurd (other (subst (λ n. digit_value n < 10) (eqb-true c k same) digit))
    by (inr differs) = differs

plain-digit : (c : ℕ) → digit_value c < 10 → needs_byte default_writer c ≡ false
plain-digit c digit = rw (not-byte c 44 digit (λ h. omega (arith, h)), not-byte c 34 digit (λ h. omega (arith, h)), not-byte c 13 digit (λ h. omega (arith, h)), not-byte c 10 digit (λ h. omega (arith, h))) refl

plain-digits : (text : List ℕ) → AllDigits 10 text → list_any (needs_byte default_writer) text ≡ false
plain-digits [] all = refl
plain-digits (c ∷ cs) all = rw (plain-digit c all.0, plain-digits cs all.1) refl

plain-decimal : (n : ℕ) → n < 2 ^ 64 → list_any (needs_byte default_writer) (decimal n) ≡ false
plain-decimal n below = plain-digits (decimal n) (decimal_is_IsNumeral n below).0.1

plain-signed : (z : ℤ) → FitsSigned w64 z → list_any (needs_byte default_writer) (signed_decimal z) ≡ false
plain-signed (pos n) fits = plain-decimal n (let f = fits.sfits in omega (arith, f))
plain-signed (negsuc n) fits = rw (plain-decimal (suc n) (let f = fits.sfits in omega (arith, f))) refl

-- a number needs no quotes
pub number-field : (z : ℤ) → FitsSigned w64 z → field_text default_writer (signed_decimal z) ≡ signed_decimal z
number-field z fits = rw (plain-signed z fits) refl

signed-some : (z : ℤ) → FitsSigned w64 z → (length (signed_decimal z) == 0) ≡ false
signed-some (pos n) fits = some (decimal n) (decimal_is_IsNumeral n (let f = fits.sfits in omega (arith, f))).0.0
  where
    some : (text : List ℕ) → 0 < length text → (length text == 0) ≡ false
    some [] l = absurd (omega (arith, l))
    some (c ∷ cs) l = ne_eqb (suc (length cs)) 0 (λ e. cc)
signed-some (negsuc n) fits = ne_eqb (suc (length (decimal (suc n)))) 0 (λ e. cc)

-- a record whose first field shows a byte
pub row-first : (field : List ℕ) (rest : List (List ℕ)) → (length (field_text default_writer field) == 0) ≡ false
    → row_text default_writer (field ∷ rest) ≡ field_text default_writer field ++ (fields_text default_writer rest ++ 10 ∷ [])
unfolding is_blank
row-first field [] shows = rw shows (append_assoc (field_text default_writer field) (fields_text default_writer []) (10 ∷ []))
row-first field (next ∷ rest) shows = append_assoc (field_text default_writer field) (fields_text default_writer (next ∷ rest)) (10 ∷ [])

-- a record of a row begins with its count
pub row-counted : (z : ℤ) (rest : List (List ℕ)) → FitsSigned w64 z
    → row_text default_writer (signed_decimal z ∷ rest) ≡ field_text default_writer (signed_decimal z) ++ (fields_text default_writer rest ++ 10 ∷ [])
row-counted z rest fits = row-first (signed_decimal z) rest (rw (number-field z fits) (signed-some z fits))

-- one field more
pub fields-next : (out now : List ℕ) (field : List ℕ) (rest : List (List ℕ)) → now ≡ (out ++ 44 ∷ []) ++ field_text default_writer field
    → now ++ (fields_text default_writer rest ++ 10 ∷ []) ≡ out ++ (fields_text default_writer (field ∷ rest) ++ 10 ∷ [])
unfolding fields_text
fields-next out now field rest e =
    ap (λ t. t ++ (fields_text default_writer rest ++ 10 ∷ [])) e
    ∙ append_assoc (out ++ 44 ∷ []) (field_text default_writer field) (fields_text default_writer rest ++ 10 ∷ [])
    ∙ append_assoc out (44 ∷ []) (field_text default_writer field ++ (fields_text default_writer rest ++ 10 ∷ []))
    ∙ ap (λ t. out ++ 44 ∷ t) (sym (append_assoc (field_text default_writer field) (fields_text default_writer rest) (10 ∷ [])))

pub fields-none : (out : List ℕ) → out ++ (fields_text default_writer [] ++ 10 ∷ []) ≡ out ++ 10 ∷ []
unfolding fields_text
fields-none out = refl

-- the next cell of a row that has one, and of a row that has none
pub cells-some : (texts : List (List ℕ)) (kind : Kind) (kinds : List Kind) (row : Row) (place : ℕ) (n : ℤ) → place < length row → n ≡ get_or row place n
    → cell_texts texts (kind ∷ kinds) (drop place row) ≡ cell_text texts kind n ∷ cell_texts texts kinds (drop (place + 1) row)
unfolding cell_texts
cells-some texts kind kinds row place n below is =
    ap (cell_texts texts (kind ∷ kinds)) (drop-cons row place n below) ∙ ap (λ m. cell_text texts kind m ∷ cell_texts texts kinds (drop (suc place) row)) (sym is)
    ∙ (let e : suc place ≡ place + 1 = omega arith in ap (λ k. cell_text texts kind n ∷ cell_texts texts kinds (drop k row)) e)

pub cells-none : (texts : List (List ℕ)) (kind : Kind) (kinds : List Kind) (row : Row) (place : ℕ) → length row ≤ place
    → cell_texts texts (kind ∷ kinds) (drop place row) ≡ [] ∷ cell_texts texts kinds (drop (place + 1) row)
unfolding cell_texts
cells-none texts kind kinds row place past = rw (drop_all place row past, drop_all (place + 1) row (omega arith)) refl

-- one byte between quotes
pub escaped-quote : (rest : List ℕ) → escaped default_writer (34 ∷ rest) ≡ 34 ∷ 34 ∷ escaped default_writer rest
unfolding escaped
escaped-quote rest = refl

pub escaped-plain : (b : ℕ) (rest : List ℕ) → (b == 34) ≡ false → escaped default_writer (b ∷ rest) ≡ b ∷ escaped default_writer rest
unfolding escaped
escaped-plain b rest other = rw other refl

pub escaped-none : (out : List ℕ) → out ++ (escaped default_writer [] ++ 34 ∷ []) ≡ out ++ 34 ∷ []
unfolding escaped
escaped-none out = refl

-- a cell of a row that has one, and of a row that has none
pub cell-some : (texts : List (List ℕ)) (kind : Kind) (kinds : List Kind) (row : Row) (place : ℕ) (n : ℤ) (out now : List ℕ) → place < length row → n ≡ get_or row place n
    → now ≡ (out ++ 44 ∷ []) ++ field_text default_writer (cell_text texts kind n)
    → now ++ (fields_text default_writer (cell_texts texts kinds (drop (place + 1) row)) ++ 10 ∷ []) ≡ out ++ (fields_text default_writer (cell_texts texts (kind ∷ kinds) (drop place row)) ++ 10 ∷ [])
cell-some texts kind kinds row place n out now below is e =
    fields-next out now (cell_text texts kind n) (cell_texts texts kinds (drop (place + 1) row)) e
    ∙ ap (λ fields. out ++ (fields_text default_writer fields ++ 10 ∷ [])) (sym (cells-some texts kind kinds row place n below is))

pub cell-none : (texts : List (List ℕ)) (kind : Kind) (kinds : List Kind) (row : Row) (place : ℕ) (out now : List ℕ) → length row ≤ place → now ≡ out ++ 44 ∷ []
    → now ++ (fields_text default_writer (cell_texts texts kinds (drop (place + 1) row)) ++ 10 ∷ []) ≡ out ++ (fields_text default_writer (cell_texts texts (kind ∷ kinds) (drop place row)) ++ 10 ∷ [])
cell-none texts kind kinds row place out now past e =
    fields-next out now [] (cell_texts texts kinds (drop (place + 1) row)) (e ∙ sym (append-nil (out ++ 44 ∷ [])))
    ∙ ap (λ fields. out ++ (fields_text default_writer fields ++ 10 ∷ [])) (sym (cells-none texts kind kinds row place past))

-- one byte more between quotes
pub quoted-next : (out now whole text : List ℕ) (i : ℕ) → i < length text → ((rest : List ℕ) → now ++ escaped default_writer rest ≡ out ++ escaped default_writer (get_or text i 0 ∷ rest))
    → out ++ (escaped default_writer (drop i text) ++ 34 ∷ []) ≡ whole → now ++ (escaped default_writer (drop (i + 1) text) ++ 34 ∷ []) ≡ whole
quoted-next out now whole text i below one so_far =
    let rest = drop (i + 1) text in
    let cons : get_or text i 0 ∷ rest ≡ drop i text = (let e : i + 1 ≡ suc i = omega arith in ap (λ k. get_or text i 0 ∷ drop k text) e) ∙ sym (drop-cons text i 0 below) in
    sym (append_assoc now (escaped default_writer rest) (34 ∷ []))
    ∙ ap (λ t. t ++ 34 ∷ []) (one rest)
    ∙ append_assoc out (escaped default_writer (get_or text i 0 ∷ rest)) (34 ∷ [])
    ∙ ap (λ xs. out ++ (escaped default_writer xs ++ 34 ∷ [])) cons
    ∙ so_far

-- the end of a text between quotes
pub quoted-end : (out now whole text : List ℕ) (i : ℕ) → length text ≤ i → now ≡ out ++ 34 ∷ []
    → out ++ (escaped default_writer (drop i text) ++ 34 ∷ []) ≡ whole → now ≡ whole
quoted-end out now whole text i past last so_far = last ∙ sym (escaped-none out) ∙ ap (λ xs. out ++ (escaped default_writer xs ++ 34 ∷ [])) (sym (drop_all i text past)) ∙ so_far

-- the next column's name and those after it
pub names-next : (columns : List NamedKind) (place : ℕ) (column : NamedKind) → column ≡ get_or columns place column → place < length columns → column.name ∷ names_of (drop (place + 1) columns) ≡ names_of (drop place columns)
names-next columns place column is below =
    (let e : place + 1 ≡ suc place = omega arith in ap (λ n. column.name ∷ names_of (drop n columns)) e)
    ∙ ap (λ (c : NamedKind). c.name ∷ names_of (drop (suc place) columns)) is
    ∙ ap names_of (sym (drop-cons columns place column below))

-- one name more
pub header-next : (columns : List NamedKind) (place : ℕ) (column : NamedKind) (out now whole : List ℕ) → column ≡ get_or columns place column → place < length columns
    → now ≡ (out ++ 44 ∷ []) ++ field_text default_writer column.name
    → out ++ (fields_text default_writer (names_of (drop place columns)) ++ 10 ∷ []) ≡ whole → now ++ (fields_text default_writer (names_of (drop (place + 1) columns)) ++ 10 ∷ []) ≡ whole
header-next columns place column out now whole is below e so_far =
    fields-next out now column.name (names_of (drop (place + 1) columns)) e
    ∙ ap (λ names. out ++ (fields_text default_writer names ++ 10 ∷ [])) (names-next columns place column is below)
    ∙ so_far

pub header-end : (columns : List NamedKind) (place : ℕ) (out now whole : List ℕ) → length columns ≤ place → now ≡ out ++ 10 ∷ []
    → out ++ (fields_text default_writer (names_of (drop place columns)) ++ 10 ∷ []) ≡ whole → now ≡ whole
header-end columns place out now whole past e so_far =
    e ∙ sym (fields-none out) ∙ ap (λ (cs : List NamedKind). out ++ (fields_text default_writer (names_of cs) ++ 10 ∷ [])) (sym (drop_all place columns past)) ∙ so_far

pub header-start : (names : List (List ℕ)) (out now : List ℕ) → now ≡ out ++ 35 ∷ []
    → now ++ (fields_text default_writer names ++ 10 ∷ []) ≡ out ++ row_text default_writer (counted_header names)
header-start names out now e =
    ap (λ t. t ++ (fields_text default_writer names ++ 10 ∷ [])) e ∙ append_assoc out (35 ∷ []) (fields_text default_writer names ++ 10 ∷ [])
    ∙ ap (λ t. out ++ t) (sym (row-first (35 ∷ []) names refl))

-- one column more of a row
pub row-start : (z : ℤ) (cells : List (List ℕ)) (out now : List ℕ) → FitsSigned w64 z → now ≡ out ++ field_text default_writer (signed_decimal z)
    → now ++ (fields_text default_writer cells ++ 10 ∷ []) ≡ out ++ row_text default_writer (signed_decimal z ∷ cells)
row-start z cells out now fits e =
    ap (λ t. t ++ (fields_text default_writer cells ++ 10 ∷ [])) e ∙ append_assoc out (field_text default_writer (signed_decimal z)) (fields_text default_writer cells ++ 10 ∷ [])
    ∙ ap (λ t. out ++ t) (sym (row-counted z cells fits))

pub row-next : (texts : List (List ℕ)) (columns : List NamedKind) (place : ℕ) (column : NamedKind) (kind : Kind) (row : Row) (out now whole : List ℕ)
    → column ≡ get_or columns place column → place < length columns → kind ≡ column.kind
    → ((kinds : List Kind) → now ++ (fields_text default_writer (cell_texts texts kinds (drop (place + 1) row)) ++ 10 ∷ []) ≡ out ++ (fields_text default_writer (cell_texts texts (kind ∷ kinds) (drop place row)) ++ 10 ∷ []))
    → out ++ (fields_text default_writer (cell_texts texts (kinds_of (drop place columns)) (drop place row)) ++ 10 ∷ []) ≡ whole
    → now ++ (fields_text default_writer (cell_texts texts (kinds_of (drop (place + 1) columns)) (drop (place + 1) row)) ++ 10 ∷ []) ≡ whole
row-next texts columns place column kind row out now whole is below same one so_far =
    let rest = kinds_of (drop (place + 1) columns) in
    one rest
    ∙ ap (λ kinds. out ++ (fields_text default_writer (cell_texts texts kinds (drop place row)) ++ 10 ∷ [])) (ap (λ k. k ∷ rest) same ∙ sym (kinds-next columns place column is below))
    ∙ so_far

pub row-end : (texts : List (List ℕ)) (columns : List NamedKind) (place : ℕ) (row : Row) (out now whole : List ℕ) → length columns ≤ place → now ≡ out ++ 10 ∷ []
    → out ++ (fields_text default_writer (cell_texts texts (kinds_of (drop place columns)) (drop place row)) ++ 10 ∷ []) ≡ whole → now ≡ whole
unfolding cell_texts
row-end texts columns place row out now whole past e so_far =
    e ∙ sym (fields-none out)
    ∙ ap (λ (cs : List NamedKind). out ++ (fields_text default_writer (cell_texts texts (kinds_of cs) (drop place row)) ++ 10 ∷ [])) (sym (drop_all place columns past)) ∙ so_far

-- one record more
pub lines-next : {X : Type 0} (line : X → List ℕ) (x : X) (all rest : List X) (out now whole : List ℕ) → all ≡ x ∷ rest → now ≡ out ++ line x
    → out ++ flat_map line all ≡ whole → now ++ flat_map line rest ≡ whole
lines-next line x all rest out now whole cons e so_far =
    ap (λ t. t ++ flat_map line rest) e ∙ append_assoc out (line x) (flat_map line rest) ∙ ap (λ xs. out ++ flat_map line xs) (sym cons) ∙ so_far

-- an element that is there is the same whatever stands for one that is not
pub same-default : {X : Type 0} (xs : List X) (i : ℕ) (d e : X) → i < length xs → get_or xs i d ≡ get_or xs i e
same-default [] i d e below = absurd (omega (arith, below))
same-default (x ∷ xs) zero d e below = refl
same-default (x ∷ xs) (suc i) d e below = same-default xs i d e (omega (arith, below))
