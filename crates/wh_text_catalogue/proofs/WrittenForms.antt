-- One level of a formula that is written, and what it is read from: words, references, literals, arrays.
use Rattle.std.proofs.Common.{◌≡◌, ◌≢◌, ℕ, zero, suc, pos, negsuc, ℤ, ◌+◌, ◌==◌, ◌&&◌, Bool, true, false, List, [], ◌∷◌, ◌++◌, length, take, drop, get_or, Option, Some, None, option_map, Ordering, Less, Equal, Greater, ◌⊎◌, inl, inr, refl, ap, sym, ◌∙◌, arith}
use Rattle.std.specs.Prelude.{codes, if◌then◌else◌, option_and_then, slice_get, nat_le}
use Rattle.std.specs.List.{AllPairs, IsDistinct, list_all, list_any, position_or_len}
use Rattle.std.specs.Ordering.{nat_cmp, match_ordering, is_eq}
use Rattle.std.specs.Cmp.Lexicographic.{slice_cmp}
use Rattle.std.specs.Str.{bytes_eq}
use Rattle.std.proofs.Math.Seq.{take-append_seam}
use Rattle.std.proofs.lemmas.Bool.{and_parts, both_ways, cases_Bool, eq-eqb, eqb-true, false_from_ne_true, lt-ltb}
use Rattle.std.proofs.Math.ListN.{get_or-map}
use Rattle.std.proofs.lemmas.List.{length-map}
use Rattle.std.proofs.lemmas.List.Sums.{position_or_len_is}
use Rattle.std.proofs.lemmas.List.Quantifiers.{position-Some}
use Rattle.std.proofs.lemmas.Map.Made.{AllPairs-from_IsDistinct}
use Rattle.std.proofs.lemmas.Map.Text.{is_eq-slice_cmp}
use Rattle.std.proofs.lemmas.Option.{get_or_from_slice_get, slice_get_within, slice_get-get_or, slice_get-map}
use Rattle.std.proofs.lemmas.Slice.Eq.{bytes_eq-Decides}
use Rattle.toml.specs.View.{items_of}
use Rattle.toml.specs.Data.{Data, string, integer, array, table, Items, no_items, item, Members, no_members, member, as_str}
use Rattle.wh_text.specs.Columns.{NamedKind, names_of}
use Rattle.wh_text.specs.Dict.{number_of_text, text_of_cell, with_text}
use Rattle.wh_text.specs.Inner.Dict.{BeginsWith}
use Rattle.wh_text.specs.NameForm.{begins_name, continues_name, is_name}
use Rattle.wh_text.specs.declared.columns.Kind.{Kind}
use Rattle.wh_text.specs.declared.columns.Kind.TheVariants.{Int}
use Rattle.wh_text.proofs.DictGrowth.{number-begins, number-own, has-text}
use Rattle.wh_text_catalogue.specs.Catalogue.{elements}
use Rattle.wh_text_catalogue.specs.ExprForm.{WrittenExpr, expr_form, literal_of, member_count, operation_of, sign_of}
use Rattle.wh_text_catalogue.specs.ExprForm as level
use Rattle.wh_text_catalogue.specs.Header.{cell_of, kind_at, place_of}
use Rattle.wh_text_catalogue.specs.Reference.{is_reference}
use Rattle.wh_text_catalogue.specs.WrittenFormula.{literal, under}
use Rattle.wh_text_catalogue.specs.WrittenLaws.{AreReferences, IsReference}
use Rattle.wh_text_catalogue.specs.declared.definitions.expr_form.Sign.{Sign}
use Rattle.wh_text_catalogue.specs.declared.definitions.expr_form.Sign.TheVariants.{Plus, Minus, Times}
use Rattle.wh_text_catalogue.specs.declared.definitions.header.Cell.{Cell}

-- Arrays.

pub elements-items : (parts : List Data) → elements (items_of parts) ≡ parts
elements-items [] = refl
elements-items (part ∷ parts) = ap (λ ps. part ∷ ps) (elements-items parts)

pub items-elements : (items : Items) → items_of (elements items) ≡ items
items-elements no_items = refl
items-elements (item value rest) = ap (item value) (items-elements rest)

pub same-bytes : (text : List ℕ) → bytes_eq text text ≡ true
same-bytes text = (bytes_eq-Decides text text).1 refl

-- References.

-- the byte is the mark
abbrev pub is_mark : ℕ → ℕ → Bool
is_mark mark byte = byte == mark

-- no name has the mark
pub record IsMark (mark : ℕ) : Type 0 where
  pub begins : begins_name mark ≡ false
  pub continues : continues_name mark ≡ false

no-mark : (test : ℕ → Bool) (mark byte : ℕ) → test mark ≡ false → test byte ≡ true → is_mark mark byte ≡ false
no-mark test mark byte none h = false_from_ne_true (is_mark mark byte) (λ e. both_ways (test mark) none (ap test (sym (eqb-true byte mark e)) ∙ h))

mark-after : (mark : ℕ) → IsMark mark → (name more : List ℕ) → list_all continues_name name ≡ true → position_or_len (is_mark mark) (name ++ mark ∷ more) ≡ length name
mark-after mark is [] more h = rw (eq-eqb mark mark refl) refl
mark-after mark is (byte ∷ name) more h =
    let parts = and_parts (continues_name byte) (list_all continues_name name) h in
    rw (no-mark continues_name mark byte is.continues parts.0, mark-after mark is name more parts.1) (omega arith)

-- the first mark after a name stands right behind it
pub mark-place : (mark : ℕ) → IsMark mark → (name more : List ℕ) → is_name name ≡ true → position_or_len (is_mark mark) (name ++ mark ∷ more) ≡ length name
unfolding is_name
mark-place mark is [] more h = cc
mark-place mark is (byte ∷ name) more h =
    let front = (and_parts (begins_name byte && list_all continues_name name) (nat_le (length (byte ∷ name)) 64) h).0 in
    let parts = and_parts (begins_name byte) (list_all continues_name name) front in
    rw (no-mark begins_name mark byte is.begins parts.0, mark-after mark is name more parts.1) (omega arith)

pub before-mark : (mark : ℕ) → IsMark mark → (name more : List ℕ) → is_name name ≡ true → take (position_or_len (is_mark mark) (name ++ mark ∷ more)) (name ++ mark ∷ more) ≡ name
before-mark mark is name more h = ap (λ k. take k (name ++ mark ∷ more)) (mark-place mark is name more h) ∙ take-append_seam name (mark ∷ more)

pub after-mark : (mark : ℕ) → IsMark mark → (name more : List ℕ) → is_name name ≡ true → drop (position_or_len (is_mark mark) (name ++ mark ∷ more) + 1) (name ++ mark ∷ more) ≡ more
after-mark mark is name more h = ap (λ k. drop (k + 1) (name ++ mark ∷ more)) (mark-place mark is name more h) ∙ drop-past name mark more
  where
    drop-past : (xs : List ℕ) (y : ℕ) (ys : List ℕ) → drop (length xs + 1) (xs ++ y ∷ ys) ≡ ys
    drop-past [] y ys = refl
    drop-past (x ∷ xs) y ys = let n : length (x ∷ xs) + 1 ≡ suc (length xs + 1) = omega arith in rw n (drop-past xs y ys)

-- no name has the dot
pub no-dot : IsMark 46
no-dot = record { begins = refl; continues = refl }

pub reference-form : (text : List ℕ) → IsReference text → is_reference text ≡ true
reference-form text is =
    let first = before-mark 46 no-dot is.child is.column is.child_formed in
    let last = after-mark 46 no-dot is.child is.column is.child_formed in
    ap is_reference is.parts ∙ rw (first, last, is.child_formed, is.column_formed) refl

-- Columns.

-- the column that stands at this place is found by its name, if no name stands twice
pub cell-found : (columns : List NamedKind) (place : ℕ) (name : List ℕ) (kind : Kind) → AllPairs (λ first second. first ≢ second) (names_of columns)
    → slice_get columns place ≡ Some (record { name = name; kind = kind }) → cell_of columns name ≡ Some (record { place = place; kind = kind })
cell-found columns place name kind distinct at =
    let none : NamedKind = record { name = []; kind = Int } in
    let within = slice_get_within columns place (record { name = name; kind = kind }) at in
    let here : get_or columns place none ≡ record { name = name; kind = kind } = get_or_from_slice_get columns place (record { name = name; kind = kind }) none at in
    let passes : NamedKind → Bool = λ c. bytes_eq c.name name in
    let names : length (names_of columns) ≡ length columns = length-map columns (λ (c : NamedKind). c.name) in
    let named : (k : ℕ) → get_or (names_of columns) k [] ≡ (get_or columns k none).name = λ k. get_or-map (λ (c : NamedKind). c.name) columns k none in
    let first : position_or_len passes columns ≡ place =
    position_or_len_is passes columns place none (omega arith)
    (λ k l. false_from_ne_true (passes (get_or columns k none))
    (λ e. distinct k place [] l (omega arith) (named k ∙ (bytes_eq-Decides (get_or columns k none).name name).0 e ∙ sym (named place ∙ ap (λ (c : NamedKind). c.name) here))))
    (λ l. ap passes here ∙ same-bytes name) in
    let found : place_of columns name ≡ Some place = rw (first, lt-ltb place (length columns) within) refl in
    let own : kind_at columns place ≡ kind = ap (λ (c : NamedKind). c.kind) here in
    rw (found, own) refl

-- a column of the row stands under a reference
pub column-form : (columns : List NamedKind) (place : ℕ) (name : List ℕ) (kind : Kind) → AreReferences columns → slice_get columns place ≡ Some (record { name = name; kind = kind }) → is_reference name ≡ true
column-form columns place name kind are at =
    let own : slice_get (names_of columns) place ≡ Some name = slice_get-map (λ (c : NamedKind). c.name) columns place ∙ ap (option_map (λ (c : NamedKind). c.name)) at in
    ap is_reference (sym (get_or_from_slice_get (names_of columns) place name [] own))
    ∙ reference-form (get_or (names_of columns) place []) (are.formed place [] (slice_get_within (names_of columns) place name own))

-- the column that a reference names stands at its place
pub cell-stands : (columns : List NamedKind) (name : List ℕ) (cell : Cell) → cell_of columns name ≡ Some cell → slice_get columns cell.place ≡ Some (record { name = name; kind = cell.kind })
cell-stands columns name cell = by (place_of columns name) refl
  where
    by : (o : Option ℕ) → place_of columns name ≡ o → option_map (λ place. record { place = place; kind = kind_at columns place }) o ≡ Some cell → slice_get columns cell.place ≡ Some (record { name = name; kind = cell.kind })
    by None is e = cc e
    by (Some place) is e =
        let same : record { place = place; kind = kind_at columns place } ≡ cell = cc in
        let none : NamedKind = record { name = []; kind = Int } in
        let first = position-Some (λ c. bytes_eq c.name name) columns place none is in
        let named = (bytes_eq-Decides (get_or columns place none).name name).0 first.1 in
        rw (← same) (slice_get-get_or columns place none first.0 ∙ ap (λ n. Some (record { name = n; kind = (get_or columns place none).kind })) named)

-- Texts.

-- a text that stands at a number has this number from where it first gets one
pub number-found : (texts all : List (List ℕ)) (text : List ℕ) (number : ℤ) → IsDistinct bytes_eq all → BeginsWith (with_text texts text) all → text_of_cell all number ≡ Some text
    → pos (number_of_text texts text) ≡ number
number-found texts all text (negsuc n) distinct begins at = cc at
number-found texts all text (pos n) distinct begins at =
    let here : get_or all n [] ≡ text = get_or_from_slice_get all n text [] at in
    let below = slice_get_within all n text at in
    let apart = AllPairs-from_IsDistinct bytes_eq-Decides all distinct in
    let place : number_of_text all text ≡ n =
    position_or_len_is (bytes_eq text) all n [] (omega arith)
    (λ k l. false_from_ne_true (bytes_eq text (get_or all k [])) (λ e. apart k n [] l below (sym ((bytes_eq-Decides text (get_or all k [])).0 e) ∙ sym here)))
    (λ l. rw here (same-bytes text)) in
    ap pos (sym (number-begins (with_text texts text) all text begins (has-text texts text) ∙ number-own texts text) ∙ place)

pub slice_get-append : {X : Type 0} (xs ys : List X) (n : ℕ) (x : X) → slice_get xs n ≡ Some x → slice_get (xs ++ ys) n ≡ Some x
slice_get-append [] ys n x e = cc e
slice_get-append (y ∷ xs) ys zero x e = e
slice_get-append (y ∷ xs) ys (suc n) x e = slice_get-append xs ys n x e

-- a number that stands for a text does so in all that begins with these texts
pub text-kept : (texts all : List (List ℕ)) (number : ℤ) (text : List ℕ) → BeginsWith texts all → text_of_cell texts number ≡ Some text → text_of_cell all number ≡ Some text
text-kept texts all (negsuc n) text begins at = cc at
text-kept texts all (pos n) text begins at = rw begins.parts (slice_get-append texts begins.more n text at)

at-number : (text : List ℕ) (texts : List (List ℕ)) → list_any (bytes_eq text) texts ≡ true → slice_get texts (number_of_text texts text) ≡ Some text
at-number text [] found = cc found
at-number text (first ∷ rest) found = by (cases_Bool (bytes_eq text first)) (at-number text rest)
  where
    by : (bytes_eq text first ≡ true) ⊎ (bytes_eq text first ≡ false) → (list_any (bytes_eq text) rest ≡ true → slice_get rest (number_of_text rest text) ≡ Some text)
        → slice_get (first ∷ rest) (number_of_text (first ∷ rest) text) ≡ Some text
    by (inl same) below = rw same (ap Some (sym ((bytes_eq-Decides text first).0 same)))
    by (inr other) below =
        let later : 1 + number_of_text rest text ≡ suc (number_of_text rest text) = omega arith in
        rw (other, later) (below (rw other at found))

-- the number that a text gets stands for it
pub text-numbered : (texts : List (List ℕ)) (text : List ℕ) → text_of_cell (with_text texts text) (pos (number_of_text texts text)) ≡ Some text
text-numbered texts text = rw (← number-own texts text) (at-number text (with_text texts text) (has-text texts text))

-- Forms.

-- the word of an operation
abbrev pub sign_word : Sign → List ℕ
sign_word Plus = codes "+"
sign_word Minus = codes "-"
sign_word Times = codes "*"

-- the data are of this form
abbrev pub IsOfForm : WrittenExpr → Data → Type 0
IsOfForm (level.Number n) value = value ≡ integer n
IsOfForm (level.Reference text) value = value ≡ string text
IsOfForm (level.Literal text) value = value ≡ literal text
IsOfForm (level.Operation sign left right) value = value ≡ under (sign_word sign) (left ∷ right ∷ [])

sign-word : (text : List ℕ) (sign : Sign) → sign_of text ≡ Some sign → text ≡ sign_word sign
sign-word text sign = plus (bytes_eq text (codes "+")) refl
  where
    times : (b : Bool) → bytes_eq text (codes "*") ≡ b → (if b then Some Times else None) ≡ Some sign → text ≡ sign_word sign
    times true is e = let same : Times ≡ sign = cc in rw (← same) ((bytes_eq-Decides text (codes "*")).0 is)
    times false is e = cc e

    minus : (b : Bool) → bytes_eq text (codes "-") ≡ b → (if b then Some Minus else (if bytes_eq text (codes "*") then Some Times else None)) ≡ Some sign → text ≡ sign_word sign
    minus true is e = let same : Minus ≡ sign = cc in rw (← same) ((bytes_eq-Decides text (codes "-")).0 is)
    minus false is e = times (bytes_eq text (codes "*")) refl e

    plus : (b : Bool) → bytes_eq text (codes "+") ≡ b
        → (if b then Some Plus else (if bytes_eq text (codes "-") then Some Minus else (if bytes_eq text (codes "*") then Some Times else None))) ≡ Some sign → text ≡ sign_word sign
    plus true is e = let same : Plus ≡ sign = cc in rw (← same) ((bytes_eq-Decides text (codes "+")).0 is)
    plus false is e = minus (bytes_eq text (codes "-")) refl e

two-keys : (one : Bool) → one ≡ false → (o : Option WrittenExpr) (form : WrittenExpr) (value : Data) → (if one then o else None) ≡ Some form → IsOfForm form value
two-keys true is o form value e = cc is
two-keys false is o form value e = cc e

-- a table of one key that is `text`
literal-only : (members : Members) (form : WrittenExpr) → literal_of members ≡ Some form → IsOfForm form (table members)
literal-only no_members form e = cc e
literal-only (member key value (member other last rest)) form e =
    two-keys (suc (suc (member_count rest)) == 1) (false_from_ne_true (suc (suc (member_count rest)) == 1) (λ one. let same = eqb-true (suc (suc (member_count rest))) 1 one in absurd (omega arith))) _ form (table (member key value (member other last rest))) e
literal-only (member key value no_members) form e = by (slice_cmp nat_cmp (codes "text") key) refl value e
  where
    key-is : is_eq (slice_cmp nat_cmp (codes "text") key) ≡ true → codes "text" ≡ key
    key-is h = (bytes_eq-Decides (codes "text") key).0 (sym (is_eq-slice_cmp (codes "text") key) ∙ h)

    by : (o : Ordering) → slice_cmp nat_cmp (codes "text") key ≡ o → (value : Data)
        → option_map level.Literal (option_and_then as_str (match_ordering o None (Some value) None)) ≡ Some form → IsOfForm form (table (member key value no_members))
    by Less is value e = cc e
    by Greater is value e = cc e
    by Equal is (string text) e = let same : level.Literal text ≡ form = cc in rw (← same, ← key-is (ap is_eq is)) refl
    by Equal is (integer z) e = cc e
    by Equal is value e = cc e

operation-only : (parts : List Data) (form : WrittenExpr) → operation_of parts ≡ Some form → IsOfForm form (array (items_of parts))
operation-only (string text ∷ left ∷ right ∷ []) form e = by (sign_of text) refl e
  where
    by : (o : Option Sign) → sign_of text ≡ o → option_map (λ sign. level.Operation sign left right) o ≡ Some form → IsOfForm form (array (items_of (string text ∷ left ∷ right ∷ [])))
    by None is e = cc e
    by (Some sign) is e = let same : level.Operation sign left right ≡ form = cc in rw (← same, sign-word text sign is) refl
operation-only _ form e = cc e

-- what has the form of an expression is written so
pub expr-form : (value : Data) (form : WrittenExpr) → expr_form value ≡ Some form → IsOfForm form value
expr-form (integer n) form e = let same : level.Number n ≡ form = cc in rw (← same) refl
expr-form (string text) form e = by (is_reference text) e
  where
    by : (b : Bool) → (if b then Some (level.Reference text) else None) ≡ Some form → IsOfForm form (string text)
    by true e = let same : level.Reference text ≡ form = cc in rw (← same) refl
    by false e = cc e
expr-form (table members) form e = literal-only members form e
expr-form (array parts) form e = rw (items-elements parts) at (operation-only (elements parts) form e)
expr-form _ form e = cc e
