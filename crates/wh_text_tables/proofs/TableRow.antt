-- The cells of one record.
use Rattle.std.proofs.Math.Seq.{drop-cons}
use Rattle.std.proofs.Common.{◌≡◌, ◌<◌, ℕ, suc, ◌+◌, ℤ, pos, List, [], ◌∷◌, ◌++◌, length, drop, Option, Some, None, get_or, ◌≤◌, ◌⊎◌, inl, inr, refl, sym, ap, ◌∙◌, arith, append_assoc}
use Rattle.std.specs.Prelude.{option_and_then, option_map}
use Rattle.wh_row.specs.Row.{Row}
use Rattle.std.proofs.lemmas.List.{append-nil, drop_all}
use Rattle.wh_text.specs.Dict.{with_texts}
use Rattle.wh_text.specs.Inner.Dict.{BeginsWith}
use Rattle.wh_text.specs.Columns.{NamedKind, kinds_of}
use Rattle.wh_text.specs.declared.columns.Kind.{Kind}
use Rattle.wh_text.specs.declared.columns.Kind.TheVariants.{Int, Text}
use Rattle.wh_text.specs.declared.fault.LoadFault.{LoadFault}
use Rattle.wh_text.specs.declared.fault.LoadFault.TheVariants.{Memory, Number}
use Rattle.wh_text.proofs.DictGrowth.{begins-same, begins-texts, begins-trans, number-kept, with_texts-append}
use Rattle.wh_text_tables.specs.Records.{cell}
use Rattle.wh_text_tables.specs.TableText.{cell_number, row_of, text_in, texts_in_row}

-- the next cell and those after it
pub cells-next : (cells : List (List ℕ)) (from place : ℕ) → from + place < length cells → drop (from + place) cells ≡ cell cells (from + place) ∷ drop (from + (place + 1)) cells
cells-next cells from place below = drop-cons cells (from + place) [] below ∙ (let e : suc (from + place) ≡ from + (place + 1) = omega arith in ap (λ n. cell cells (from + place) ∷ drop n cells) e)

-- the next column and those after it
pub kinds-next : (columns : List NamedKind) (place : ℕ) (column : NamedKind) → column ≡ get_or columns place column → place < length columns → kinds_of (drop place columns) ≡ column.kind ∷ kinds_of (drop (place + 1) columns)
kinds-next columns place column is below =
    ap kinds_of (drop-cons columns place column below) ∙ ap (λ (c : NamedKind). c.kind ∷ kinds_of (drop (suc place) columns)) (sym is) ∙ (let e : suc place ≡ place + 1 = omega arith in ap (λ n. column.kind ∷ kinds_of (drop n columns)) e)

-- a cell keeps its number while the dictionary grows
pub cell_number-kept : (texts more : List (List ℕ)) (kind : Kind) (text : List ℕ) (n : ℤ) → cell_number texts kind text ≡ Some n → cell_number (with_texts (with_texts texts (text_in kind text)) more) kind text ≡ Some n
unfolding with_texts
cell_number-kept texts more Int text n is = is
cell_number-kept texts more Text text n is = ap (λ k. Some (pos k)) (number-kept texts more text) ∙ is

joined : (row : Row) (n : ℤ) (o : Option Row) → option_map (λ rest. row ++ rest) (option_map (λ rest. n ∷ rest) o) ≡ option_map (λ rest. (row ++ n ∷ []) ++ rest) o
joined row n None = refl
joined row n (Some rest) = ap Some (sym (append_assoc row (n ∷ []) rest))

-- one cell more
pub row_of-next : (whole : List (List ℕ) → Option Row) (texts more : List (List ℕ)) (kind : Kind) (kinds : List Kind) (text : List ℕ) (cells : List (List ℕ)) (row : Row) (n : ℤ)
    → ((rest : List (List ℕ)) → whole (with_texts texts rest) ≡ option_map (λ r. row ++ r) (row_of (with_texts texts rest) (kind ∷ kinds) (text ∷ cells)))
    → cell_number texts kind text ≡ Some n
    → whole (with_texts (with_texts texts (text_in kind text)) more) ≡ option_map (λ r. (row ++ n ∷ []) ++ r) (row_of (with_texts (with_texts texts (text_in kind text)) more) kinds cells)
unfolding row_of
row_of-next whole texts more kind kinds text cells row n so_far is =
    let all = with_texts (with_texts texts (text_in kind text)) more in
    let same = with_texts-append texts (text_in kind text) more in
    ap whole (sym same) ∙ so_far (text_in kind text ++ more)
    ∙ ap (λ t. option_map (λ r. row ++ r) (row_of t (kind ∷ kinds) (text ∷ cells))) same
    ∙ ap (λ o. option_map (λ r. row ++ r) (option_and_then (λ number. option_map (λ rest. number ∷ rest) (row_of all kinds cells)) o)) (cell_number-kept texts more kind text n is)
    ∙ joined row n (row_of all kinds cells)

-- a row with such a cell is none
pub row_of-fails : (texts : List (List ℕ)) (kind : Kind) (kinds : List Kind) (text : List ℕ) (cells : List (List ℕ)) → cell_number texts kind text ≡ None → row_of texts (kind ∷ kinds) (text ∷ cells) ≡ None
unfolding row_of
row_of-fails texts kind kinds text cells is = rw is refl

-- a row is none where the rest of its cells are none
pub row_of-later : (texts : List (List ℕ)) (kind : Kind) (kinds : List Kind) (text : List ℕ) (cells : List (List ℕ)) → row_of texts kinds cells ≡ None → row_of texts (kind ∷ kinds) (text ∷ cells) ≡ None
unfolding row_of
row_of-later texts kind kinds text cells is = by (cell_number texts kind text)
  where
    by : (o : Option ℤ) → option_and_then (λ number. option_map (λ rest. number ∷ rest) (row_of texts kinds cells)) o ≡ None
    by None = refl
    by (Some n) = rw is refl

-- how far the cells of a record have been read: this many columns, of all
pub record IsReadTo (kinds left : List Kind) (cells rest : List (List ℕ)) (old texts : List (List ℕ)) (row : Row) : Type 0 where
  pub more : (later : List (List ℕ)) → row_of (with_texts texts later) kinds cells ≡ option_map (λ r. row ++ r) (row_of (with_texts texts later) left rest)
  pub none : (all : List (List ℕ)) → row_of all left rest ≡ None → row_of all kinds cells ≡ None
  pub numbered : with_texts old (texts_in_row kinds cells) ≡ with_texts texts (texts_in_row left rest)
  pub begins : BeginsWith old texts

-- before any cell
pub IsReadTo-start : (kinds : List Kind) (cells : List (List ℕ)) (texts : List (List ℕ)) → IsReadTo kinds kinds cells cells texts texts []
IsReadTo-start kinds cells texts = record {
  more = λ later. start (row_of (with_texts texts later) kinds cells);
  none = λ all e. e;
  numbered = refl;
  begins = begins-same texts;
}
  where
    start : (o : Option Row) → o ≡ option_map (λ r. r) o
    start None = refl
    start (Some row) = refl

-- one cell more
pub IsReadTo-next : (kinds left : List Kind) (kind : Kind) (cells rest : List (List ℕ)) (text : List ℕ) (old texts new : List (List ℕ)) (row : Row) (n : ℤ)
    → IsReadTo kinds (kind ∷ left) cells (text ∷ rest) old texts row → cell_number texts kind text ≡ Some n → new ≡ with_texts texts (text_in kind text)
    → IsReadTo kinds left cells rest old new (row ++ n ∷ [])
unfolding texts_in_row
IsReadTo-next kinds left kind cells rest text old texts new row n is number grown = rw grown (record {
  more = λ later. row_of-next (λ all. row_of all kinds cells) texts later kind left text rest row n is.more number;
  none = λ all e. is.none all (row_of-later all kind left text rest e);
  numbered = is.numbered ∙ with_texts-append texts (text_in kind text) (texts_in_row left rest);
  begins = begins-trans old texts _ is.begins (begins-texts texts (text_in kind text));
})

-- all cells
pub IsReadTo-row : (kinds : List Kind) (cells rest : List (List ℕ)) (old texts : List (List ℕ)) (row : Row) → IsReadTo kinds [] cells rest old texts row
    → (later : List (List ℕ)) → row_of (with_texts texts later) kinds cells ≡ Some row
unfolding row_of
IsReadTo-row kinds cells rest old texts row is later = is.more later ∙ ap Some (append-nil row)

pub IsReadTo-texts : (kinds : List Kind) (cells rest : List (List ℕ)) (old texts : List (List ℕ)) (row : Row) → IsReadTo kinds [] cells rest old texts row
    → texts ≡ with_texts old (texts_in_row kinds cells)
unfolding texts_in_row with_texts
IsReadTo-texts kinds cells rest old texts row is = sym is.numbered

-- the next column and its cell
pub IsReadTo-cons : (columns : List NamedKind) (cells : List (List ℕ)) (from place : ℕ) (column : NamedKind) (old texts : List (List ℕ)) (row : Row)
    → column ≡ get_or columns place column → place < length columns → from + place < length cells
    → IsReadTo (kinds_of columns) (kinds_of (drop place columns)) (drop from cells) (drop (from + place) cells) old texts row
    → IsReadTo (kinds_of columns) (column.kind ∷ kinds_of (drop (place + 1) columns)) (drop from cells) (cell cells (from + place) ∷ drop (from + (place + 1)) cells) old texts row
IsReadTo-cons columns cells from place column old texts row is below within read = rw (← kinds-next columns place column is below, ← cells-next cells from place within) read

-- past the last column
pub IsReadTo-end : (columns : List NamedKind) (cells : List (List ℕ)) (from place : ℕ) (old texts : List (List ℕ)) (row : Row) → length columns ≤ place
    → IsReadTo (kinds_of columns) (kinds_of (drop place columns)) (drop from cells) (drop (from + place) cells) old texts row
    → IsReadTo (kinds_of columns) [] (drop from cells) (drop (from + place) cells) old texts row
IsReadTo-end columns cells from place old texts row past read = rw (ap kinds_of (drop_all place columns past)) at read

-- a cell that is refused
pub row-refused : (kinds left : List Kind) (kind : Kind) (cells rest : List (List ℕ)) (text : List ℕ) (old texts : List (List ℕ)) (row : Row) (number : ℕ) (f : LoadFault)
    → IsReadTo kinds (kind ∷ left) cells (text ∷ rest) old texts row
    → (f ≡ Memory) ⊎ ((f ≡ Number number) × ((all : List (List ℕ)) → cell_number all kind text ≡ None))
    → (f ≡ Memory) ⊎ ((f ≡ Number number) × ((all : List (List ℕ)) → row_of all kinds cells ≡ None))
row-refused kinds left kind cells rest text old texts row number f is (inl e) = inl e
row-refused kinds left kind cells rest text old texts row number f is (inr bad) = inr (bad.0, λ all. is.none all (row_of-fails all kind left text rest (bad.1 all)))
