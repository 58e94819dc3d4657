-- What only proofs and private contracts use. A part of rows that is read in pieces: each as if no text had a number yet, and then with the numbers of one dictionary.
use Rattle.std.specs.Prelude.{◌≡◌, ◌&&◌, ◌==◌, ℕ, ℤ, pos, true, List, [], ◌∷◌, ◌++◌, length, slice_get, Some, Ok, flat_map, ⊤}
use denote.Ref.{Bor}
use Rattle.std.specs.List.{AllZip, list_all}
use Rattle.std.specs.Str.{is_utf8}
use Rattle.wh_row.specs.Bag.{Bag, bag_of}
use Rattle.wh_row.specs.Records.{EachSumFits, joined}
use Rattle.wh_row.specs.Row.{Row}
use Rattle.wh_row.specs.Weigh.{Counted}
use Rattle.wh_text.specs.Columns.{NamedKind, kinds_of}
use Rattle.wh_text.specs.Dict.{HasText, number_of_text, with_texts}
use Rattle.wh_text.specs.declared.columns.Kind.{Kind}
use Rattle.wh_text.specs.declared.columns.Kind.TheVariants as of_kind
use Rattle.wh_text_tables.specs.Part.{Below, below_header}
use Rattle.wh_text_tables.specs.Records.{records_of}
use Rattle.wh_text_tables.specs.TableText.{entry_of, row_cells, texts_in_row}
use Rattle.wh_text_tables.specs.Inner.TableText.{entry_scheme}
use Rattle.wh_text_tables.specs.declared.table.header.Content.{Content}
use Rattle.wh_text_tables.specs.declared.table.header.Counting.{Counting}
use Rattle.wh_text_tables.specs.declared.table.renumbered.Numbered.{Numbered}
use Rattle.wh_text_tables.specs.declared.table.rows.RowsRead.{RowsRead}

-- ---- what records give by themselves

-- the texts of these records' rows
unfoldable pub texts_in : Counting → List Kind → List (List (List ℕ)) → List (List ℕ)
texts_in count kinds [] = []
texts_in count kinds (cells ∷ rest) = texts_in_row kinds (row_cells count cells) ++ texts_in count kinds rest

-- a record has a form that is none of a fault: its cells are UTF-8, and they are so many
abbrev pub IsFormed : ℕ → List (List ℕ) → Type 0
IsFormed width cells = (list_all is_utf8 cells && (length cells == width)) ≡ true

unfoldable pub AreFormed : ℕ → List (List (List ℕ)) → Type 0
AreFormed width [] = ⊤
AreFormed width (cells ∷ rest) = IsFormed width cells × AreFormed width rest

-- these are the entries of the records, by the numbers that texts have among these
unfoldable pub AreEntries : Counting → List Kind → List (List ℕ) → List (List (List ℕ)) → Counted → Type 0
AreEntries count kinds texts [] entries = entries ≡ []
AreEntries count kinds texts (cells ∷ rest) [] = ⊥
AreEntries count kinds texts (cells ∷ rest) (entry ∷ entries) = (entry_of count texts kinds cells ≡ Some entry) × AreEntries count kinds texts rest entries

-- what these records of a width give as if no text had a number yet: their texts, and their entries by these
pub record IsPieceRead (count : Counting) (kinds : List Kind) (width : ℕ) (rows : List (List (List ℕ))) (texts : List (List ℕ)) (entries : Counted) : Type 0 where
  pub formed : AreFormed width rows
  pub numbered : texts ≡ with_texts [] (texts_in count kinds rows)
  pub each : AreEntries count kinds texts rows entries

-- the records below a header, read in pieces: of each piece of their text, one behind the other, what its records give
pub record IsReadAlone (content : Content) (columns : List NamedKind) (records : List (List (List ℕ))) (pieces : List RowsRead) : Type 0 where
  pub below : Below Counting
  pub tells : below_header (entry_scheme content columns) records ≡ Ok below
  pub texts : List (Bor (List ℕ))
  pub follow : below.rows ≡ flat_map (λ text. records_of text.now) texts
  pub each : AllZip (λ text read. IsPieceRead below.kind (kinds_of columns) below.width (records_of text.now) read.dict read.counted) texts pieces

-- all texts of pieces, those of a piece behind those of the piece before
abbrev pub all_texts : List RowsRead → List (List ℕ)
all_texts pieces = flat_map (λ read. read.dict) pieces

-- ---- the numbers of one dictionary

-- these are the numbers, in a dictionary, of texts
abbrev pub AreNumbers : List (List ℕ) → List (List ℕ) → List ℤ → Type 0
AreNumbers dict texts numbers = (text : List ℕ) → HasText texts text → slice_get numbers (number_of_text texts text) ≡ Some (pos (number_of_text dict text))

-- these are the records of what was read, with the numbers of its texts in a dictionary
abbrev pub IsNumbered : List (List ℕ) → RowsRead → Numbered → Type 0
IsNumbered dict read own = (own.records ≡ read.counted) × AreNumbers dict read.dict own.numbers.items

-- a cell of a kind, once its text has the number of a dictionary for that among these texts
abbrev pub IsCellRenumbered : Kind → List (List ℕ) → List (List ℕ) → ℤ → ℤ → Type 0
IsCellRenumbered of_kind.Int dict texts cell other = other ≡ cell
IsCellRenumbered of_kind.Text dict texts cell other = (text : List ℕ) → HasText texts text → pos (number_of_text texts text) ≡ cell → other ≡ pos (number_of_text dict text)

-- the same of a row, and of entries
unfoldable pub IsRenumbered : List Kind → List (List ℕ) → List (List ℕ) → Row → Row → Type 0
IsRenumbered [] dict texts row other = other ≡ row
IsRenumbered (kind ∷ kinds) dict texts [] other = other ≡ []
IsRenumbered (kind ∷ kinds) dict texts (cell ∷ row) [] = ⊥
IsRenumbered (kind ∷ kinds) dict texts (cell ∷ row) (own ∷ other) = IsCellRenumbered kind dict texts cell own × IsRenumbered kinds dict texts row other

unfoldable pub IsPartRenumbered : List Kind → List (List ℕ) → List (List ℕ) → Counted → Counted → Type 0
IsPartRenumbered kinds dict texts [] others = others ≡ []
IsPartRenumbered kinds dict texts (entry ∷ entries) [] = ⊥
IsPartRenumbered kinds dict texts (entry ∷ entries) (own ∷ others) = (own.1 ≡ entry.1) × IsRenumbered kinds dict texts entry.0 own.0 × IsPartRenumbered kinds dict texts entries others

-- the same of entries whose texts have these numbers in some dictionary
abbrev pub IsRenumberedBy : List Kind → Numbered → Counted → Type 0
IsRenumberedBy kinds own other = (dict texts : List (List ℕ)) → AreNumbers dict texts own.numbers.items → IsPartRenumbered kinds dict texts own.records other

-- no cell is a text
unfoldable pub AreWholeNumbers : List Kind → Type 0
AreWholeNumbers [] = ⊤
AreWholeNumbers (of_kind.Int ∷ kinds) = AreWholeNumbers kinds
AreWholeNumbers (of_kind.Text ∷ kinds) = ⊥

-- the bag that the entries of pieces add up to by the numbers of a dictionary
pub record IsBagOf (kinds : List Kind) (dict : List (List ℕ)) (pieces : List RowsRead) (bag : Bag) : Type 0 where
  pub entries : List Counted
  pub renumbered : AllZip (λ read own. IsPartRenumbered kinds dict read.dict read.counted own) pieces entries
  pub fits : EachSumFits (joined entries)
  pub is : bag ≡ bag_of (joined entries)
