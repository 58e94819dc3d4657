-- A CSV part: its header says what it is, and each record below it has a first fault or a value. The values are folded from the first to
-- the last.
use Rattle.std.specs.Prelude.{ℕ, ◌+◌, List, [], ◌∷◌, length, Option, ok_or, Result, Ok, Err}
pub use Rattle.wh_text.specs.ValueOrFault.{◌>>=◌, or_fault}
use Rattle.wh_text.specs.declared.fault.LoadFault.{LoadFault}
use Rattle.wh_text.specs.declared.fault.LoadFault.TheVariants.{Header}
use Rattle.wh_text_tables.specs.Records.{form_fault, records_of}

-- What parts of one sort say. It is the kind that the cells of a header tell, where they are a header. Below a header of that kind, the
-- cells of a record of this number make of a state the state after it, or something is wrong with them
pub record Scheme (K S : Type 0) : Type 0 where
  pub kind_of : List (List ℕ) → Option K
  pub take : K → S → ℕ → List (List ℕ) → Result S LoadFault

-- what stands below a header: the kind that it tells, how many cells each record has, which is as many as the header, and the records
pub record Below (K : Type 0) : Type 0 where
  pub kind : K
  pub width : ℕ
  pub rows : List (List (List ℕ))

-- the first of all records, the header: its form is judged before its cells
abbrev pub below_header : {K S : Type 0} → Scheme K S → List (List (List ℕ)) → Result (Below K) LoadFault
below_header scheme [] = Err Header
below_header scheme (header ∷ rows) = do
  kind ← or_fault (form_fault (length header) 1 header) (ok_or (scheme.kind_of header) Header)
  Ok (record { kind = kind; width = length header; rows = rows })

-- what a record makes of a state, where records have this many cells: its form is judged before its cells
abbrev pub record_gives : {K S : Type 0} → Scheme K S → ℕ → K → S → ℕ → List (List ℕ) → Result S LoadFault
record_gives scheme width kind state number cells = or_fault (form_fault width number cells) (scheme.take kind state number cells)

-- what records make of a state, one after another up to the first fault; the first of them has this number
unfoldable pub records_give : {K S : Type 0} → Scheme K S → ℕ → K → ℕ → S → List (List (List ℕ)) → Result S LoadFault
records_give scheme width kind number state [] = Ok state
records_give scheme width kind number state (cells ∷ rest) = do
  after ← record_gives scheme width kind state number cells
  records_give scheme width kind (number + 1) after rest

-- what the records of a part make of a state: the header is record 1, and is judged before the others
abbrev pub part_gives : {K S : Type 0} → Scheme K S → S → List (List (List ℕ)) → Result S LoadFault
part_gives scheme state records = do
  below ← below_header scheme records
  records_give scheme below.width below.kind 2 state below.rows

-- what the text of a part makes of a state
abbrev pub part_of : {K S : Type 0} → Scheme K S → S → List ℕ → Result S LoadFault
part_of scheme state text = part_gives scheme state (records_of text)

-- How far a reader came.
