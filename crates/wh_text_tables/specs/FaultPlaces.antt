-- What is wrong with the records of a CSV part, each fault by itself and at its place. A place is the number of the record, counted from 1
-- with the header, and which of the record's judgements finds it.
use Rattle.std.specs.Prelude.{◌≡◌, ℕ, ◌+◌, not, List, [], ◌∷◌, length, take, slice_get, Option, Some, is_some}
use Rattle.wh_text.specs.FirstFault.{Finds, Place, fault_if}
use Rattle.wh_text.specs.declared.fault.LoadFault.{LoadFault}
use Rattle.wh_text.specs.declared.fault.LoadFault.TheVariants.{Header}
use Rattle.wh_text_tables.specs.Records.{form_fault}

-- the cells of a record
abbrev pub Cells : Type 0
Cells = List (List ℕ)

-- What the records of one sort of parts are: the kind that a header tells, where its cells are one, and what is judged of a record below
-- it. The record has this number and stands below these rows, and its judgements come one after another
pub record Judging (K : Type 0) : Type 0 where
  pub kind_of : Cells → Option K
  pub judged : K → List Cells → ℕ → Cells → List (Option LoadFault)

-- what is judged of a header: its form, and whether it is one
abbrev pub header_judged : {K : Type 0} → Judging K → Cells → List (Option LoadFault)
header_judged judging header = form_fault (length header) 1 header ∷ fault_if (not (is_some (judging.kind_of header))) Header ∷ []

-- what is judged of a record below a header: its form, and then its cells
abbrev pub record_judged : {K : Type 0} → Judging K → K → ℕ → List Cells → ℕ → Cells → List (Option LoadFault)
record_judged judging kind width above number cells = form_fault width number cells ∷ judging.judged kind above number cells

-- what is wrong with these records
pub data PartWrong {K : Type 0} (judging : Judging K) (records : List Cells) (place : Place) (fault : LoadFault) : Type 0 where
  -- there is no header
  no_header : records ≡ [] → fault ≡ Header → place ≡ 1 ∷ 1 ∷ [] → PartWrong judging records place fault
  -- the header
  in_header : (header : Cells) (rows : List Cells) (judgement : ℕ) → records ≡ header ∷ rows → Finds (header_judged judging header) judgement fault
      → place ≡ 1 ∷ judgement ∷ [] → PartWrong judging records place fault
  -- a record below a header, with so many above it
  in_record : (header : Cells) (rows : List Cells) (kind : K) (above : ℕ) (cells : Cells) (judgement : ℕ) → records ≡ header ∷ rows → judging.kind_of header ≡ Some kind
      → slice_get rows above ≡ Some cells → Finds (record_judged judging kind (length header) (take above rows) (above + 2) cells) judgement fault
      → place ≡ (above + 2) ∷ judgement ∷ [] → PartWrong judging records place fault
