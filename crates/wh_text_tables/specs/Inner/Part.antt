-- What only proofs and private contracts use. A CSV part: its header says what it is, each record below it has a first fault or a value, and the values are folded from the first to the last.
use Rattle.std.specs.Prelude.{◌≡◌, ◌⊎◌, ℕ, ◌+◌, List, [], ◌∷◌, ◌++◌, length, Option, Some, None, Ok, Err}
use Rattle.wh_text.specs.declared.fault.LoadFault.{LoadFault}
use Rattle.wh_text.specs.declared.fault.LoadFault.TheVariants.{Memory}
use Rattle.wh_text_tables.specs.Part.{Scheme, Below, below_header, record_gives, records_give}

-- records below a header of this kind may have this many cells: some header of the kind has
abbrev pub IsWidthOf : {K S : Type 0} → Scheme K S → K → ℕ → Type 0
IsWidthOf scheme kind width = (header : List (List ℕ)) × (scheme.kind_of header ≡ Some kind) × (length header ≡ width)

-- how reading ends at these records, the first of them having this number: they are none, or memory was refused, or the first of them has this fault
abbrev pub EndsBy : {K S : Type 0} → Scheme K S → ℕ → K → S → ℕ → List (List (List ℕ)) → Option LoadFault → Type 0
EndsBy scheme width kind state number rest None = rest ≡ []
EndsBy scheme width kind state number [] (Some fault) = fault ≡ Memory
EndsBy scheme width kind state number (cells ∷ rest) (Some fault) = (fault ≡ Memory) ⊎ (record_gives scheme width kind state number cells ≡ Err fault)

-- the records were taken up to the first that has a fault, and those before it made the new state of the old one
pub record TakenTo {K S : Type 0} (scheme : Scheme K S) (below : Below K) (old new : S) (fault : Option LoadFault) : Type 0 where
  pub before : List (List (List ℕ))
  pub rest : List (List (List ℕ))
  pub parts : below.rows ≡ before ++ rest
  pub made : records_give scheme below.width below.kind 2 old before ≡ Ok new
  pub ends : EndsBy scheme below.width below.kind new (length before + 2) rest fault

-- reading ended at the header, which made nothing of the state
pub record EndsAtHeader {K S : Type 0} (scheme : Scheme K S) (records : List (List (List ℕ))) (old new : S) (fault : Option LoadFault) : Type 0 where
  pub first : LoadFault
  pub is : fault ≡ Some first
  pub why : (first ≡ Memory) ⊎ (below_header scheme records ≡ Err first)
  pub same : new ≡ old

-- the header was read, and reading ended below it
pub record EndsBelow {K S : Type 0} (scheme : Scheme K S) (records : List (List (List ℕ))) (old new : S) (fault : Option LoadFault) : Type 0 where
  pub below : Below K
  pub tells : below_header scheme records ≡ Ok below
  pub taken : TakenTo scheme below old new fault

-- how far the records of a part were read
abbrev pub IsReadTo : {K S : Type 0} → Scheme K S → List (List (List ℕ)) → S → S → Option LoadFault → Type 0
IsReadTo scheme records old new fault = EndsAtHeader scheme records old new fault ⊎ EndsBelow scheme records old new fault
