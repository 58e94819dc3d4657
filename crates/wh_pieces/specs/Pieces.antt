-- Pieces of entries, one after another.
use Rattle.std.specs.Prelude.{◌≡◌, ℕ, List, [], ◌∷◌, ◌++◌, length, Option, Some, None, filter}
use Rattle.std.specs.Ordering.{is_lt, is_le}
use Rattle.std.specs.List.{AllByRecursion}
use Rattle.std.specs.Map.{lookup, remove_entry}
use Rattle.std.specs.BTreeMap.{insert_entry}
use Rattle.wh_pieces.specs.Row.{Row, row_cmp, is_row}

-- what the entries have for a row, if they have the row
abbrev pub found : {T : Type 0} → Row → List (Row × T) → Option T
found row es = lookup (is_row row) es

-- the entries with this value at the row
abbrev pub with_entry : {T : Type 0} → List (Row × T) → Row → T → List (Row × T)
with_entry es row v = insert_entry row_cmp es row v

-- the entries without the row
abbrev pub without_entry : {T : Type 0} → List (Row × T) → Row → List (Row × T)
without_entry es row = remove_entry (is_row row) es

-- the entries with what is made of the row: this value, or no such row
abbrev pub remade : {T : Type 0} → List (Row × T) → Row → Option T → List (Row × T)
remade es row None = without_entry es row
remade es row (Some v) = with_entry es row v

abbrev pub all_of : {T : Type 0} → List (List (Row × T)) → List (Row × T)
all_of [] = []
all_of (l ∷ ls) = l ++ all_of ls

-- those whose rows are above this one
abbrev pub above : {T : Type 0} → Row → List (Row × T) → List (Row × T)
above row es = filter (λ e. is_lt (row_cmp row e.0)) es

-- those whose rows are this one or above it
abbrev pub from : {T : Type 0} → Row → List (Row × T) → List (Row × T)
from row es = filter (λ e. is_le (row_cmp row e.0)) es

-- each row has this many cells
abbrev pub AreWide : {T : Type 0} → ℕ → List (Row × T) → Type 0
AreWide width es = AllByRecursion (λ e. length e.0 ≡ width) es

-- both lists have the same rows, and each value of the second is made of the one of the first as P says
abbrev pub AreRevalued : {T U : Type 0} → (T → U → Type 0) → List (Row × T) → List (Row × U) → Type 0
AreRevalued P [] [] = Unit {0}
AreRevalued P [] (f ∷ fs) = ⊥
AreRevalued P (e ∷ es) [] = ⊥
AreRevalued P (e ∷ es) (f ∷ fs) = (f.0 ≡ e.0) × P e.1 f.1 × AreRevalued P es fs
