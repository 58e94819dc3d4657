-- Places among entries in order.
use Rattle.std.specs.Prelude.{◌≡◌, List}
use Rattle.std.specs.List.{AllByRecursion}
use Rattle.std.specs.List.Sorted.{IsStrictlySortedBy}
use Rattle.std.specs.Map.{keys_of}
use Rattle.std.specs.declared.cmp.Ordering.TheVariants.{Greater}
use Rattle.wh_pieces.specs.Row.{Row, row_cmp}

-- the rows of entries rise
abbrev pub AreRisingRows : {T : Type 0} → List (Row × T) → Type 0
AreRisingRows es = IsStrictlySortedBy row_cmp (keys_of es)

-- the row is above each of these
abbrev pub IsAbove : {T : Type 0} → Row → List (Row × T) → Type 0
IsAbove row es = AllByRecursion (λ e. row_cmp row e.0 ≡ Greater) es
