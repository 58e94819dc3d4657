-- Rows of a bag of which the first is in hand.
use Rattle.std.specs.Prelude.{◌≡◌, ℤ, List, [], ◌∷◌, Option, None, Some}
use Rattle.std.specs.Borrow.{Bor}
use Rattle.wh_row.specs.Lent.{lent}
use Rattle.wh_row.specs.Weigh.{Counted}

-- the row in hand, if there is one, and those behind it
abbrev pub in_hand : Option (Bor (List ℤ) × ℤ) → Counted → Counted
in_hand None rest = rest
in_hand (Some e) rest = lent e ∷ rest

-- where none is in hand there are none
abbrev pub IsFront : Option (Bor (List ℤ) × ℤ) → Counted → Type 0
IsFront None rest = rest ≡ []
IsFront (Some e) rest = Unit {0}
