-- Signed bags: finite maps from rows to whole numbers that are not zero: what only proofs and private contracts use.
use Rattle.std.specs.Prelude.{◌≡◌, ℕ, refl}
use Rattle.std.specs.Coded.{Coded, code_by, coded⊎, coded_ℕ, coded_ℤ, coded_list}
use Rattle.std.specs.FinMap as fin
use mathlib.Core.Logic.{◌⊎◌, inl, inr}
use Rattle.wh_row.specs.Bag.{NonZero, more, fewer, Bag}

abbrev pub as_parts : NonZero → ℕ ⊎ ℕ
as_parts (more n) = inl n
as_parts (fewer n) = inr n

abbrev pub from_parts : ℕ ⊎ ℕ → NonZero
from_parts (inl n) = more n
from_parts (inr n) = fewer n

pub parts_back : (n : NonZero) → from_parts (as_parts n) ≡ n
parts_back (more n) = refl
parts_back (fewer n) = refl

abbrev pub coded_nonzero : Coded NonZero
coded_nonzero = code_by (ℕ ⊎ ℕ) (coded⊎ coded_ℕ coded_ℕ) as_parts from_parts parts_back

abbrev pub coded_bag : Coded Bag
coded_bag = fin.code (coded_list coded_ℤ) coded_nonzero
