-- An expression over the cells of a row: its value, its columns, its levels.
use Rattle.std.specs.Prelude.{ℕ, ◌+◌, max, nat_lt, Bool, true, ◌&&◌, if◌then◌else◌, List, ℤ, pos, negsuc, int_le, ◌+ℤ◌, ◌-ℤ◌, ◌*ℤ◌, slice_index_or, Option, Some, None}

-- what an `Expr` is seen as
pub data ExprTree : Type 0 where
  Column : ℕ → ExprTree
  Number : ℤ → ExprTree
  Add : ExprTree → ExprTree → ExprTree
  Sub : ExprTree → ExprTree → ExprTree
  Mul : ExprTree → ExprTree → ExprTree

-- the expression is a sum, a difference or a product
abbrev pub HasParts : ExprTree → Type 0
HasParts (Column place) = ⊥
HasParts (Number n) = ⊥
HasParts (Add a b) = Unit {0}
HasParts (Sub a b) = Unit {0}
HasParts (Mul a b) = Unit {0}

-- how many levels an expression has
abbrev pub depth : ExprTree → ℕ
depth (Column place) = 1
depth (Number n) = 1
depth (Add a b) = max (depth a) (depth b) + 1
depth (Sub a b) = max (depth a) (depth b) + 1
depth (Mul a b) = max (depth a) (depth b) + 1

-- each column lies in a row of that width
abbrev pub fits : ℕ → ExprTree → Bool
fits width (Column place) = nat_lt place width
fits width (Number n) = true
fits width (Add a b) = fits width a && fits width b
fits width (Sub a b) = fits width a && fits width b
fits width (Mul a b) = fits width a && fits width b

-- the number that an expression stands for at a row, where a sum, a difference or a product may have any size
abbrev pub number : List ℤ → ExprTree → ℤ
number row (Column place) = slice_index_or row place (pos 0)
number row (Number n) = n
number row (Add a b) = number row a +ℤ number row b
number row (Sub a b) = number row a -ℤ number row b
number row (Mul a b) = number row a *ℤ number row b

-- the number lies within i64
abbrev pub is_i64 : ℤ → Bool
is_i64 z = int_le (negsuc 9223372036854775807) z && int_le z (pos 9223372036854775807)

-- no node has a number outside i64; a cell and a constant have none
abbrev pub stays_in_i64 : List ℤ → ExprTree → Bool
stays_in_i64 row (Column place) = true
stays_in_i64 row (Number n) = true
stays_in_i64 row (Add a b) = stays_in_i64 row a && stays_in_i64 row b && is_i64 (number row (Add a b))
stays_in_i64 row (Sub a b) = stays_in_i64 row a && stays_in_i64 row b && is_i64 (number row (Sub a b))
stays_in_i64 row (Mul a b) = stays_in_i64 row a && stays_in_i64 row b && is_i64 (number row (Mul a b))

-- the value of an expression at a row: the number that it stands for, and none where that of any node leaves i64
abbrev pub value : List ℤ → ExprTree → Option ℤ
value row e = if stays_in_i64 row e then Some (number row e) else None
