-- The six comparisons of two numbers.
use Rattle.std.specs.Prelude.{Bool, false, not, ℤ, int_lt, int_le, Option, Some, None}
use Rattle.std.specs.Ordering.{int_eq}
use Rattle.wh_formula.specs.declared.comparison.Comparison.{Comparison}
use Rattle.wh_formula.specs.declared.comparison.Comparison.TheVariants.{Equal, NotEqual, Less, LessOrEqual, Greater, GreaterOrEqual}

-- whether the left number stands in this relation to the right one
abbrev pub compares : Comparison → ℤ → ℤ → Bool
compares Equal a b = int_eq a b
compares NotEqual a b = not (int_eq a b)
compares Less a b = int_lt a b
compares LessOrEqual a b = int_le a b
compares Greater a b = int_lt b a
compares GreaterOrEqual a b = int_le b a

-- whether the left value stands in this relation to the right one; a missing value stands in no relation
abbrev pub compares_values : Comparison → Option ℤ → Option ℤ → Bool
compares_values op None right = false
compares_values op (Some a) None = false
compares_values op (Some a) (Some b) = compares op a b
