-- The whole numbers that cells write.
use Rattle.std.specs.Prelude.{ℕ, ℤ, pos, negsuc, ◌^◌, Bool, ◌&&◌, nat_lt, List, length, Option, Some, None, if◌then◌else◌}
use Rattle.std.specs.List.{list_all}
use Rattle.std.specs.Char.{digit_value}
use Rattle.std.specs.Str.Parse.{signed_digits_value, without_leading_sign}

-- one or more decimal digits, and nothing else
abbrev pub are_digits : List ℕ → Bool
are_digits text = nat_lt 0 (length text) && list_all (λ digit. nat_lt (digit_value digit) 10) text

-- the number is one from -2^63 to 2^63 - 1
abbrev pub is_i64 : ℤ → Bool
is_i64 (pos n) = nat_lt n (2 ^ 63)
is_i64 (negsuc n) = nat_lt n (2 ^ 63)

-- the whole number that a cell writes: a plus, a minus or neither, and one or more digits, within i64
unfoldable pub whole_number : List ℕ → Option ℤ
whole_number text =
    if are_digits (without_leading_sign text) && is_i64 (signed_digits_value 10 text) then Some (signed_digits_value 10 text)
    else None
