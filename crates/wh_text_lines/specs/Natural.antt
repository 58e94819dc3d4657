-- The natural numbers that words write.
use Rattle.std.specs.Prelude.{ℕ, ◌^◌, ◌&&◌, nat_le, nat_lt, List, Option, Some, None, option_and_then, if◌then◌else◌}
use Rattle.std.specs.Str.Parse.{digits_value}
use Rattle.wh_text.specs.WholeNumber.{are_digits}

-- the number that a word writes: one or more digits and nothing else, below 2^128
unfoldable pub natural : List ℕ → Option ℕ
natural word = if are_digits word && nat_lt (digits_value 10 word) (2 ^ 128) then Some (digits_value 10 word) else None

-- the number, where it is from low to high
abbrev pub if_within : ℕ → ℕ → ℕ → Option ℕ
if_within low high number = if nat_le low number && nat_le number high then Some number else None

-- the number that a word writes, where it is from low to high
abbrev pub number_within : ℕ → ℕ → List ℕ → Option ℕ
number_within low high word = option_and_then (if_within low high) (natural word)
