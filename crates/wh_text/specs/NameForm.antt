-- The form of a name: of a view, and of a column.
use Rattle.std.specs.Prelude.{ℕ, List, [], ◌∷◌, length, Bool, false, ◌==◌, ◌&&◌, ◌||◌, nat_le}
use Rattle.std.specs.Char.{is_ascii_alphabetic, is_ascii_alphanumeric}
use Rattle.std.specs.List.{list_all}

-- the underscore
abbrev pub underscore : ℕ
underscore = 95

-- a byte that a name may begin with: a letter or an underscore
abbrev pub begins_name : ℕ → Bool
begins_name byte = is_ascii_alphabetic byte || byte == underscore

-- a byte that a name may go on with: a letter, a digit or an underscore
abbrev pub continues_name : ℕ → Bool
continues_name byte = is_ascii_alphanumeric byte || byte == underscore

-- a name has 1 to 64 bytes: a letter or an underscore, then letters, digits and underscores, all of them ASCII
unfoldable pub is_name : List ℕ → Bool
is_name [] = false
is_name (first ∷ rest) = begins_name first && list_all continues_name rest && nat_le (length (first ∷ rest)) 64
