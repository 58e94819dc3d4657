-- The rows of a view, each with what it counts in the last versions.
use Rattle.std.specs.Prelude.{◌≡◌, ◌⊎◌, ℕ, ◌-◌, ◌==◌, ℤ, pos, ◌≤ℤ◌, Bool, true, false, ◌||◌, cond, List, [], ◌∷◌, Option, Some, None, option_map, map}
use Rattle.std.specs.List.{AllByRecursion}
use Rattle.wh_pieces.specs.Row.{Row, is_row}
use Rattle.wh_pieces.specs.Pieces.{found}
use Rattle.wh_row.specs.Bag.{Bag, empty, set_count}
use Rattle.wh_row.specs.Weigh.{Counted}
use Rattle.wh_versions.specs.Rows.{Pairs, read, with_pair, without_pair, IsUnread, ArePairs}

-- rows in rising order, each with its pairs, and the number of the last night that was begun: it writes the version of this number
pub record ViewRows : Type 0 where
  pub night : ℕ
  pub rows : List (Row × Pairs)

-- a row's pairs, none where the row is not there
abbrev pub slots : ViewRows → Row → Option Pairs
slots t row = found row t.rows

-- a row's pairs, where a row that is not there has an empty list
abbrev pub pairs_in : Option Pairs → Pairs
pairs_in None = []
pairs_in (Some ps) = ps

-- what a row counts in version s
abbrev pub count_at : ViewRows → ℕ → Row → ℤ
count_at t s row = read s (pairs_in (slots t row))

-- the table that version s shows
abbrev pub shown : ℕ → List (Row × Pairs) → Bag
shown s [] = empty
shown s (e ∷ es) = set_count (shown s es) e.0 (read s e.1)

abbrev pub table_at : ViewRows → ℕ → Bag
table_at t s = shown s t.rows

-- the row is one of these
abbrev pub is_given : Row → Counted → Bool
is_given row [] = false
is_given row (e ∷ es) = is_row row e.0 || is_given row es

-- what a row has once it is there, if it is added: no pairs where it was not there
abbrev pub added : Bool → Option Pairs → Option Pairs
added b o = cond b (Some (pairs_in o)) o

-- a row has what it had, or is one of these rows and was added
abbrev pub MayBeAdded : Counted → Row → Option Pairs → Option Pairs → Type 0
MayBeAdded given row old new = (new ≡ old) ⊎ (new ≡ added (is_given row given) old)

-- the newest pair is that of version m
abbrev pub begins_with : ℕ → Pairs → Bool
begins_with m [] = false
begins_with m (p ∷ ps) = p.0 == m

-- one of these rows has no pair of the night that was begun last
pub record IsNewToNight (given : Counted) (t : ViewRows) : Type 0 where
  pub row : Row
  pub is_one : is_given row given ≡ true
  pub lacks : begins_with t.night (pairs_in (slots t row)) ≡ false

-- no count is below zero
abbrev pub HaveCounts : Counted → Type 0
HaveCounts es = AllByRecursion (λ (e : Row × ℤ). pos 0 ≤ℤ e.1) es

-- what a row has once the night m has written these counts, one after another
abbrev pub written : ℕ → ℕ → Counted → Row → Option Pairs → Option Pairs
written n m [] row o = o
written n m (e ∷ es) row o = written n m es row (cond (is_row row e.0) (Some (with_pair n m e.1 (pairs_in o))) o)

-- what a row has once the night m is given up
abbrev pub given_up : ℕ → Option Pairs → Option Pairs
given_up m o = option_map (without_pair m) o

-- what a row has once the night m is begun: nothing if no session of the n - 1 versions before it reads anything, else what it had
pub record IsBegun (n m : ℕ) (old new : Option Pairs) : Type 0 where
  pub dropped : IsUnread (n - 1) m (pairs_in old) → new ≡ None
  pub kept : (IsUnread (n - 1) m (pairs_in old) → ⊥) → new ≡ old

-- the rows of a table as version 0 alone: each with its count
abbrev pub opening : Counted → List (Row × Pairs)
opening es = map (λ e. (e.0, (0, e.1) ∷ [])) es

-- the table in which these rows have these counts, one after another, and all other rows those that they had; a row whose count is 0 has left
abbrev pub with_counts : Bag → Counted → Bag
with_counts table [] = table
with_counts table (e ∷ es) = with_counts (set_count table e.0 e.1) es

-- each row's pairs are kept in form
abbrev pub AreInForm : ℕ → ViewRows → Type 0
AreInForm n t = (row : Row) → ArePairs n t.night (pairs_in (slots t row))
