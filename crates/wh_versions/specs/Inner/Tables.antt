-- What only proofs and private contracts use. What holds of a view's rows and of the rows that the last nights touched.
use Rattle.std.specs.Prelude.{◌≡◌, ◌≢◌, ◌⊎◌, ℕ, ◌+◌, ◌-◌, ◌<◌, ◌≤◌, pos, Bool, true, false, List, [], ◌∷◌, length, slice_index_or, Option, Some, None, is_some, cond, refl}
use Rattle.std.specs.Coded.{Coded, code_by, coded×, coded_ℕ, coded_ℤ, coded_list}
use Rattle.wh_pieces.specs.Row.{Row}
use Rattle.wh_pieces.specs.Pieces.{found}
use Rattle.wh_versions.specs.Rows.{Pairs, read, ArePairs, is_unread}
use Rattle.wh_versions.specs.Inner.Rows.{coded_pairs}
use Rattle.wh_row.specs.Weigh.{Counted}
use Rattle.wh_versions.specs.Tables.{ViewRows, MayBeAdded, added, is_given}

-- a set of rows
abbrev pub Touched : Type 0
Touched = List (Row × Unit {0})

abbrev pub is_in : Row → Touched → Bool
is_in row set = is_some (found row set)

-- the rows that a night touched, by how many nights lie between it and the first of these
abbrev pub set_at : List Touched → ℕ → Touched
set_at sets place = slice_index_or sets place []

-- a change of what a set's rows have
abbrev pub for_touched : {A : Type 0} → (Option A → Option A) → Option (Unit {0}) → Option A → Option A
for_touched f None o = o
for_touched f (Some u) o = f o

-- what a row has once the night m is begun, as a test decides it
abbrev pub begun : ℕ → ℕ → Option Pairs → Option Pairs
begun n m None = None
begun n m (Some ps) = cond (is_unread (n - 1) m ps) None (Some ps)

-- one of the pairs has this number
abbrev pub HasNumber : ℕ → Pairs → Type 0
HasNumber k [] = ⊥
HasNumber k (p ∷ ps) = (p.0 ≡ k) ⊎ HasNumber k ps

-- some session of the last n versions up to m reads the row
pub record IsRead (n m : ℕ) (ps : Pairs) : Type 0 where
  pub session : ℕ
  pub low : session ≤ m
  pub high : m ≤ session + (n - 1)
  pub some : read session ps ≢ pos 0

-- what holds of a row, where these are the rows that the last nights touched: a night that wrote a pair touched it, and the last one did or some session reads it
pub record IsListed (n m : ℕ) (sets : List Touched) (row : Row) (ps : Pairs) : Type 0 where
  pub pairs : ArePairs n m ps
  pub writers : (k place : ℕ) → 0 < k → m + place ≡ k + (n - 2) → HasNumber k ps → is_in row (set_at sets place) ≡ true
  pub reached : (is_in row (set_at sets (n - 2)) ≡ true) ⊎ IsRead n m ps

pub record AreKept (n m : ℕ) (rows : List (Row × Pairs)) (sets : List Touched) : Type 0 where
  pub enough : 2 ≤ n
  pub few : n ≤ 4
  pub all : length sets ≡ n - 1
  pub listed : (row : Row) (ps : Pairs) → found row rows ≡ Some ps → IsListed n m sets row ps

-- what stands once these rows are added, and touched
pub record AreAdded (given : Counted) (old new : List (Row × Pairs)) (set : Touched) : Type 0 where
  pub rows : (row : Row) → found row new ≡ added (is_given row given) (found row old)
  pub touched : (row : Row) → is_given row given ≡ true → is_in row set ≡ true

-- or some of them
pub record AreSafe (given : Counted) (old new : List (Row × Pairs)) (set : Touched) : Type 0 where
  pub rows : (row : Row) → MayBeAdded given row (found row old) (found row new)
  pub touched : (row : Row) → (found row new ≡ found row old) ⊎ (is_in row set ≡ true)

-- one of these rows is not there, or not touched
pub record IsNew (given : Counted) (rows : List (Row × Pairs)) (set : Touched) : Type 0 where
  pub row : Row
  pub is_one : is_given row given ≡ true
  pub lacks : (found row rows ≡ None) ⊎ (is_in row set ≡ false)

abbrev pub coded_view_rows : Coded ViewRows
coded_view_rows = code_by (ℕ × List (Row × Pairs)) (coded× coded_ℕ (coded_list (coded× (coded_list coded_ℤ) coded_pairs))) (λ t. (t.night, t.rows)) (λ p. record { night = p.0; rows = p.1 }) (λ _. refl)
