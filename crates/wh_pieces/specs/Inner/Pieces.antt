-- Pieces of entries, one after another: what only proofs and private contracts use.
use Rattle.std.specs.Prelude.{◌≡◌, ℕ, suc, ◌<◌, ◌^◌, List, [], ◌∷◌, ◌++◌, take, drop, length, slice_index_or}
use Rattle.std.specs.List.{AllByRecursion}
use Rattle.wh_pieces.specs.Row.{Row}
use Rattle.wh_pieces.specs.Place.{AreRisingRows, IsAbove}
use Rattle.wh_pieces.specs.Inner.Place.{IsBelowFirst}
use Rattle.wh_pieces.specs.Pieces.{all_of}

abbrev pub AreNotEmpty : {T : Type 0} → List (List (Row × T)) → Type 0
AreNotEmpty ls = AllByRecursion (λ l. 0 < length l) ls

-- the rows of all pieces rise, and no piece is empty
pub record ArePieces {T : Type 0} (ls : List (List (Row × T))) : Type 0 where
  pub rising : AreRisingRows (all_of ls)
  pub some : AreNotEmpty ls

-- the number of entries is kept, and small
pub record AreCounted {T : Type 0} (ls : List (List (Row × T))) (count : ℕ) : Type 0 where
  pub pieces : ArePieces ls
  pub exact : count ≡ length (all_of ls)
  pub small : count < 2 ^ 63

-- the piece in which a row stands or would go
pub record IsPieceFor {T : Type 0} (row : Row) (ls : List (List (Row × T))) (place : ℕ) : Type 0 where
  pub within : place < length ls
  pub above : IsAbove row (all_of (take place ls))
  pub below : IsBelowFirst row (all_of (drop (suc place) ls))

abbrev pub piece_at : {T : Type 0} → List (List (Row × T)) → ℕ → List (Row × T)
piece_at ls place = slice_index_or ls place []

-- the entries before a place in a piece, and those from there on
abbrev pub before : {T : Type 0} → List (List (Row × T)) → ℕ → ℕ → List (Row × T)
before ls nth place = all_of (take nth ls) ++ take place (piece_at ls nth)

abbrev pub after : {T : Type 0} → List (List (Row × T)) → ℕ → ℕ → List (Row × T)
after ls nth place = drop place (piece_at ls nth) ++ all_of (drop (suc nth) ls)

-- entries begin at this place of the first piece, and have some entry there, if there is a piece
abbrev pub BeginsAt : {T : Type 0} → List (List (Row × T)) → ℕ → Type 0
BeginsAt [] place = place ≡ 0
BeginsAt (x ∷ xs) place = (place < length x) × AreNotEmpty xs

-- each value is made of the one at its place as P says
abbrev pub AreMade : {T U : Type 0} → (T → U → Type 0) → List T → List U → Type 0
AreMade P [] [] = Unit {0}
AreMade P [] (u ∷ us) = ⊥
AreMade P (t ∷ ts) [] = ⊥
AreMade P (t ∷ ts) (u ∷ us) = P t u × AreMade P ts us
