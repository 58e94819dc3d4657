-- What only proofs and private contracts use. Pairs as they are stored, in places side by side.
use Rattle.std.specs.Prelude.{◌≡◌, ℕ, zero, suc, ℤ, pos, negsuc, ◌≤ℤ◌, int_le, ◌&&◌, ◌==◌, Bool, false, cond, List, [], ◌∷◌}
use Rattle.std.specs.Coded.{Coded, coded×, coded_ℕ, coded_ℤ, coded_list}
use Rattle.std.specs.List.{AllByRecursion}
use Rattle.wh_versions.specs.Rows.{Pairs}

-- the pairs in places, up to the first whose count is below zero
abbrev pub pairs_of : List ℕ → List ℤ → Pairs
pairs_of [] cs = []
pairs_of (n ∷ ns) [] = []
pairs_of (n ∷ ns) (c ∷ cs) = cond (int_le (pos 0) c) ((n, c) ∷ pairs_of ns cs) []

-- the numbers and the counts of so many places that have these pairs
abbrev pub numbers_of : ℕ → Pairs → List ℕ
numbers_of zero ps = []
numbers_of (suc n) [] = 0 ∷ numbers_of n []
numbers_of (suc n) (p ∷ ps) = p.0 ∷ numbers_of n ps

abbrev pub counts_of : ℕ → Pairs → List ℤ
counts_of zero ps = []
counts_of (suc n) [] = negsuc 0 ∷ counts_of n []
counts_of (suc n) (p ∷ ps) = p.1 ∷ counts_of n ps

-- the places have pairs, and behind them nothing
pub record AreStored (n : ℕ) (ns : List ℕ) (cs : List ℤ) : Type 0 where
  pub numbers : numbers_of n (pairs_of ns cs) ≡ ns
  pub counts : counts_of n (pairs_of ns cs) ≡ cs

-- no count is below zero
abbrev pub AreCounts : Pairs → Type 0
AreCounts ps = AllByRecursion (λ (p : ℕ × ℤ). pos 0 ≤ℤ p.1) ps

abbrev pub coded_pairs : Coded Pairs
coded_pairs = coded_list (coded× coded_ℕ coded_ℤ)

-- whether the first place has the pair of this version
abbrev pub BeginsWith : ℕ → List ℕ → List ℤ → Bool → Type 0
BeginsWith m [] cs b = b ≡ false
BeginsWith m (n ∷ ns) [] b = b ≡ false
BeginsWith m (n ∷ ns) (c ∷ cs) b = b ≡ (int_le (pos 0) c && n == m)
