-- What a row counts in the last versions.
use Rattle.std.specs.Prelude.{◌≡◌, ℕ, zero, suc, ◌+◌, ◌-◌, ◌<◌, ◌≤◌, ◌==◌, ℤ, pos, nat_le, Bool, true, ◌&&◌, cond, List, [], ◌∷◌, take, length}
use Rattle.std.specs.Ordering.{int_eq}

-- numbers of versions, each with what the row counts from that version on, the newest first
abbrev pub Pairs : Type 0
Pairs = List (ℕ × ℤ)

-- what a session of version s reads: the count of the first pair whose number is at most s, else 0
abbrev pub read : ℕ → Pairs → ℤ
read s [] = pos 0
read s (p ∷ ps) = cond (nat_le p.0 s) p.1 (read s ps)

-- The pairs after a count of the night that writes version m, where n are kept. Its own is replaced, or put in front, and the last of n + 1
-- is dropped
abbrev pub with_pair : ℕ → ℕ → ℤ → Pairs → Pairs
with_pair n m c [] = take n ((m, c) ∷ [])
with_pair n m c (p ∷ ps) = cond (p.0 == m) ((m, c) ∷ ps) (take n ((m, c) ∷ p ∷ ps))

-- the pairs without the newest one, if the night that writes version m put it there
abbrev pub without_pair : ℕ → Pairs → Pairs
without_pair m [] = []
without_pair m (p ∷ ps) = cond (p.0 == m) ps (p ∷ ps)

-- no session of the k versions before m reads anything
abbrev pub IsUnread : ℕ → ℕ → Pairs → Type 0
IsUnread k m ps = (s : ℕ) → s < m → m ≤ s + k → read s ps ≡ pos 0

-- whether no session of the k versions before m reads anything, tested version by version; where m is above 0, IsUnread tells the same
abbrev pub is_unread : ℕ → ℕ → Pairs → Bool
is_unread zero m ps = true
is_unread (suc k) m ps = int_eq (read (m - suc k) ps) (pos 0) && is_unread k m ps

-- the numbers of the pairs fall, from below this one
abbrev pub AreFalling : ℕ → Pairs → Type 0
AreFalling bound [] = Unit {0}
AreFalling bound (p ∷ ps) = (p.0 < bound) × AreFalling p.0 ps

-- pairs as they are kept, where n are kept and night m was begun last
pub record ArePairs (n m : ℕ) (ps : Pairs) : Type 0 where
  pub falling : AreFalling (suc m) ps
  pub few : length ps ≤ n
