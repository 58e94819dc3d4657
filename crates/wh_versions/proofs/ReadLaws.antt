-- What sessions read of a row's pairs once they are changed.
use Rattle.std.proofs.Common.{◌≡◌, ◌≢◌, refl, sym, ap, subst, ◌∙◌, ℕ, zero, suc, ◌+◌, ◌-◌, ◌<◌, ◌≤◌, ℤ, pos, [], ◌∷◌, length, take, true, false, cond, ◌⊎◌, inl, inr, arith}
use Rattle.std.specs.Prelude.{nat_le, ◌==◌}
use Rattle.std.proofs.lemmas.Bool.Decides.{nat_tests}
use Rattle.wh_versions.specs.Rows.{Pairs, read, with_pair, without_pair, AreFalling, ArePairs}
use Rattle.wh_versions.specs.Inner.Tables.{HasNumber}

le_true : (a b : ℕ) → a ≤ b → nat_le a b ≡ true
le_true a b h = grind arith

le_false : (a b : ℕ) → b < a → nat_le a b ≡ false
le_false a b h = grind arith

true_le : (a b : ℕ) → nat_le a b ≡ true → a ≤ b
true_le a b h = grind (arith, nat_tests)

false_le : (a b : ℕ) → nat_le a b ≡ false → b < a
false_le a b h = grind (arith, nat_tests)

same : (a b : ℕ) → (a == b) ≡ true → a ≡ b
same a b h = grind (arith, nat_tests)

apart : (a b : ℕ) → (a == b) ≡ false → a ≡ b → ⊥
apart a b h e = grind (arith, nat_tests)

-- a pair of a later version is passed by
passed : (s : ℕ) (p : ℕ × ℤ) (ps : Pairs) → s < p.0 → read s (p ∷ ps) ≡ read s ps
passed s p ps h = ap (λ b. cond b p.1 (read s ps)) (le_false p.0 s h)

-- an earlier one is read
taken : (s : ℕ) (p : ℕ × ℤ) (ps : Pairs) → p.0 ≤ s → read s (p ∷ ps) ≡ p.1
taken s p ps h = ap (λ b. cond b p.1 (read s ps)) (le_true p.0 s h)

pub falling_below : (a b : ℕ) (ps : Pairs) → a ≤ b → AreFalling a ps → AreFalling b ps
falling_below a b [] l f = tt
falling_below a b (p ∷ ps) l f = (omega (arith, f.0), f.1)

-- ---- a pair in front

-- the last of them is read by no session that can be read
read_first : (k b s : ℕ) (ps : Pairs) → AreFalling b ps → length ps ≤ suc k → b ≤ s + k → 1 ≤ k → read s (take k ps) ≡ read s ps
read_first zero b s ps f l h some = absurd (omega arith)
read_first (suc k) b s [] f l h some = refl
read_first (suc k) b s (p ∷ ps) f l h some = elim (nat_le p.0 s) as (λ t. nat_le p.0 s ≡ t → cond t p.1 (read s (take k ps)) ≡ cond t p.1 (read s ps)) [
  | true ↦ λ e. refl
  | false ↦ λ e.
      let low : s < p.0 = false_le p.0 s e in
      let high : p.0 < b = f.0 in
      read_first k p.0 s ps f.1 (omega arith) (omega arith) (omega arith)
] refl

-- a put is seen by no session of an earlier version that can be read
pub read_put : (n m s : ℕ) (c : ℤ) (ps : Pairs) → 2 ≤ n → ArePairs n m ps → s < m → m ≤ s + (n - 1) → read s (with_pair n m c ps) ≡ read s ps
read_put zero m s c ps two are low high = absurd (omega arith)
read_put (suc n) m s c [] two are low high = passed s (m, c) (take n []) low ∙ read_none n
  where
    read_none : (n : ℕ) → read s (take n []) ≡ pos 0
    read_none zero = refl
    read_none (suc n) = refl
read_put (suc n) m s c (p ∷ ps) two are low high = elim (p.0 == m) as (λ t. (p.0 == m) ≡ t → read s (cond t ((m, c) ∷ ps) (take (suc n) ((m, c) ∷ p ∷ ps))) ≡ read s (p ∷ ps)) [
  | true ↦ λ e.
      let is = same p.0 m e in
      passed s (m, c) ps low ∙ sym (passed s p ps (omega arith))
  | false ↦ λ e.
      let other = apart p.0 m e in
      let bound : p.0 < suc m = are.falling.0 in
      let below : p.0 < m = omega (arith, other) in
      let few : length (p ∷ ps) ≤ suc n = are.few in
      passed s (m, c) (take n (p ∷ ps)) low ∙ read_first n m s (p ∷ ps) (below, are.falling.1) few (omega arith) (omega arith)
] refl

-- and sessions of its own version see it
pub read_put_new : (n m : ℕ) (c : ℤ) (ps : Pairs) → 1 ≤ n → read m (with_pair n m c ps) ≡ c
read_put_new zero m c ps some = absurd (omega arith)
read_put_new (suc n) m c [] some = taken m (m, c) (take n []) (omega arith)
read_put_new (suc n) m c (p ∷ ps) some = elim (p.0 == m) as (λ t. read m (cond t ((m, c) ∷ ps) (take (suc n) ((m, c) ∷ p ∷ ps))) ≡ c) [
  | true ↦ taken m (m, c) ps (omega arith)
  | false ↦ taken m (m, c) (take n (p ∷ ps)) (omega arith)
]

falling_first : (k b : ℕ) (ps : Pairs) → AreFalling b ps → AreFalling b (take k ps)
falling_first zero b ps f = tt
falling_first (suc k) b [] f = tt
falling_first (suc k) b (p ∷ ps) f = (f.0, falling_first k p.0 ps f.1)

length_first : (k : ℕ) (ps : Pairs) → length (take k ps) ≤ k
length_first zero ps = omega arith
length_first (suc k) [] = omega arith
length_first (suc k) (p ∷ ps) = omega (arith, length_first k ps)

pub put_pairs : (n m : ℕ) (c : ℤ) (ps : Pairs) → ArePairs n m ps → ArePairs n m (with_pair n m c ps)
put_pairs n m c [] are = record { falling = falling_first n (suc m) ((m, c) ∷ []) (omega arith, tt); few = length_first n ((m, c) ∷ []) }
put_pairs n m c (p ∷ ps) are = elim (p.0 == m) as (λ t. (p.0 == m) ≡ t → ArePairs n m (cond t ((m, c) ∷ ps) (take n ((m, c) ∷ p ∷ ps)))) [
  | true ↦ λ e. record { falling = (omega arith, subst (λ (x : ℕ). AreFalling x ps) (same p.0 m e) are.falling.1); few = are.few }
  | false ↦ λ e.
      let other = apart p.0 m e in
      let bound : p.0 < suc m = are.falling.0 in
      let below : p.0 < m = omega (arith, other) in
      let front : AreFalling (suc m) ((m, c) ∷ p ∷ ps) = (omega arith, (below, are.falling.1)) in
      record { falling = falling_first n (suc m) ((m, c) ∷ p ∷ ps) front; few = length_first n ((m, c) ∷ p ∷ ps) }
] refl

first_number : (i k : ℕ) (ps : Pairs) → HasNumber k (take i ps) → HasNumber k ps
first_number zero k ps h = absurd h
first_number (suc i) k [] h = absurd h
first_number (suc i) k (p ∷ ps) (inl e) = inl e
first_number (suc i) k (p ∷ ps) (inr h) = inr (first_number i k ps h)

front_number : (i m k : ℕ) (c : ℤ) (ps : Pairs) → HasNumber k (take i ((m, c) ∷ ps)) → (m ≡ k) ⊎ HasNumber k ps
front_number zero m k c ps h = absurd h
front_number (suc i) m k c ps (inl e) = inl e
front_number (suc i) m k c ps (inr h) = inr (first_number i k ps h)

-- its number is the only new one
pub put_number : (n m k : ℕ) (c : ℤ) (ps : Pairs) → HasNumber k (with_pair n m c ps) → (m ≡ k) ⊎ HasNumber k ps
put_number n m k c [] h = front_number n m k c [] h
put_number n m k c (p ∷ ps) h = elim (p.0 == m) as (λ t. HasNumber k (cond t ((m, c) ∷ ps) (take n ((m, c) ∷ p ∷ ps))) → (m ≡ k) ⊎ HasNumber k (p ∷ ps)) [
  | true ↦ λ g. of g
  | false ↦ λ g. front_number n m k c (p ∷ ps) g
] h
  where
    of : HasNumber k ((m, c) ∷ ps) → (m ≡ k) ⊎ HasNumber k (p ∷ ps)
    of (inl e) = inl e
    of (inr h) = inr (inr h)

-- ---- a pair taken away

-- below the next version nothing differs
pub read_same : (s : ℕ) (ps : Pairs) → AreFalling (suc s) ps → read (suc s) ps ≡ read s ps
read_same s [] f = refl
read_same s (p ∷ ps) f = let low : p.0 < suc s = f.0 in taken (suc s) p ps (omega arith) ∙ sym (taken s p ps (omega arith))

-- a night that is given up leaves its version what the version before it shows
pub read_back : (s : ℕ) (ps : Pairs) → AreFalling (suc (suc s)) ps → read (suc s) (without_pair (suc s) ps) ≡ read s ps
read_back s [] f = refl
read_back s (p ∷ ps) f = elim (p.0 == suc s) as (λ t. (p.0 == suc s) ≡ t → read (suc s) (cond t ps (p ∷ ps)) ≡ read s (p ∷ ps)) [
  | true ↦ λ e.
      let is = same p.0 (suc s) e in
      read_same s ps (subst (λ (x : ℕ). AreFalling x ps) is f.1) ∙ sym (passed s p ps (omega arith))
  | false ↦ λ e.
      let other = apart p.0 (suc s) e in
      let bound : p.0 < suc (suc s) = f.0 in
      let low : p.0 < suc s = omega (arith, other) in
      read_same s (p ∷ ps) (low, f.1)
] refl

-- and changes no version below it
pub read_older : (m s : ℕ) (ps : Pairs) → s < m → read s (without_pair m ps) ≡ read s ps
read_older m s [] low = refl
read_older m s (p ∷ ps) low = elim (p.0 == m) as (λ t. (p.0 == m) ≡ t → read s (cond t ps (p ∷ ps)) ≡ read s (p ∷ ps)) [
  | true ↦ λ e. let is = same p.0 m e in sym (passed s p ps (omega arith))
  | false ↦ λ e. refl
] refl

pub back_pairs : (n m : ℕ) (ps : Pairs) → ArePairs n m ps → ArePairs n m (without_pair m ps)
back_pairs n m [] are = are
back_pairs n m (p ∷ ps) are = elim (p.0 == m) as (λ t. ArePairs n m (cond t ps (p ∷ ps))) [
  | true ↦
      let bound : p.0 < suc m = are.falling.0 in
      let few : length (p ∷ ps) ≤ n = are.few in
      record { falling = falling_below p.0 (suc m) ps (omega arith) are.falling.1; few = omega arith }
  | false ↦ are
]

pub back_number : (m k : ℕ) (ps : Pairs) → HasNumber k (without_pair m ps) → HasNumber k ps
back_number m k [] h = h
back_number m k (p ∷ ps) h = elim (p.0 == m) as (λ t. HasNumber k (cond t ps (p ∷ ps)) → HasNumber k (p ∷ ps)) [
  | true ↦ λ g. inr g
  | false ↦ λ g. g
] h

-- where the night wrote none, none is taken away
pub back_none : (m : ℕ) (ps : Pairs) → (HasNumber m ps → ⊥) → without_pair m ps ≡ ps
back_none m [] h = refl
back_none m (p ∷ ps) h = elim (p.0 == m) as (λ t. (p.0 == m) ≡ t → cond t ps (p ∷ ps) ≡ p ∷ ps) [
  | true ↦ λ e. absurd (h (inl (same p.0 m e)))
  | false ↦ λ e. refl
] refl

-- ---- numbers

pub number_below : (k bound : ℕ) (ps : Pairs) → AreFalling bound ps → HasNumber k ps → k < bound
number_below k bound [] f h = absurd h
number_below k bound (p ∷ ps) f (inl e) = omega (arith, f.0)
number_below k bound (p ∷ ps) f (inr h) = omega (arith, f.0, number_below k p.0 ps f.1 h)

-- where a version reads something else than the one before it, its night wrote a pair
pub read_step : (s : ℕ) (ps : Pairs) → read (suc s) ps ≢ read s ps → HasNumber (suc s) ps
read_step s [] h = absurd (h refl)
read_step s (p ∷ ps) h = elim (nat_le p.0 s) as (λ t. nat_le p.0 s ≡ t → HasNumber (suc s) (p ∷ ps)) [
  | true ↦ λ e. let low = true_le p.0 s e in absurd (h (taken (suc s) p ps (omega arith) ∙ sym (taken s p ps low)))
  | false ↦ λ e. elim (p.0 == suc s) as (λ t. (p.0 == suc s) ≡ t → HasNumber (suc s) (p ∷ ps)) [
    | true ↦ λ f. inl (same p.0 (suc s) f)
    | false ↦ λ f.
        let high = false_le p.0 s e in
        let other = apart p.0 (suc s) f in
        let far : suc s < p.0 = omega (arith, other) in
        inr (read_step s ps (λ g. h (passed (suc s) p ps far ∙ g ∙ sym (passed s p ps high))))
  ] refl
] refl
