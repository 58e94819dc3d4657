-- The rows of a table, as version 0 alone.
use Rattle.std.proofs.Common.{◌≡◌, ◌≢◌, refl, sym, ap, subst, ℕ, zero, suc, ◌+◌, ◌-◌, ◌<◌, ◌≤◌, ◌≤ℤ◌, ℤ, pos, List, [], ◌∷◌, length, take, map, true, false, cond, Some, inl, inr, arith}
use Rattle.std.proofs.Common.{◌*◌, lit<}
use prog.Memory.{up}
use Rattle.std.specs.List.{AllByRecursion}
use Rattle.std.specs.List.Sorted.{IsStrictlySortedBy}
use Rattle.std.specs.Map.{keys_of}
use Rattle.wh_pieces.specs.Row.{Row, row_cmp, is_row}
use Rattle.wh_pieces.specs.Place.{AreRisingRows}
use Rattle.wh_pieces.specs.Pieces.{AreRevalued, found}
use Rattle.wh_row.specs.Bag.{Bag, count, IsTable}
use Rattle.wh_row.specs.Weigh.{Counted}
use Rattle.wh_versions.specs.Rows.{Pairs, with_pair}
use Rattle.wh_versions.specs.Tables.{opening}
use Rattle.wh_versions.specs.Inner.Tables.{Touched, HasNumber, IsListed, AreKept}

-- each of these counts in the bag, and not 0
abbrev pub AreOf : Bag → Counted → Type 0
AreOf b es = AllByRecursion (λ (e : Row × ℤ). (count b e.0 ≡ e.1) × (e.1 ≢ pos 0)) es

pub least_of : (b : Bag) (e : Row × ℤ) (es : Counted) → IsTable b → AreOf b (e ∷ es) → pos 0 ≤ℤ e.1
least_of b e es is of = let P : ℤ → Type 0 = λ z. pos 0 ≤ℤ z in subst P of.0.0 (is e.0)

opening_keys : (es : Counted) → keys_of (opening es) ≡ map {A = Row × ℤ} {B = Row} (λ e. e.0) es
opening_keys [] = refl
opening_keys (e ∷ es) = ap (λ rs. e.0 ∷ rs) (opening_keys es)

pub opening_rises : (es : Counted) → IsStrictlySortedBy row_cmp (map {A = Row × ℤ} {B = Row} (λ e. e.0) es) → AreRisingRows (opening es)
opening_rises es h = subst (λ (rs : List Row). IsStrictlySortedBy row_cmp rs) (sym (opening_keys es)) h

abbrev pub only : ℤ → Pairs
only c = (0, c) ∷ []

-- a table's rows, each with the pair that is made of its count
pub opening_made : (b : Bag) (P : ℤ → Pairs → Type 0) → IsTable b → ((c : ℤ) (ps : Pairs) → P c ps → pos 0 ≤ℤ c → ps ≡ only c)
    → (es : Counted) (rows : List (Row × Pairs)) → AreOf b es → AreRevalued P es rows → rows ≡ opening es
opening_made b P is one [] [] of made = refl
opening_made b P is one [] (r ∷ rows) of made = absurd made
opening_made b P is one (e ∷ es) [] of made = absurd made
opening_made b P is one (e ∷ es) (r ∷ rows) of made =
    λ i. (made.0 i, one e.1 r.1 made.1 (least_of b e es is of) i) ∷ opening_made b P is one es rows of.1 made.2 i

pub one_pair : (n : ℕ) (c : ℤ) → 0 < n → with_pair n 0 c [] ≡ only c
one_pair zero c h = absurd (omega arith)
one_pair (suc n) c h = none n
  where
    none : (n : ℕ) → take (suc n) (only c) ≡ only c
    none zero = refl
    none (suc n) = refl

-- a row of the table has one pair
pub record HasOne (ps : Pairs) : Type 0 where
  pub counts : ℤ
  pub some : counts ≢ pos 0
  pub is : ps ≡ only counts

found_pair : (b : Bag) (es : Counted) (q : Row) (ps : Pairs) → AreOf b es → found q (opening es) ≡ Some ps → HasOne ps
found_pair b [] q ps of e = cc
found_pair b (f ∷ es) q ps of e = elim (is_row q f.0) as (λ t. cond t (Some (only f.1)) (found q (opening es)) ≡ Some ps → HasOne ps) [
  | true ↦ λ g. record { counts = f.1; some = of.0.1; is = (let s : ps ≡ only f.1 = cc in s) }
  | false ↦ λ g. found_pair b es q ps of.1 g
] e

one_listed : (n : ℕ) (sets : List Touched) (q : Row) (c : ℤ) → 2 ≤ n → c ≢ pos 0 → IsListed n 0 sets q ((0, c) ∷ [])
one_listed n sets q c two some = record {
  pairs = record { falling = (omega arith, tt); few = omega arith };
  writers = λ k place low at has. absurd (none k low has);
  reached = inr (record { session = 0; low = omega arith; high = omega arith; some = some });
}
  where
    none : (k : ℕ) → 0 < k → HasNumber k ((0, c) ∷ []) → ⊥
    none k low (inl e) = omega arith
    none k low (inr h) = h

pub opening_kept : (n : ℕ) (b : Bag) (es : Counted) (sets : List Touched) → 2 ≤ n → n ≤ 4 → length sets ≡ n - 1 → AreOf b es → AreKept n 0 (opening es) sets
opening_kept n b es sets two few all of = record {
  enough = two;
  few = few;
  all = all;
  listed = λ q ps e. let f = found_pair b es q ps of e in subst (λ (x : Pairs). IsListed n 0 sets q x) (sym f.is) (one_listed n sets q f.counts two f.some);
}

-- a row of few pairs is small
pub size_small : (n : ℕ) → n ≤ 4 → up 8 (up 8 (0 + n * 8) + n * 8) < 9223372036854775808
size_small zero h = lit< tt
size_small (suc zero) h = lit< tt
size_small (suc (suc zero)) h = lit< tt
size_small (suc (suc (suc zero))) h = lit< tt
size_small (suc (suc (suc (suc zero)))) h = lit< tt
size_small (suc (suc (suc (suc (suc n))))) h = absurd (omega arith)
