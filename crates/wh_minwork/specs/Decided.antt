-- Decisions on couples: which of two views is installed first.
use Rattle.std.specs.Prelude.{◌≡◌, ◌≢◌, ℕ, List, Some, slice_get, ◌⊎◌}

-- the two decide the same couple, alike or the contrary
abbrev pub AreOfOneCouple : ℕ × ℕ → ℕ × ℕ → Type 0
AreOfOneCouple c d = ((c.0 ≡ d.0) × (c.1 ≡ d.1)) ⊎ ((c.0 ≡ d.1) × (c.1 ≡ d.0))

-- each decision is on two views, and no couple is decided twice
pub record AreDecisions (couples : List (ℕ × ℕ)) : Type 0 where
  pub two : (p : ℕ) (c : ℕ × ℕ) → slice_get couples p ≡ Some c → c.0 ≢ c.1
  pub once : (p q : ℕ) (c d : ℕ × ℕ) → slice_get couples p ≡ Some c → slice_get couples q ≡ Some d → AreOfOneCouple c d → p ≡ q
