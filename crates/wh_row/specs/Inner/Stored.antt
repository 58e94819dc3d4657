-- The bag that the entries of a map stand for: what only proofs and private contracts use.
use Rattle.std.specs.Prelude.{ℤ, pos, ◌≢◌, FitsSigned}
use Rattle.std.specs.Int.{Width, w64, w128}
use Rattle.std.specs.List.{AllByRecursion}
use Rattle.wh_row.specs.Row.{Row}
use Rattle.wh_row.specs.Weigh.{Counted}

-- no number is zero, and each fits this width
abbrev pub AreCountsIn : Width → Counted → Type 0
AreCountsIn w es = AllByRecursion (λ (e : Row × ℤ). (e.1 ≢ pos 0) × FitsSigned w e.1) es

-- no number is zero, and each is an i64
abbrev pub AreCounts : Counted → Type 0
AreCounts es = AreCountsIn w64 es

-- no number is zero, and each is an i128
abbrev pub AreSums : Counted → Type 0
AreSums es = AreCountsIn w128 es
