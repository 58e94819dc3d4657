-- The places from one on, below another, are so many numbers from the first on.
use Rattle.std.proofs.Common.{◌≡◌, ap, ◌∙◌, ℕ, zero, suc, ◌+◌, ◌-◌, drop, arith}
use Rattle.std.specs.List.{range_with_len}
use Rattle.wh_carry.specs.Night.{places_from}

drop_range : (first from size : ℕ) → drop first (range_with_len from size) ≡ range_with_len (from + first) (size - first)
drop_range zero from size =
    let a : from ≡ from + 0 = omega arith in
    let b : size ≡ size - 0 = omega arith in
    λ i. range_with_len (a i) (b i)
drop_range (suc k) from zero = let b : 0 ≡ 0 - suc k = omega arith in ap (range_with_len (from + suc k)) b
drop_range (suc k) from (suc size) =
    let a : from + 1 + k ≡ from + suc k = omega arith in
    let b : size - k ≡ suc size - suc k = omega arith in
    drop_range k (from + 1) size ∙ (λ i. range_with_len (a i) (b i))

pub places_are : (first end : ℕ) → places_from first end ≡ range_with_len first (end - first)
places_are first end = let a : 0 + first ≡ first = omega arith in drop_range first 0 end ∙ ap (λ k. range_with_len k (end - first)) a
