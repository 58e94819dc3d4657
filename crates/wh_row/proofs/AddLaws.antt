-- A number added to what a row counts, at either width.
use Rattle.std.proofs.Common.{◌≡◌, sym, ap, subst, ◌∙◌, ℤ, pos, ◌+ℤ◌, FitsSigned}
use lib.IntN.{+ℤ_idr}
use Rattle.std.specs.Int.{Width}
use Rattle.wh_row.specs.Row.{Row}
use Rattle.wh_row.specs.Bag.{Bag, plus}
use Rattle.wh_row.proofs.CountLaws.{plus-none}

-- ---- where it is 0

pub nothing_more : (b : Bag) (row : Row) (more : ℤ) → more ≡ pos 0 → b ≡ plus b row more
nothing_more b row more zero = sym (ap (plus b row) zero ∙ plus-none b row)

pub still_fits : (w : Width) (n more : ℤ) → more ≡ pos 0 → FitsSigned w n → FitsSigned w (n +ℤ more)
still_fits w n more zero fits = subst (FitsSigned w) (sym (ap (λ m. n +ℤ m) zero ∙ +ℤ_idr n)) fits
