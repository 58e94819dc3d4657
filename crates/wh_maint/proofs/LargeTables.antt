-- A view that has no table has no large one.
use Rattle.std.proofs.Common.{◌≡◌, ℕ, ◌≤◌, false, List, length, ap, ◌∙◌}
use Rattle.std.specs.Prelude.{nat_le}
use Rattle.wh_row.specs.Bag.{Bag, written}
use Rattle.wh_row.specs.Weigh.{Counted}
use Rattle.wh_row.proofs.WrittenLaws.{written-empty}
use Rattle.wh_maint.specs.Wants.{is_large}
use Rattle.wh_maint.proofs.OneRow.{past_empty}

pub none_large : (bags : List Bag) (u : ℕ) → length bags ≤ u → is_large bags u ≡ false
none_large bags u past = ap (λ (b : Bag). nat_le 1000 (length (written b))) (past_empty u bags past) ∙ ap (λ (es : Counted). nat_le 1000 (length es)) written-empty
