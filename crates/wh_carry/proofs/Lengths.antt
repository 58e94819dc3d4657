-- Lengths of lists of rows.
use Rattle.std.proofs.Common.{◌≡◌, refl, ap, suc, ℤ, List, [], ◌∷◌, length}
use Rattle.std.specs.Global.{Vec}
use Rattle.wh_row.specs.Stored.{plain}

pub plain_length : (es : List (Vec ℤ × ℤ)) → length (plain es) ≡ length es
plain_length [] = refl
plain_length (e ∷ es) = ap suc (plain_length es)
