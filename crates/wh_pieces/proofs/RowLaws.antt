-- The order of rows.
use Rattle.std.proofs.Common.{◌≡◌, refl, ap, true}
use Rattle.std.specs.Cmp.{IsTotalOrder, int_cmp_total, tied_itself}
use Rattle.std.specs.Cmp.Lexicographic.{lists_total}
use Rattle.std.specs.FinMap.{IsAntisymmetric, slice_cmp-IsAntisymmetric, int_cmp-IsAntisymmetric}
use Rattle.std.specs.Ordering.{is_eq}
use Rattle.std.specs.declared.cmp.Ordering.{Ordering}
use Rattle.std.specs.declared.cmp.Ordering.TheVariants.{Less, Equal, Greater}
use Rattle.wh_pieces.specs.Row.{Row, row_cmp, is_row}

pub rows_total : IsTotalOrder row_cmp
rows_total = lists_total int_cmp_total

pub rows_exact : IsAntisymmetric row_cmp
rows_exact = slice_cmp-IsAntisymmetric int_cmp-IsAntisymmetric

pub same_row : (q r : Row) → is_row q r ≡ true → q ≡ r
same_row q r t = rows_exact q r (equal (row_cmp q r) t)
  where
    equal : (o : Ordering) → is_eq o ≡ true → o ≡ Equal
    equal Less e = cc
    equal Equal e = refl
    equal Greater e = cc

pub itself : (q : Row) → is_row q q ≡ true
itself q = ap is_eq (tied_itself rows_total q)
