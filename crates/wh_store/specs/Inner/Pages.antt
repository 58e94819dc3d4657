-- Tables as their readers see them: rows in rising order, each with its count, a page at a time: what only proofs and private contracts use.
use Rattle.std.specs.Prelude.{ℤ, Bool, List, refl}
use Rattle.std.specs.Coded.{Coded, code_by, coded×, coded_ℤ, coded_list, coded_bool}
use Rattle.wh_row.specs.Inner.Bag.{coded_bag}
use Rattle.wh_row.specs.Row.{Row}
use Rattle.wh_store.specs.Pages.{Contents, Shown}

abbrev pub coded_shown : Coded Shown
coded_shown =
    code_by (List (Row × ℤ) × Bool) (coded× (coded_list (coded× (coded_list coded_ℤ) coded_ℤ)) coded_bool) (λ s. (s.rows, s.last)) (λ p. record { rows = p.0; last = p.1 })
    (λ _. refl)

abbrev pub coded_contents : Coded Contents
coded_contents = coded_list coded_bag
