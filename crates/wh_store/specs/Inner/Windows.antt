-- What only proofs and private contracts use. What a store shows of the versions: those whose sessions can still be read, and what is being written.
use Rattle.std.specs.Prelude.{ℕ, List, Option, refl}
use Rattle.std.specs.Coded.{Coded, code_by, coded×, coded_ℕ, coded_ℤ, coded_list, coded_option}
use Rattle.wh_versions.specs.Inner.Rows.{coded_pairs}
use Rattle.wh_store.specs.Pages.{Contents}
use Rattle.wh_store.specs.Inner.Pages.{coded_contents}
use Rattle.wh_store.specs.Slots.{Paired}
use Rattle.wh_store.specs.Windows.{Window}

abbrev pub coded_rows : Coded (List Paired)
coded_rows = coded_list (coded_list (coded× (coded_list coded_ℤ) coded_pairs))

abbrev pub coded_window : Coded Window
coded_window =
    code_by (ℕ × (ℕ × (List Contents × (Option Contents × List Paired))))
    (coded× coded_ℕ (coded× coded_ℕ (coded× (coded_list coded_contents) (coded× (coded_option coded_contents) coded_rows))))
    (λ w. (w.limit, (w.number, (w.kept, (w.draft, w.rows))))) (λ p. record { limit = p.0; number = p.1.0; kept = p.1.1.0; draft = p.1.1.1.0; rows = p.1.1.1.1 }) (λ _. refl)
