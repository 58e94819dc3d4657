-- Codes of operations, warehouses and ledgers, by which a proof tells two of them apart.
use Rattle.std.specs.Prelude.{◌≡◌, ℕ, zero, suc, List, [], Option, refl}
use Rattle.std.specs.Coded.{Coded, code_by, coded×, coded_ℕ, coded_ℤ, coded_list, coded_option}
use Rattle.wh_row.specs.Weigh.{Counted}
use Rattle.wh_store.specs.Operations.{Operation, Opens, Writes, Commits, Gives_up}
use Rattle.wh_store.specs.Pages.{Contents}
use Rattle.wh_store.specs.Inner.Pages.{coded_contents}
use Rattle.wh_store.specs.Ledgers.{Ledger, Warehouse}

-- the number of its kind, and what it writes
abbrev pub spelled : Operation → ℕ × (ℕ × Counted)
spelled Opens = (0, (0, []))
spelled (Writes view rows) = (1, (view, rows))
spelled Commits = (2, (0, []))
spelled Gives_up = (3, (0, []))

abbrev pub read : ℕ → ℕ → Counted → Operation
read zero view rows = Opens
read (suc zero) view rows = Writes view rows
read (suc (suc zero)) view rows = Commits
read (suc (suc (suc n))) view rows = Gives_up

pub read_back : (op : Operation) → read (spelled op).0 (spelled op).1.0 (spelled op).1.1 ≡ op
read_back Opens = refl
read_back (Writes view rows) = refl
read_back Commits = refl
read_back Gives_up = refl

abbrev pub coded_counted : Coded Counted
coded_counted = coded_list (coded× (coded_list coded_ℤ) coded_ℤ)

abbrev pub coded_operation : Coded Operation
coded_operation =
    code_by (ℕ × (ℕ × Counted)) (coded× coded_ℕ (coded× coded_ℕ coded_counted)) spelled (λ t. read t.0 t.1.0 t.1.1) read_back

abbrev pub coded_warehouse : Coded Warehouse
coded_warehouse =
    code_by (ℕ × Contents) (coded× coded_ℕ coded_contents) (λ w. (w.limit, w.opening)) (λ t. record { limit = t.0; opening = t.1 }) (λ _. refl)

abbrev pub coded_ledger : Coded Ledger
coded_ledger =
    code_by (Warehouse × (List Operation × Option Operation)) (coded× coded_warehouse (coded× (coded_list coded_operation) (coded_option coded_operation)))
    (λ l. (l.of, (l.list, l.held))) (λ t. record { of = t.0; list = t.1.0; held = t.1.1 }) (λ _. refl)
