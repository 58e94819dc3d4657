-- What was seen of a warehouse: a beginning of its published list: what only proofs and private contracts use.
use Rattle.std.specs.Prelude.{◌≤◌, IsTrue, List, length, refl}
use Rattle.std.specs.Coded.{Coded, code_by, coded×, coded_list}
use Rattle.logbook.specs.Pages.{Book, book_coded}
use Rattle.wh_store.specs.Operations.{Operation}
use Rattle.wh_store.specs.Versions.{is_well_formed}
use Rattle.wh_store.specs.Ledgers.{Warehouse}
use Rattle.wh_store.specs.Inner.Codes.{coded_operation, coded_warehouse}
use Rattle.wh_desk.specs.declared.history.Chapter.{Chapter}
use Rattle.wh_desk.specs.Known.{Known, warehouse_of, operations}

-- the same of a history
abbrev pub IsLog : List Chapter → Type 0
IsLog log = (2 ≤ (warehouse_of log).limit) × IsTrue (is_well_formed (length (warehouse_of log).opening) (operations log))

abbrev pub coded_known : Coded Known
coded_known =
    code_by (Book × (Warehouse × List Operation)) (coded× book_coded (coded× coded_warehouse (coded_list coded_operation))) (λ k. (k.book, (k.of, k.list)))
    (λ t. record { book = t.0; of = t.1.0; list = t.1.1 }) (λ _. refl)
