-- What was seen of a warehouse: a beginning of its published list.
use Rattle.std.specs.Prelude.{◌≡◌, ◌≤◌, IsTrue, List, [], ◌∷◌, length}
use mathlib.Core.List.{IsPrefix}
use Rattle.logbook.specs.Pages.{Book}
use Rattle.wh_store.specs.Operations.{Operation, operation}
use Rattle.wh_store.specs.Versions.{is_well_formed}
use Rattle.wh_store.specs.Windows.{current}
use Rattle.wh_store.specs.Ledgers.{Warehouse}
use Rattle.wh_desk.specs.declared.history.Chapter.{Chapter}
use Rattle.wh_desk.specs.declared.history.Chapter.TheVariants.{Opened, Done}

-- of which warehouse, what it began with, and the operations that were seen
pub record Known : Type 0 where
  pub book : Book
  pub of : Warehouse
  pub list : List Operation

abbrev pub known : Book → Warehouse → List Operation → Known
known book of list = record { book = book; of = of; list = list }

-- what a history began with
abbrev pub warehouse_of : List Chapter → Warehouse
warehouse_of [] = record { limit = 0; opening = [] }
warehouse_of (Opened store ∷ log) = record { limit = store.limit; opening = current store }
warehouse_of (Done op ∷ log) = record { limit = 0; opening = [] }

-- its operations
abbrev pub operations : List Chapter → List Operation
operations [] = []
operations (Opened store ∷ log) = operations log
operations (Done op ∷ log) = operation op ∷ operations log

abbrev pub told : Book → List Chapter → Known
told book log = known book (warehouse_of log) (operations log)

-- k is a beginning of f
abbrev pub Begins : Known → Known → Type 0
Begins k f = (k.book ≡ f.book) × (k.of ≡ f.of) × IsPrefix k.list f.list

-- the operations are well formed, and of the current version and the one before it at least the contents are kept
abbrev pub IsStory : Known → Type 0
IsStory k = (2 ≤ k.of.limit) × IsTrue (is_well_formed (length k.of.opening) k.list)
