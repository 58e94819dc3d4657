-- What has been published of a warehouse, and what waits to be.
use Rattle.std.specs.Prelude.{ℕ, List, [], ◌∷◌, ◌++◌, Option, Some, None, is_some, Bool, true, false, ◌||◌}
use Rattle.wh_store.specs.Operations.{Operation, Gives_up}
use Rattle.wh_store.specs.Pages.{Contents}
use Rattle.wh_store.specs.Versions.{Versions, is_active, versions_of}
use Rattle.wh_store.specs.Windows.{Window, window}

-- what a warehouse begins with: of how many versions the contents are kept, and the opening contents
pub record Warehouse : Type 0 where
  pub limit : ℕ
  pub opening : Contents

-- a warehouse, the published list, and the operation that is held, if one is: it was not published for want of memory, and waits
pub record Ledger : Type 0 where
  pub of : Warehouse
  pub list : List Operation
  pub held : Option Operation

abbrev pub ledger : Warehouse → List Operation → Option Operation → Ledger
ledger of list held = record { of = of; list = list; held = held }

-- the versions that operations make of a warehouse
abbrev pub versions_in : Warehouse → List Operation → Versions
versions_in of list = versions_of of.opening list

-- what is shown of them, rows aside
abbrev pub window_in : Warehouse → List Operation → Window
window_in of list = window of.limit [] (versions_in of list)

-- the published list once what is held has gone out
abbrev pub with_held : List Operation → Option Operation → List Operation
with_held list None = list
with_held list (Some op) = list ++ op ∷ []

abbrev pub gone_out : Ledger → List Operation
gone_out l = with_held l.list l.held

-- an operation is held, or a night is open
abbrev pub is_busy : Ledger → Bool
is_busy l = is_some l.held || is_active (versions_in l.of l.list)

-- a night is open once what is held has gone out
abbrev pub stays_open : Ledger → Bool
stays_open l = is_active (versions_in l.of (gone_out l))

-- the list with its night given up, where one is open
abbrev pub closed : Bool → List Operation → List Operation
closed true list = list ++ Gives_up ∷ []
closed false list = list
