-- Where nothing is held and no night is open.
use Rattle.std.proofs.Common.{◌≡◌, ap, sym, List, Option, Some, None, false}
use Rattle.std.specs.Prelude.{is_some}
use Rattle.wh_store.specs.Operations.{Operation}
use Rattle.wh_store.specs.Versions.{is_active}
use Rattle.wh_store.specs.Ledgers.{Ledger, Warehouse, closed, ledger, versions_in}
use Rattle.wh_store.specs.Faults.{Ends, ended}
use Rattle.wh_store.specs.declared.ended.Ended.TheVariants.{NoneOpen}

ends_in : (of : Warehouse) (list : List Operation) (held : Option Operation) → is_some held ≡ false → is_active (versions_in of list) ≡ false
    → Ends (ledger of list held) (ledger of list held) NoneOpen
ends_in of list None free shut = (ap (λ b. ledger of (closed b list) None) (sym shut), ap (λ b. ended None b) (sym shut))
ends_in of list (Some op) free shut = cc

-- there a night that is to be given up has ended
pub idle_ends : (l : Ledger) → is_some l.held ≡ false → is_active (versions_in l.of l.list) ≡ false → Ends l l NoneOpen
idle_ends l free shut = ends_in l.of l.list l.held free shut
