use Rattle.std.proofs.Common.{◌≡◌, List, take}
use Rattle.wh_store.specs.Operations.{Operation}
use Rattle.wh_store.specs.Pages.{Contents}
use Rattle.wh_store.specs.Versions.{versions_of}
use Rattle.wh_store.specs.Windows.{Shows}
use Rattle.wh_core.specs.Tables.{sizes_of}
use Rattle.wh_core.proofs.sizes.stored_sizes.Given as goal

abbrev pub invariant-loop-view : goal.invariant-loop-view
invariant-loop-view l = (opening : Contents) (ops : List Operation) → Shows l.store opening ops → l.sizes.items ≡ sizes_of (take l.view (versions_of opening ops).newest)
