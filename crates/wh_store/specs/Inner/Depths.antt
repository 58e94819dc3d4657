-- What only proofs and private contracts use. What a store shows, however many versions it keeps.
use Rattle.wh_store.specs.Windows.{Window}
use Rattle.wh_store.specs.declared.store.Depth.{Depth}
use Rattle.wh_store.specs.declared.store.Depth.TheVariants.{Two, Three, Four}

abbrev pub shown_by : Depth → Window
shown_by (Two w) = w
shown_by (Three w) = w
shown_by (Four w) = w
