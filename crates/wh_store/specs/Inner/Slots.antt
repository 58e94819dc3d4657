-- What only proofs and private contracts use. The pairs of a row, in as many places as its store keeps versions.
use Rattle.wh_versions.specs.Rows.{Pairs}
use Rattle.wh_store.specs.declared.slots.Places.{Places}
use Rattle.wh_store.specs.declared.slots.Places.TheVariants.{Two, Three, Four}

abbrev pub pairs_of : Places → Pairs
pairs_of (Two ps) = ps
pairs_of (Three ps) = ps
pairs_of (Four ps) = ps
