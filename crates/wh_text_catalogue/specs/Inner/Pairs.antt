-- Arrays of pairs of a name and a formula, as `keep`, `group` and `sum` write them: what only proofs and private contracts use.
use Rattle.std.specs.Prelude.{List, Option, option_map}
use Rattle.toml.specs.Data.{Data}
use Rattle.toml.specs.View.{view}
use Rattle.wh_text.specs.Columns.{NamedKind}
use Rattle.wh_text.specs.declared.fault.LoadFault.{LoadFault}
use Rattle.wh_text.specs.declared.fault.LoadFault.TheVariants as fault
use Rattle.wh_text_catalogue.specs.Formula.{unknown_column}
use Rattle.wh_text_catalogue.specs.declared.definitions.pairs.Pair.{Pair}
use Rattle.wh_text_catalogue.specs.Pairs.{WrittenPair}

-- the pair that lent parts make
abbrev pub seen_pair : Pair → WrittenPair
seen_pair pair = record { name = pair.name.now; value = view pair.value.now }

-- the fault of a formula that names no column
abbrev pub unknown_fault : List NamedKind → Data → Option LoadFault
unknown_fault columns value = option_map fault.Column (unknown_column columns value)
