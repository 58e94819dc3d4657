use Rattle.std.proofs.Common.{◌≡◌, ◌++◌, take, map}
use Rattle.wh_text_catalogue.specs.Definitions.{qualified}
use Rattle.wh_text_catalogue.proofs.definitions.header_of.append_qualified.Given as goal

abbrev pub invariant-loop-column : goal.invariant-loop-column
invariant-loop-column l = l.columns.items ≡ l.initial.columns.items ++ map (qualified l.child) (take l.column-index l.own)
