use Rattle.std.proofs.Common.{◌≡◌, ◌++◌, take}
use Rattle.std.specs.List.{flat_map}
use Rattle.wh_stay.specs.Pages.{name_behind_comma}
use Rattle.wh_stay.proofs.page.append_names.Given as goal

abbrev pub invariant-loop-column : goal.invariant-loop-column
invariant-loop-column l = l.out.items ≡ l.initial.out.items ++ flat_map name_behind_comma (take l.column-index l.columns)
