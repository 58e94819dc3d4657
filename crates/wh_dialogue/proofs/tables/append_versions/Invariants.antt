use Rattle.std.proofs.Common.{◌≡◌, ◌++◌, take}
use Rattle.std.specs.List.{flat_map}
use Rattle.wh_dialogue.specs.Said.{version_text}
use Rattle.wh_dialogue.proofs.tables.append_versions.Given as goal

abbrev pub invariant-loop-version : goal.invariant-loop-version
invariant-loop-version l = l.out.items ≡ l.initial.out.items ++ flat_map version_text (take l.version-index l.versions)
