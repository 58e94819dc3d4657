use Rattle.std.proofs.Common.{◌≡◌, ◌++◌, ℕ, List, All, IfSome}
use Rattle.std.specs.Vec.Iter.{into_iter_items}
use Rattle.wh_text_bundle.specs.declared.bundle.part.Part.{Part}
use Rattle.wh_text_catalogue.specs.Definitions.{ViewOf}
use Rattle.wh_load.specs.Inner.ReadingRows.{IsAheadOf}
use Rattle.wh_load.specs.ReadingNight.{Rows}
use Rattle.wh_load.proofs.reading.ahead.together.Given as goal

abbrev pub invariant-loop-group : goal.invariant-loop-group
invariant-loop-group l = record {
  each : (kind : Rows) (parts : List Part) (names : List (List ℕ)) (views : List ViewOf) → All (λ group. IfSome group (λ own. All (IsAheadOf kind parts names views) own.items)) l.fn.groups.items → All (IsAheadOf kind parts names views) l.all.items;
  every : l.yielded ++ into_iter_items l.group-iterator ≡ l.fn.groups.items;
}
