use Rattle.std.proofs.Common.{◌≡◌, ℕ, ◌<◌, true}
use Rattle.wh_dag.specs.Shape.{has}
use Rattle.wh_carry.specs.Kept.{kept, HaveParts, CanFinish, finished}
use Rattle.wh_carry.specs.Refused.{CanBeFinishedIn}
use Rattle.wh_carry.proofs.Storing.{below}
use Rattle.wh_carry.proofs.state.NightState.finish.Given as goal

abbrev pub invariant-loop-view : goal.invariant-loop-view
invariant-loop-view g l =
    record {
      parts : HaveParts l.catalog l.self;
      fit : CanFinish l.catalog (kept l.self);
      passed : (u : ℕ) → u < l.view → has l.views u ≡ true → CanBeFinishedIn l.catalog (kept l.fn.self) u;
      done : kept l.self ≡ finished l.catalog (below l.views l.view) (kept l.fn.self);
    }
