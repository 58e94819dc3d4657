use Rattle.std.proofs.Common.{◌≡◌, take}
use Rattle.wh_carry.specs.Kept.{kept, HaveParts, CanFinish}
use Rattle.wh_carry.specs.Waves.{stages_of}
use Rattle.wh_carry.specs.Stages.{place_behind}
use Rattle.wh_night.specs.Inner.Underway.{Given, IsAt, night_given}
use Rattle.wh_night.proofs.stages.through.Given as goal

abbrev pub invariant-loop-stage : goal.invariant-loop-stage
invariant-loop-stage g l =
    record {
      home : g.O.Outlet.home l.writer ≡ g.O.Outlet.home l.fn.writer;
      parts : HaveParts l.asked.catalog.now l.progress.state;
      fit : CanFinish l.asked.catalog.now (kept l.progress.state);
      come : (t : Given) → l.stages ≡ stages_of t.list → IsAt (night_given l.asked.catalog.now (g.O.Outlet.keys l.outlet) t) t.before 0 (kept l.fn.progress.state) l.fn.progress.steps.items (g.O.Outlet.kept l.fn.writer)
          → IsAt (night_given l.asked.catalog.now (g.O.Outlet.keys l.outlet) t) t.before (place_behind (take l.stage-index l.stages)) (kept l.progress.state) l.progress.steps.items (g.O.Outlet.kept l.writer);
    }
