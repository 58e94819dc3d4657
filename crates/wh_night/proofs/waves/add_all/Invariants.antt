use Rattle.std.proofs.Common.{◌≡◌, ℕ, ◌+◌}
use Rattle.wh_carry.specs.Kept.{kept, HaveParts, CanFinish}
use Rattle.wh_carry.specs.Inner.Standing.{IsWaveAt}
use Rattle.wh_night.specs.Inner.Underway.{Given, HasCome, night_given}
use Rattle.wh_night.proofs.waves.add_all.Given as goal

abbrev pub invariant-loop-number : goal.invariant-loop-number
invariant-loop-number g l =
    record {
      parts : HaveParts l.catalog l.state;
      fit : CanFinish l.catalog (kept l.state);
      known : (kept l.state).known ≡ (kept l.fn.state).known;
      tables : (kept l.state).tables ≡ (kept l.fn.state).tables;
      changes : (kept l.state).changes ≡ (kept l.fn.state).changes;
      come : (keys place : ℕ) (t : Given) → IsWaveAt l.catalog l.jobs (night_given l.catalog keys t) place → HasCome (night_given l.catalog keys t) place (kept l.fn.state) l.fn.steps.items
          → HasCome (night_given l.catalog keys t) (place + l.number) (kept l.state) l.steps.items;
    }
