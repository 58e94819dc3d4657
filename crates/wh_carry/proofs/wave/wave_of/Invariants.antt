use Rattle.std.proofs.Common.{◌≡◌, ℕ, ◌+◌, Option, Some, length}
use Rattle.std.specs.Prelude.{slice_get, is_none}
use Rattle.std.specs.List.{list_all}
use Rattle.wh_maint.specs.declared.fault.MaintFault.{MaintFault}
use Rattle.wh_carry.specs.Kept.{kept, HaveParts, CanFinish}
use Rattle.wh_carry.specs.Night.{Night}
use Rattle.wh_carry.specs.Course.{IsOutcome}
use Rattle.wh_carry.specs.Inner.Standing.{IsAmid, IsWaveAt, StandsAt}
use Rattle.wh_carry.proofs.wave.wave_of.Given as goal

abbrev pub invariant-loop-job : goal.invariant-loop-job
invariant-loop-job g l =
    record {
      parts : HaveParts l.catalog l.state;
      fit : CanFinish l.catalog (kept l.state);
      known : (kept l.state).known ≡ (kept l.initial.state).known;
      each : length l.outcomes.items ≡ l.job-index;
      clean : l.clean ≡ list_all is_none l.outcomes.items;
      outcomes : (n : Night) (place : ℕ) → IsWaveAt l.catalog l.jobs n place → StandsAt n place (kept l.fn.state)
          → (j : ℕ) (outcome : Option MaintFault) → slice_get l.outcomes.items j ≡ Some outcome → IsOutcome n (place + j) outcome;
      amid : (n : Night) (place : ℕ) → IsWaveAt l.catalog l.jobs n place → StandsAt n place (kept l.fn.state) → IsAmid n place l.jobs l.job-index l.clean (kept l.state);
    }
