use Rattle.std.proofs.Common.{◌≡◌, ℕ, true, Option, Some, None, length}
use Rattle.std.specs.Prelude.{slice_get}
use Rattle.wh_carry.specs.Kept.{kept, HaveParts, CanFinish}
use Rattle.wh_carry.specs.declared.wave.Refusal.{Refusal}
use Rattle.wh_carry.specs.Night.{Night}
use Rattle.wh_carry.specs.Standing.{is_source}
use Rattle.wh_carry.specs.Inner.Standing.{StandsAt, IsSourceOutcome, IsWaveAt}
use Rattle.wh_carry.proofs.wave.finish_sources.Given as goal

abbrev pub invariant-loop-view : goal.invariant-loop-view
invariant-loop-view g l =
    record {
      parts : HaveParts l.catalog l.state;
      fit : CanFinish l.catalog (kept l.state);
      each : length l.refusals.items ≡ l.view;
      stands : (n : Night) (place : ℕ) → IsWaveAt l.catalog l.jobs n place → StandsAt n place (kept l.fn.state) → StandsAt n place (kept l.state);
      outcomes : (n : Night) (place : ℕ) → IsWaveAt l.catalog l.jobs n place → StandsAt n place (kept l.fn.state)
          → (u : ℕ) (refusal : Option Refusal) → is_source l.jobs u ≡ true → slice_get l.refusals.items u ≡ Some refusal → IsSourceOutcome n place (kept l.state) u refusal;
      sources : (u : ℕ) → is_source l.jobs u ≡ true → slice_get l.refusals.items u ≡ Some None → (kept l.state).known u ≡ true;
    }
