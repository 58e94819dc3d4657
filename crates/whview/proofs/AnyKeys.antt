-- How many rows an operation writes at most has no part in why a night is refused.
use Rattle.std.proofs.Common.{ℕ}
use Rattle.wh_maint.specs.declared.fault.MaintFault.{MaintFault}
use Rattle.wh_carry.specs.declared.stages.Stage.{Stage}
use Rattle.wh_carry.specs.declared.stages.Stage.TheVariants as stage
use Rattle.wh_carry.specs.Night.{Night}
use Rattle.wh_carry.specs.Stages.{place_behind}
use Rattle.wh_night.specs.declared.left.Aftermath.{Aftermath}
use Rattle.wh_night.specs.declared.left.Aftermath.TheVariants.{Untouched, GivenUp, StillOpen}
use Rattle.wh_night.specs.Refusals.{IsFirstStageFault, IsRefusedSo, IsStageFault}

-- the same night by pages of other rows
abbrev pub by_pages : Night → ℕ → Night
by_pages n keys = record { catalog = n.catalog; list = n.list; tables = n.tables; changes = n.changes; keys = keys }

stage_any : (n : Night) (keys place : ℕ) (s : Stage) (fault : MaintFault) → IsStageFault n place s fault → IsStageFault (by_pages n keys) place s fault
stage_any n keys place (stage.Wave jobs) fault is = record { reason = is.reason; first = is.first; answer = is.answer }
stage_any n keys place (stage.Inst v) fault is = is

first_any : (n : Night) (keys : ℕ) (fault : MaintFault) → IsFirstStageFault n fault → IsFirstStageFault (by_pages n keys) fault
first_any n keys fault f = record {
  before = f.before;
  refused = f.refused;
  after = f.after;
  split = f.split;
  passed = f.passed;
  is = stage_any n keys (place_behind f.before) f.refused fault f.is;
}

pub refused_any : (n : Night) (keys : ℕ) (left : Aftermath) (fault : MaintFault) → IsRefusedSo n left fault → IsRefusedSo (by_pages n keys) left fault
refused_any n keys Untouched fault is = is
refused_any n keys GivenUp fault is = (is.0, first_any n keys fault is.1)
refused_any n keys StillOpen fault is = (is.0, first_any n keys fault is.1)
