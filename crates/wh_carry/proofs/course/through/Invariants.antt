use Rattle.std.proofs.Common.{◌≡◌, List, ◌++◌, take, drop, Option, None}
use Rattle.wh_maint.specs.declared.fault.MaintFault.{MaintFault}
use Rattle.wh_carry.specs.Kept.{kept, HaveParts as AreKeptParts, CanFinish}
use Rattle.wh_carry.specs.Waves.{stages_of}
use Rattle.wh_carry.specs.declared.course.Part.{Part}
use Rattle.wh_carry.specs.Night.{Night}
use Rattle.wh_carry.specs.Legs.{legs_of}
use Rattle.wh_carry.specs.Course.{AreParts}
use Rattle.wh_carry.specs.Stages.{place_behind}
use Rattle.wh_carry.specs.Inner.Standing.{StandsAt, legs_at}
use Rattle.wh_carry.proofs.course.through.Given as goal

abbrev pub invariant-loop-stage : goal.invariant-loop-stage
invariant-loop-stage g l =
    record {
      parts : AreKeptParts l.catalog l.state;
      fit : CanFinish l.catalog (kept l.state);
      so_far : (n : Night) → n.catalog ≡ l.catalog → n.keys ≡ l.keys → l.stages ≡ stages_of n.list → StandsAt n 0 (kept l.fn.state)
          → StandsAt n (place_behind (take l.stage-index l.stages)) (kept l.state) × (l.course.stop ≡ None)
          × ((rest : List Part) (stop : Option MaintFault)
          → AreParts n (place_behind (take l.stage-index l.stages)) (legs_at n (place_behind (take l.stage-index l.stages)) (drop l.stage-index l.stages)) rest stop
          → AreParts n 0 (legs_of n) (l.course.parts.items ++ rest) stop);
    }
