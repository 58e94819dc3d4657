use Rattle.std.proofs.Common.{ℕ}
use Rattle.wh_row.specs.Bag.{Bag}
use Rattle.wh_maint.specs.Definition.{graph_of}
use Rattle.wh_carry.specs.Carry.{before, tables_after}
use Rattle.wh_carry.specs.Kept.{kept, HaveParts, CanFinish, IsFirst}
use Rattle.wh_carry.specs.Refused.{ArePassedBelow}
use Rattle.wh_carry.specs.Inner.Steps.{AreFirstSteps}
use Rattle.wh_carry.specs.Inner.Agreeing.{Agrees, AreTold}
use Rattle.wh_carry.proofs.carrying.carry_out.Given as goal

abbrev pub invariant-loop-place : goal.invariant-loop-place
invariant-loop-place g l =
    record {
      parts : HaveParts l.catalog l.state;
      fit : CanFinish l.catalog (kept l.state);
      agrees : (old changes : ℕ → Bag) → IsFirst l.catalog old changes (kept l.fn.state)
          → Agrees l.catalog l.list old changes l.place (before (graph_of l.catalog) changes l.list old l.place) (kept l.state);
      told : (old changes : ℕ → Bag) → IsFirst l.catalog old changes (kept l.fn.state) → AreTold l.catalog l.list old changes (kept l.state);
      passed : (old changes : ℕ → Bag) → IsFirst l.catalog old changes (kept l.fn.state) → ArePassedBelow l.catalog l.list old changes l.place;
      steps : (old changes : ℕ → Bag) → IsFirst l.catalog old changes (kept l.fn.state)
          → AreFirstSteps l.catalog.views.children l.list old (tables_after (graph_of l.catalog) changes l.list old) l.place l.steps.items;
    }
