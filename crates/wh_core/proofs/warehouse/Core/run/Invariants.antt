use Rattle.std.proofs.Common.{◌≡◌, ◌<◌, ◌≤◌, List, [], ◌++◌, drop, length}
use Rattle.wh_core.specs.Laws.{IsSetup, log_after}
use Rattle.wh_core.specs.Log.{Log}
use Rattle.wh_core.specs.Nights.{Setup}
use Rattle.wh_core.specs.Standing.{IsStanding, StandsWith}
use Rattle.wh_core.specs.Replies.{IsRunFrom, IsLegalRun}
use Rattle.wh_core.specs.declared.reply.Reply.{Reply}
use Rattle.wh_core.proofs.warehouse.Core.run.Given as goal

-- where a legal run of the events so far leaves the machine, and any legal rest makes the whole
abbrev pub invariant-loop-event : goal.invariant-loop-event
invariant-loop-event g l =
    record {
      standing : IsStanding l.self;
      room : length l.events ≤ l.replies.cap;
      each : length l.replies.items ≡ l.event-index;
      far : (s : Setup) → IsSetup s → StandsWith s [] l.fn.self →
          (log : Log) × StandsWith s log l.self × ((rest : List Reply) → IsRunFrom s log (drop l.event-index l.events) rest → IsLegalRun s l.events (l.replies.items ++ rest))
          × ((rest : List Reply) → log_after [] l.events (l.replies.items ++ rest) ≡ log_after log (drop l.event-index l.events) rest);
    }
