use Rattle.std.proofs.Common.{◌≡◌}
use Rattle.std.specs.Io.KnownBytes.{prepend_known}
use Rattle.wh_core.specs.Laws.{IsSetup}
use Rattle.wh_core.specs.Log.{Log}
use Rattle.wh_core.specs.Nights.{Setup}
use Rattle.wh_core.specs.Standing.{StandsWith}
use Rattle.wh_dialogue.proofs.Turns.{IsAmidTalk}
use Rattle.wh_stay.specs.Standing.{IsLive, core_of, standing_of}
use Rattle.wh_dialogue.proofs.talking.take_turns.Given as goal

abbrev pub invariant-loop-turn : goal.invariant-loop-turn
invariant-loop-turn g l = record {
  live : IsLive l.live;
  amid : (s : Setup) (log : Log) → IsSetup s → StandsWith s log (core_of l.fn.live) → IsAmidTalk s log (standing_of l.fn.live) (g.S.Source.remaining l.fn.input)
      (g.W.Sink.contents l.fn.out) (g.W.Sink.contents l.out) l.lines (prepend_known l.reader (g.S.Source.remaining l.input)) l.live;
  read : g.S.Source.faults l.input ≡ g.S.Source.faults l.fn.input;
  written : g.W.Sink.faults l.out ≡ g.W.Sink.faults l.fn.out;
  flushed : g.W.Sink.unflushed l.fn.out ≡ 0 → g.W.Sink.unflushed l.out ≡ 0;
}
