use Rattle.std.proofs.Common.{◌≡◌, ◌≤◌, vec_len}
use Rattle.wh_core.specs.Laws.{IsSetup}
use Rattle.wh_core.specs.Log.{Log}
use Rattle.wh_core.specs.Nights.{Setup}
use Rattle.wh_core.specs.Standing.{StandsWith}
use Rattle.wh_dialogue.proofs.Steps.{IsAmid}
use Rattle.wh_stay.specs.Standing.{IsLive, core_of, standing_of}
use Rattle.wh_dialogue.proofs.night.carry_on.Given as goal

abbrev pub invariant-loop-turn : goal.invariant-loop-turn
invariant-loop-turn g l = record {
  counted : l.turn ≤ vec_len l.out;
  live : IsLive l.live;
  standing : standing_of l.live ≡ standing_of l.initial.live;
  amid : (s : Setup) (log : Log) → IsSetup s → StandsWith s log (core_of l.initial.live) → IsAmid s log l.initial.out.items l.out.items (core_of l.live);
}
