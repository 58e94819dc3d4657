use Rattle.std.proofs.Common.{◌≡◌, ◌++◌, drop, map}
use Rattle.wh_core.specs.Changes.{change_written}
use Rattle.wh_core.specs.Laws.{IsSetup}
use Rattle.wh_core.specs.Log.{Log}
use Rattle.wh_core.specs.Nights.{Setup, versions}
use Rattle.wh_core.specs.Standing.{StandsWith}
use Rattle.wh_dialogue.specs.Said.{change_texts}
use Rattle.wh_stay.specs.Standing.{core_of, standing_of}
use Rattle.wh_text_catalogue.specs.Definitions.{shown_view}
use Rattle.wh_dialogue.proofs.changes.all_changes.Given as goal

abbrev pub invariant-loop-view : goal.invariant-loop-view
invariant-loop-view g l = (s : Setup) (log : Log) → IsSetup s → StandsWith s log (core_of l.live)
    → change_texts (standing_of l.live) 0 (map shown_view l.views) (change_written (versions s log))
    ≡ l.text.items ++ change_texts (standing_of l.live) l.view (map shown_view (drop l.view l.views)) (change_written (versions s log))
