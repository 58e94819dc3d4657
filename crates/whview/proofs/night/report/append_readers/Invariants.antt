use Rattle.std.proofs.Common.{◌≡◌, ◌++◌, drop}
use Rattle.whview.specs.NightOutput.{readers_text}
use Rattle.whview.proofs.night.report.append_readers.Given as goal

abbrev pub invariant-loop-reader : goal.invariant-loop-reader
invariant-loop-reader l = l.initial.out.items ++ readers_text 0 l.rows ≡ l.out.items ++ readers_text l.reader (drop l.reader l.rows)
