use Rattle.std.proofs.Common.{◌≡◌, ◌≤◌, vec_len}
use Rattle.std.specs.Io.KnownBytes.{Consumes}
use Rattle.wh_text_bundle.proofs.read.read_by_chunks.Given as goal

abbrev pub invariant-loop-turn : goal.invariant-loop-turn
invariant-loop-turn g l = record {
  counted : l.turn ≤ vec_len l.all;
  within : vec_len l.all ≤ l.limit;
  bytes : Consumes (g.R.Source.remaining l.fn.reader) (g.R.Source.remaining l.reader) l.all.items;
  faultless : g.R.Source.faults l.reader ≡ g.R.Source.faults l.fn.reader;
}
