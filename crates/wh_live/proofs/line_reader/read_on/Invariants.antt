use Rattle.std.proofs.Common.{◌≡◌, ◌≤◌, [], vec_len}
use Rattle.std.specs.Io.KnownBytes.{Keeps, prepend_known}
use Rattle.wh_live.specs.LinesRead.{IsOneLine}
use Rattle.wh_live.proofs.line_reader.read_on.Given as goal

abbrev pub invariant-loop-turn : goal.invariant-loop-turn
invariant-loop-turn g l = record {
  counted : l.turn ≤ vec_len l.begun;
  one_line : IsOneLine l.begun.items;
  empty : l.block ≡ [];
  kept : Keeps (prepend_known l.fn.begun.items (g.R.Source.remaining l.fn.source)) (prepend_known l.begun.items (g.R.Source.remaining l.source));
  faultless : g.R.Source.faults l.source ≡ g.R.Source.faults l.fn.source;
}
