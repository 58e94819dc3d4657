use Rattle.std.proofs.Common.{◌≡◌, take}
use Rattle.std.specs.Io.KnownBytes.{Appends}
use Rattle.wh_text_tables.specs.Chunks.{chunks_text}
use Rattle.whview.proofs.tell.put_each.Given as goal

abbrev pub invariant-loop-chunk : goal.invariant-loop-chunk
invariant-loop-chunk g l =
    record {
      put : Appends (g.W.Sink.contents l.fn.out) (g.W.Sink.contents l.out) (chunks_text (take l.chunk-index l.chunks));
      faults : g.W.Sink.faults l.out ≡ g.W.Sink.faults l.fn.out;
    }
