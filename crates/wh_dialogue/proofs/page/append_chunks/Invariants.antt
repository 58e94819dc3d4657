use Rattle.std.proofs.Common.{◌≡◌, ◌++◌, take}
use Rattle.wh_text_tables.specs.Chunks.{chunks_text}
use Rattle.wh_dialogue.proofs.page.append_chunks.Given as goal

abbrev pub invariant-loop-chunk : goal.invariant-loop-chunk
invariant-loop-chunk l = l.out.items ≡ l.initial.out.items ++ chunks_text (take l.chunk-index l.text.finished.now)
