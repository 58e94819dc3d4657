-- A text in chunks.
use Rattle.std.specs.Prelude.{ℕ, List}
use Rattle.std.specs.Global.{Vec}
use Rattle.std.specs.List.{flat_map}

-- the bytes of chunks one after another
abbrev pub chunks_text : List (Vec ℕ) → List ℕ
chunks_text chunks = flat_map (λ chunk. chunk.items) chunks
