-- How far a certificate's lines have been compared with the right ones.
use Rattle.std.specs.Prelude.{◌≡◌, ◌≢◌, ℕ, ◌<◌, List, length, map, filter, take, slice_get, true, false}
use Rattle.wh_dag.specs.Siblings.{is_sibling_pair}
use Rattle.wh_dag.specs.declared.siblings.SiblingPair.{SiblingPair}
use Rattle.wh_strategy.specs.declared.sizes.Size.{Size}
use Rattle.wh_cert.specs.Certificate.{line_of}
use Rattle.wh_cert.specs.declared.certificate.PairMin.{PairMin}
use Rattle.wh_cert.specs.declared.lines.Followed.{Followed}

-- Beside these right lines: as long as none differs, they are the first lines; else so many are the same, and the next one differs.
pub record Follows (lines right : List PairMin) (followed : Followed) : Type 0 where
  pub first : take followed.same lines ≡ take followed.same right
  pub all : followed.agrees ≡ true → followed.same ≡ length right
  pub within : followed.agrees ≡ false → followed.same < length right
  pub differ : followed.agrees ≡ false → slice_get lines followed.same ≢ slice_get right followed.same

-- the right lines for those of these triples that are sibling pairs
abbrev pub lines_among : List (List ℕ) → (ℕ → Size) → List SiblingPair → List PairMin
lines_among shape sizes triples = map (line_of sizes) (filter (is_sibling_pair shape) triples)
