use Rattle.std.proofs.Common.{◌≡◌, ◌∙◌, sym, ap, List, [], ◌∷◌, ◌++◌, Bor, None}
use Rattle.std.proofs.lemmas.List.{nil_from_length}
use Rattle.std.proofs.lemmas.Result.{IfOk-weaker}
use Rattle.std.specs.List.{flat_map}
use Rattle.std.specs.Iterator.{Yields}
use Rattle.std.specs.Slice.Iter.{chunks_steps, chunks_rest}
use Rattle.std.specs.declared.slice.Chunks.{Chunks}
use Rattle.wh_row.specs.Inner.Parts.{grouped}
use Rattle.wh_row.proofs.PartLaws.{if_ok}
use Rattle.wh_row.proofs.parts.groups_of.Goals as goal

-- the chunks of a slice, behind each other, are the slice
chunks_joined : {A : Type 0} (chunks : List (Bor (List A))) (s t u : Chunks A) → Yields chunks_steps s chunks t → chunks_steps t None u → flat_map (λ (chunk : Bor (List A)). chunk.now) chunks ≡ chunks_rest s
chunks_joined [] s t u came end = sym (ap chunks_rest came ∙ nil_from_length (chunks_rest t) end.1.0)
chunks_joined (chunk ∷ chunks) s t u came end =
    ap (λ (later : List _). chunk.now ++ later) (chunks_joined chunks came.0 t u came.2 end) ∙ sym came.1.1.0

pub returns : goal.returns
returns c =
    if_ok _ c.collect.result c.ok.result c.ok.ensures.value (IfOk-weaker c.collect.result _ _ (λ groups ran.
    ap grouped ran.2.0 ∙ chunks_joined ran.0 c.chunks.result ran.1.0 (ran.1.2 tt).0 ran.1.1 (ran.1.2 tt).1 ∙ c.chunks.ensures.rest) c.collect.ensures.ran)
