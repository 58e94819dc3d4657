-- What stands behind words of a line, byte by byte.
use Rattle.std.proofs.Common.{◌≡◌, ◌≢◌, refl, sym, ap, ◌∙◌, ℕ, zero, suc, ◌+◌, ◌-◌, ◌<◌, length, drop, slice_index, Bool, true, false, not, List, [], ◌∷◌, arith}
use Rattle.std.specs.Prelude.{if◌then◌else◌}
use Rattle.std.proofs.lemmas.List.{at_drop_more}
use Rattle.wh_text.specs.Line.{is_blank}
use Rattle.wh_live.specs.Requests.{behind_words}

-- how many words are left behind a byte
abbrev left_after : Bool → Bool → ℕ → ℕ
left_after blank begun left = if blank then (if begun then left - 1 else left) else left

opened : (left : ℕ) (begun blank : Bool) (byte : ℕ) (rest : List ℕ) → left ≢ 0 → is_blank byte ≡ blank → behind_words left begun (byte ∷ rest) ≡ behind_words (left_after blank begun left) (not blank) rest
opened zero begun blank byte rest some e = absurd (some refl)
opened (suc left) true true byte rest some e =
    (λ i. if e i then behind_words left false rest else behind_words (suc left) true rest) ∙ ap (λ n. behind_words n false rest) (omega arith)
opened (suc left) false true byte rest some e = λ i. if e i then behind_words (suc left) false rest else behind_words (suc left) true rest
opened (suc left) true false byte rest some e = λ i. if e i then behind_words left false rest else behind_words (suc left) true rest
opened (suc left) false false byte rest some e = λ i. if e i then behind_words (suc left) false rest else behind_words (suc left) true rest

pub byte_more : (line : List ℕ) (place left after : ℕ) (begun blank : Bool) → place < length line → left ≢ 0 → blank ≡ is_blank (slice_index line place) → after ≡ left_after blank begun left
    → behind_words left begun (drop place line) ≡ behind_words after (not blank) (drop (place + 1) line)
byte_more line place left after begun blank inside some e same =
    at_drop_more (behind_words left begun) line place _ inside
    ∙ opened left begun blank (slice_index line place) (drop (place + 1) line) some (sym e)
    ∙ ap (λ n. behind_words n (not blank) (drop (place + 1) line)) (sym same)

-- behind the last byte stands nothing
pub byte_last : (line : List ℕ) (left : ℕ) (begun : Bool) → line ≡ [] → behind_words left begun line ≡ []
byte_last line zero begun e = e
byte_last line (suc left) begun e = ap (behind_words (suc left) begun) e
