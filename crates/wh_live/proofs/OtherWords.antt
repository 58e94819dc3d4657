-- Words that ask for an event of a schedule, and those of which five are looked at.
use Rattle.std.proofs.Common.{◌≡◌, ◌≢◌, refl, ℕ, ◌<◌, ◌≤◌, length, map, slice_index_or, List, [], ◌∷◌, Bor, arith}
use Rattle.wh_text_lines.specs.ScheduleLine.{event_of}
use Rattle.wh_live.specs.Requests.{event_request, request_of}
use Rattle.wh_live.specs.declared.request.Request.{Request}

-- two or three words, or none, are those of an event
pub as_event : (names : List (List ℕ)) (words : List (Bor (List ℕ))) → length words ≢ 1 → length words < 4
    → event_request (event_of names (map (λ word. word.now) words)) ≡ request_of names (map (λ word. word.now) words)
as_event names [] one few = refl
as_event names (first ∷ []) one few = absurd (one refl)
as_event names (first ∷ second ∷ []) one few = refl
as_event names (first ∷ second ∷ third ∷ []) one few = refl
as_event names (first ∷ second ∷ third ∷ fourth ∷ words) one few = absurd (omega (arith, few))

-- what is asked by five words, whatever follows them
pub of_more : (names : List (List ℕ)) (words : List (Bor (List ℕ))) (p q r t u : Bor (List ℕ)) (asked : Request) → 5 ≤ length words
    → ((more : List (List ℕ)) → asked ≡ request_of names ((slice_index_or words 0 p).now ∷ (slice_index_or words 1 q).now ∷ (slice_index_or words 2 r).now ∷ (slice_index_or words 3 t).now ∷ (slice_index_or words 4 u).now ∷ more))
    → asked ≡ request_of names (map (λ word. word.now) words)
of_more names [] p q r t u asked some h = absurd (omega (arith, some))
of_more names (a ∷ []) p q r t u asked some h = absurd (omega (arith, some))
of_more names (a ∷ b ∷ []) p q r t u asked some h = absurd (omega (arith, some))
of_more names (a ∷ b ∷ c ∷ []) p q r t u asked some h = absurd (omega (arith, some))
of_more names (a ∷ b ∷ c ∷ d ∷ []) p q r t u asked some h = absurd (omega (arith, some))
of_more names (a ∷ b ∷ c ∷ d ∷ e ∷ words) p q r t u asked some h = h (map (λ word. word.now) words)
