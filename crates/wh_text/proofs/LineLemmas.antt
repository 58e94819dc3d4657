-- The first line of some bytes.
use Rattle.std.proofs.Common.{◌≡◌, ◌<◌, ◌==◌, ℕ, Bool, true, false, cond, suc, zero, List, [], ◌∷◌, length, get_or, take, drop, refl, ap, ◌∙◌, arith}
use Rattle.std.specs.List.{onto_first}
use Rattle.std.proofs.lemmas.Bool.{false_from_ne_true}
use Rattle.wh_text.specs.Line.{whole_lines}

-- a byte in front of some bytes
pub whole_lines-cons : (b : ℕ) (bs : List ℕ) (t : Bool) → (b == 10) ≡ t → whole_lines (b ∷ bs) ≡ cond t ((b ∷ []) ∷ whole_lines bs) (onto_first b (whole_lines bs))
whole_lines-cons b bs t e = rw e refl

-- the first line ends at the first LF
pub whole_lines-at : (text : List ℕ) (k : ℕ) → k < length text → ((j : ℕ) → j < k → (get_or text j 0 == 10) ≡ true → ⊥) → (get_or text k 0 == 10) ≡ true
    → whole_lines text ≡ take (suc k) text ∷ whole_lines (drop (suc k) text)
whole_lines-at [] k within before at = absurd (omega arith)
whole_lines-at (b ∷ bs) zero within before at = whole_lines-cons b bs true at
whole_lines-at (b ∷ bs) (suc k) within before at =
    let other : (b == 10) ≡ false = false_from_ne_true (b == 10) (before 0 (omega arith)) in
    whole_lines-cons b bs false other
    ∙ ap (onto_first b) (whole_lines-at bs k (omega arith) (λ j h. before (suc j) (omega arith)) at)

-- with no LF all is one line
pub whole_lines-none : (text : List ℕ) → 0 < length text → ((j : ℕ) → j < length text → (get_or text j 0 == 10) ≡ true → ⊥) → whole_lines text ≡ text ∷ []
whole_lines-none [] some none = absurd (omega arith)
whole_lines-none (b ∷ []) some none =
    whole_lines-cons b [] false (false_from_ne_true (b == 10) (none 0 (omega arith)))
whole_lines-none (b ∷ c ∷ cs) some none =
    whole_lines-cons b (c ∷ cs) false (false_from_ne_true (b == 10) (none 0 (omega arith)))
    ∙ ap (onto_first b) (whole_lines-none (c ∷ cs) (omega arith) (λ j h. none (suc j) (omega arith)))
