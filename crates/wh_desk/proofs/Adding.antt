-- The exchange that adds an operation to the history keeps its rule.
use Rattle.std.proofs.Common.{◌≡◌, ℕ, ◌+◌, ◌<◌, ◌==◌, Bool, true, false, List, [], ◌∷◌, ◌++◌, length, refl, ap, sym, subst, arith, inl, length-append, None, ◌∙◌}
use Rattle.std.proofs.lemmas.List.{append-nil}
use Rattle.std.proofs.lemmas.Bool.Decides.{nat_tests}
use mathlib.Core.List.{IsPrefix}
use prog.Atomic.{either}
use Rattle.logbook.specs.Pages.{Cell, cell, keeps, no_nib, step, Moves, Goes}
use Rattle.wh_desk.specs.declared.history.Chapter.{Chapter}
use Rattle.wh_desk.specs.Inner.Known.{IsLog}
use Rattle.wh_desk.specs.Inner.Histories.{IsKept, Adds}
use Rattle.wh_desk.proofs.Prefixes.{prefix_whole}

abbrev pub shown : List Chapter → List Chapter
shown log = []

abbrev pub moved : List Chapter → List Chapter → ℕ → Type 0
moved xs ys n = Unit {0}

pub adds_goes : (log v : List Chapter) (e : Chapter) (old n : ℕ) → length v ≡ old + 1 → length log ≡ n + 1 → IsLog (v ++ e ∷ []) → IsLog log → IsPrefix v log → (b : Bool) → (n == old) ≡ b
    → Goes IsKept shown moved 0 (v, (no_nib, None)) (λ n. either (n == old) (old + 1) n) (Adds (step 0 old (old + 1) e) (v, (no_nib, None))) ((n, true) ∷ []) log
adds_goes log v e old n len whole may ok pre true is =
    let here : n ≡ old = grind (arith, nat_tests) in
    let same : v ≡ log = prefix_whole v log pre (omega arith) in
    let all : v ++ e ∷ [] ≡ log ++ e ∷ [] = ap (λ w. w ++ e ∷ []) same in
    let next : either (n == old) (old + 1) n ≡ n + 1 = rw is (omega arith) in (
      keeps,
      e ∷ [],
      None,
      tt,
      record { count = n + 1; word = ap (λ (k : ℕ). (k, true) ∷ []) next; whole = omega (arith, length-append log (e ∷ [])); story = subst IsLog all may },
      inl (refl, refl),
      (λ _. sym all),
    )
adds_goes log v e old n len whole may ok pre false is =
    let all : log ++ [] ≡ log = append-nil log in
    let same : either (n == old) (old + 1) n ≡ n = rw is refl in (
      keeps,
      [],
      None,
      tt,
      record { count = n; word = ap (λ (k : ℕ). (k, true) ∷ []) same; whole = ap length all ∙ whole; story = subst IsLog (sym all) ok },
      inl (refl, refl),
      (λ eq. absurd (grind (arith, nat_tests))),
    )

-- whatever the book is, the exchange adds the operation to all that was seen, or finds another number
pub adds_moves : (v : List Chapter) (e : Chapter) (old : ℕ) → length v ≡ old + 1 → IsLog (v ++ e ∷ [])
    → Moves IsKept shown moved 0 (v, (no_nib, None)) (λ n. either (n == old) (old + 1) n) (Adds (step 0 old (old + 1) e) (v, (no_nib, None)))
adds_moves v e old len may cs log kept pre away =
    let P : List Cell → Type 0 = λ c. (0 < length c) × ((cell c 0).1 ≡ true) × Goes IsKept shown moved 0 (v, (no_nib, None)) (λ n. either (n == old) (old + 1) n) (Adds (step 0 old (old + 1) e) (v, (no_nib, None))) c log in
    subst P (sym kept.word) (omega arith, refl, adds_goes log v e old kept.count len kept.whole may kept.story pre (kept.count == old) refl)
