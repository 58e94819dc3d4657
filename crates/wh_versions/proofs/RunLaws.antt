-- Rows that stand side by side, and what a version shows of them.
use Rattle.std.proofs.Common.{◌≡◌, ◌≢◌, refl, sym, ap, ◌∙◌, ℕ, zero, suc, ◌+◌, ◌-◌, ◌*◌, ◌<◌, ◌≤◌, ℤ, pos, List, [], ◌∷◌, ◌++◌, length, take, drop, true, false, cond, arith, append_assoc, length-append}
use Rattle.std.specs.Ordering.{int_eq}
use Rattle.std.proofs.lemmas.List.{take_all, drop-drop}
use Rattle.wh_pieces.specs.Flat.{flat}
use Rattle.wh_pieces.specs.Row.{Row}
use Rattle.wh_pieces.proofs.FlatLaws.{mul_add, take-flat, drop-flat, length-flat}
use Rattle.wh_row.specs.Weigh.{Counted}
use Rattle.wh_versions.specs.Inner.Pages.{leading}
use Rattle.wh_versions.specs.Pages.{shown_of}
use Rattle.wh_versions.specs.Rows.{Pairs, read}
use Rattle.wh_versions.proofs.PageLaws.{passed_by, taken}
use Rattle.wh_versions.proofs.TableLaws.{same_int, other_int, no_int}

-- ---- what is shown of rows behind others

pub shown-append : (s : ℕ) (es fs : List (Row × Pairs)) → shown_of s (es ++ fs) ≡ shown_of s es ++ shown_of s fs
shown-append s [] fs = refl
shown-append s (e ∷ es) fs = elim (int_eq (read s e.1) (pos 0)) as (λ b. int_eq (read s e.1) (pos 0) ≡ b → shown_of s (e ∷ es ++ fs) ≡ shown_of s (e ∷ es) ++ shown_of s fs) [
  | true ↦ λ b.
      let none = same_int (read s e.1) (pos 0) b in
      passed_by s e (es ++ fs) none ∙ shown-append s es fs ∙ ap (λ (xs : Counted). xs ++ shown_of s fs) (sym (passed_by s e es none))
  | false ↦ λ b.
      let some = other_int (read s e.1) (pos 0) b in
      taken s e (es ++ fs) some ∙ ap (λ (xs : Counted). (e.0, read s e.1) ∷ xs) (shown-append s es fs) ∙ ap (λ (xs : Counted). xs ++ shown_of s fs) (sym (taken s e es some))
] refl

pub shown_few : (s : ℕ) (es : List (Row × Pairs)) → length (shown_of s es) ≤ length es
shown_few s [] = omega arith
shown_few s (e ∷ es) =
    let rest = shown_few s es in
    elim (int_eq (read s e.1) (pos 0)) as (λ b. int_eq (read s e.1) (pos 0) ≡ b → length (shown_of s (e ∷ es)) ≤ length (e ∷ es)) [
      | true ↦ λ b. let count = ap (λ (xs : Counted). length xs) (passed_by s e es (same_int (read s e.1) (pos 0) b)) in omega (arith, count, rest)
      | false ↦ λ b. let count = ap (λ (xs : Counted). length xs) (taken s e es (other_int (read s e.1) (pos 0) b)) in omega (arith, count, rest)
    ] refl

-- ---- the first rows of a run, up to one that is not shown

pub leading_ends : (s : ℕ) (p : Pairs) (ps : List Pairs) → read s p ≡ pos 0 → leading s (p ∷ ps) ≡ []
leading_ends s p ps z = ap (λ n. cond (int_eq n (pos 0)) [] (n ∷ leading s ps)) z

pub leading_more : (s : ℕ) (p : Pairs) (ps : List Pairs) → read s p ≢ pos 0 → leading s (p ∷ ps) ≡ read s p ∷ leading s ps
leading_more s p ps some = ap (λ b. cond b [] (read s p ∷ leading s ps)) (no_int (read s p) (pos 0) some)

pub leading_few : (s : ℕ) (ps : List Pairs) → length (leading s ps) ≤ length ps
leading_few s [] = omega arith
leading_few s (p ∷ ps) =
    let rest = leading_few s ps in
    elim (int_eq (read s p) (pos 0)) as (λ b. int_eq (read s p) (pos 0) ≡ b → length (leading s (p ∷ ps)) ≤ length (p ∷ ps)) [
      | true ↦ λ b. let count = ap (λ (xs : List ℤ). length xs) (leading_ends s p ps (same_int (read s p) (pos 0) b)) in omega (arith, count)
      | false ↦ λ b. let count = ap (λ (xs : List ℤ). length xs) (leading_more s p ps (other_int (read s p) (pos 0) b)) in omega (arith, count, rest)
    ] refl

-- these rows are shown, and then those behind the one that is not
pub run_shown : (s w : ℕ) (cells : List ℤ) (ps : List Pairs) → shown_of s (flat w cells ps) ≡ flat w cells (leading s ps) ++ shown_of s (drop (length (leading s ps) + 1) (flat w cells ps))
run_shown s w cells [] = refl
run_shown s w cells (p ∷ ps) =
    let e : Row × Pairs = (take w cells, p) in
    let es = flat w (drop w cells) ps in
    elim (int_eq (read s p) (pos 0)) as (λ b. int_eq (read s p) (pos 0) ≡ b → shown_of s (e ∷ es) ≡ flat w cells (leading s (p ∷ ps)) ++ shown_of s (drop (length (leading s (p ∷ ps)) + 1) (e ∷ es))) [
      | true ↦ λ b.
          let none = same_int (read s p) (pos 0) b in
          passed_by s e es none ∙ ap (λ ns. flat w cells ns ++ shown_of s (drop (length ns + 1) (e ∷ es))) (sym (leading_ends s p ps none))
      | false ↦ λ b.
          let some = other_int (read s p) (pos 0) b in
          let count = length (leading s ps) in
          let next : suc (count + 1) ≡ suc count + 1 = omega arith in
          taken s e es some ∙ ap (λ (xs : Counted). (e.0, read s p) ∷ xs) (run_shown s w (drop w cells) ps)
          ∙ ap (λ k. flat w cells (read s p ∷ leading s ps) ++ shown_of s (drop k (e ∷ es))) next
          ∙ ap (λ ns. flat w cells ns ++ shown_of s (drop (length ns + 1) (e ∷ es))) (sym (leading_more s p ps some))
    ] refl

-- only the cells of these rows matter
pub flat-cut : (w n : ℕ) (cells ns : List ℤ) → n ≡ w * length ns → flat w (take n cells) ns ≡ flat w cells ns
flat-cut w n cells ns e =
    ap (λ k. flat w (take k cells) ns) e
    ∙ ap (λ (ms : List ℤ). flat w (take (w * length ns) cells) ms) (sym (take_all (length ns) ns (omega arith)))
    ∙ sym (take-flat w cells ns (length ns))
    ∙ take_all (length ns) (flat w cells ns) (omega (arith, length-flat w cells ns))

-- a stretch of a run, as it is cut out
pub cut_run : (w from n : ℕ) (cells counts lead : List ℤ) → n ≡ length lead → take n counts ≡ lead
    → flat w (take (w * (from + n) - w * from) (drop (w * from) cells)) (take (from + n - from) counts) ≡ flat w (drop (w * from) cells) lead
cut_run w from n cells counts lead many is =
    let k : from + n - from ≡ n = omega arith in
    let size : w * (from + n) - w * from ≡ w * length lead = omega (arith, mul_add w from n, ap (λ m. w * m) many) in
    (λ i. flat w (take (w * (from + n) - w * from) (drop (w * from) cells)) ((ap (λ m. take m counts) k ∙ is) i))
    ∙ flat-cut w (w * (from + n) - w * from) (drop (w * from) cells) lead size

pub are_some : (ns : List ℤ) → ns ≢ [] → 0 < length ns
are_some [] h = absurd (h refl)
are_some (n ∷ ns) h = omega arith

-- where a row of it is shown, so is a row of the rest
pub some_shown : (s w : ℕ) (cells : List ℤ) (ps : List Pairs) (from : ℕ) → 0 < length (leading s (drop from ps)) → 0 < length (shown_of s (drop from (flat w cells ps)))
some_shown s w cells ps from some =
    let lead = leading s (drop from ps) in
    let run = flat w (drop (w * from) cells) lead in
    let rest = shown_of s (drop (length lead + 1) (flat w (drop (w * from) cells) (drop from ps))) in
    let parts = ap (shown_of s) (drop-flat w cells ps from) ∙ run_shown s w (drop (w * from) cells) (drop from ps) in
    omega (arith, ap (λ (xs : Counted). length xs) parts, length-append run rest, length-flat w (drop (w * from) cells) lead, some)

-- as a run's rows are added stretch by stretch
pub run_parts : (s w : ℕ) (cells : List ℤ) (ps : List Pairs) (from : ℕ) (rows after before : Counted) (cut ns : List ℤ)
    → rows ++ shown_of s (drop from (flat w cells ps)) ≡ before → flat w cut ns ≡ flat w (drop (w * from) cells) (leading s (drop from ps)) → after ≡ rows ++ flat w cut ns
    → after ++ shown_of s (drop (from + length (leading s (drop from ps)) + 1) (flat w cells ps)) ≡ before
run_parts s w cells ps from rows after before cut ns so_far same added =
    let n = length (leading s (drop from ps)) in
    let run = flat w (drop (w * from) cells) (leading s (drop from ps)) in
    let rest = shown_of s (drop (n + 1) (flat w (drop (w * from) cells) (drop from ps))) in
    let next : drop (from + n + 1) (flat w cells ps) ≡ drop (n + 1) (flat w (drop (w * from) cells) (drop from ps)) =
    (let k : from + n + 1 ≡ from + (n + 1) = omega arith in ap (λ m. drop m (flat w cells ps)) k)
    ∙ sym (drop-drop (n + 1) from (flat w cells ps)) ∙ ap (drop (n + 1)) (drop-flat w cells ps from) in
    (λ i. (added ∙ ap (λ (xs : Counted). rows ++ xs) same) i ++ shown_of s (next i))
    ∙ append_assoc rows run rest
    ∙ ap (λ (xs : Counted). rows ++ xs) (sym (run_shown s w (drop (w * from) cells) (drop from ps)) ∙ ap (shown_of s) (sym (drop-flat w cells ps from)))
    ∙ so_far

-- more is shown than was added
pub some_more : (rows rest old all : Counted) → rows ++ rest ≡ old ++ all → length old ≤ length rows → 0 < length rest → all ≢ []
some_more rows rest old all e longer some = λ none.
    let left = length-append rows rest in
    let right = length-append old all in
    let both = ap (λ (xs : Counted). length xs) e in
    let zero = ap (λ (xs : Counted). length xs) none in
    absurd (omega (arith, left, right, both, zero, longer, some))

-- where one of them is shown, a page has a row to take
pub page_needs : (limit : ℕ) (rows run rest all : Counted) → rows ++ (run ++ rest) ≡ all → run ≢ [] → 0 < limit → take limit all ≢ []
page_needs zero rows run rest all e some l = absurd (omega (arith, l))
page_needs (suc limit) rows run rest [] e some l = λ _.
    let none : length (rows ++ (run ++ rest)) ≡ 0 = ap (λ (xs : Counted). length xs) e in
    absurd (some (no_rows run (omega (arith, none, length-append rows (run ++ rest), length-append run rest))))
  where
    no_rows : (xs : Counted) → length xs ≡ 0 → xs ≡ []
    no_rows [] z = refl
    no_rows (x ∷ xs) z = absurd (omega (arith, z))
page_needs (suc limit) rows run rest (x ∷ all) e some l = λ h. cc
