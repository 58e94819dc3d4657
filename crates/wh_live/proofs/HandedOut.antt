-- What is read block by block is handed out line by line.
use Rattle.std.proofs.Common.{◌≡◌, ◌≢◌, inl, inr, ℕ, suc, ◌+◌, ◌-◌, ◌<◌, ◌≤◌, ◌==◌, true, false, List, [], ◌∷◌, ◌++◌, length, take, drop, get_or, get_or-take, map, nat_eq, add-one, if◌then◌else◌, length-drop, length-take-le, Option, Some, None, MatchOption, option_map, refl, sym, ap, subst, ◌∙◌, arith, append_assoc, append-nil, drop-cons}
use Rattle.std.specs.Io.KnownBytes.{Consumes, IsAtEnd, Keeps, prepend_known}
use Rattle.std.specs.Cmp.Lexicographic.{pointwise}
use Rattle.std.specs.List.{Contains, ends_with, list_all}
use Rattle.std.proofs.lemmas.Bool.{eq-eqb, eqb-true, false_from_ne_true}
use Rattle.std.proofs.lemmas.List.{drop-drop, drop-take, get_or_default, take-append-drop}
use Rattle.std.proofs.lemmas.List.Elements.{All-append}
use Rattle.memchr.specs.Find.{IsFirstByte, is_byte}
use Rattle.wh_text.specs.Line.{without_lf}
use Rattle.wh_text.proofs.LineLemmas.{whole_lines-none}
use Rattle.wh_text_lines.specs.Words.{lines_of}
use Rattle.wh_text_lines.proofs.ReadingBack.{is_inner, lines_of-line}
use Rattle.wh_live.specs.LinesRead.{FirstLines, HandsOut, IsOneLine}

-- ---- a block

pub left_after : (bytes : List ℕ) (from to count : ℕ) → from + count ≤ to → take (to - (from + count)) (drop (from + count) bytes) ≡ drop count (take (to - from) (drop from bytes))
left_after bytes from to count within =
    let rest = to - (from + count) in
    let all : to - from ≡ count + rest = omega arith in
    ap (take rest) (sym (drop-drop count from bytes)) ∙ sym (drop-take count rest (drop from bytes)) ∙ ap (λ n. drop count (take n (drop from bytes))) (sym all)

pub within_block : (bytes : List ℕ) (from to count : ℕ) → from ≤ to → to ≤ length bytes → count ≤ length (take (to - from) (drop from bytes)) → from + count ≤ to
within_block bytes from to count ordered fits few = omega (arith, few, length-take-le (to - from) (drop from bytes) (omega (arith, length-drop from bytes)))

-- ---- one line

is_lf : (hay : List ℕ) (k d : ℕ) → k < length hay → get_or hay k d ≡ 10 → (get_or hay k 0 == 10) ≡ true
is_lf hay k d within e = eq-eqb (get_or hay k 0) 10 (get_or_default hay k 0 d within ∙ e)

pub one_line_none : (hay : List ℕ) → IsFirstByte (is_byte 10) hay None → IsOneLine hay
one_line_none hay none k d within e = none k (omega arith) within (is_lf hay k d within e)

pub one_line_before : (hay : List ℕ) (place : ℕ) → IsFirstByte (is_byte 10) hay (Some place) → IsOneLine (take place hay)
one_line_before hay place found k d within e =
    let few : length (take place hay) ≡ place = length-take-le place hay (omega (arith, found.0.high)) in
    let same = get_or-take place hay k d (omega (arith, few)) in
    found.0.before k (omega arith) (omega (arith, few)) (is_lf hay k d (omega (arith, few, found.0.high)) (sym same ∙ e))

pub cut_at : (hay : List ℕ) (place : ℕ) → IsFirstByte (is_byte 10) hay (Some place) → hay ≡ take place hay ++ 10 ∷ drop (place + 1) hay
cut_at hay place found =
    let at : drop place hay ≡ 10 ∷ drop (suc place) hay = drop-cons hay place 0 found.0.high ∙ ap (λ b. b ∷ drop (suc place) hay) (eqb-true (get_or hay place 0) 10 found.1) in
    rw add-one (sym (take-append-drop place hay) ∙ ap (λ l. take place hay ++ l) at)

pub line_found : (begun hay left own begun' block : List ℕ) (place : ℕ) → IsOneLine begun → left ≡ hay → IsFirstByte (is_byte 10) left (Some place) → own ≡ begun ++ take place left → begun' ≡ []
    → block ≡ drop (place + 1) hay → IsOneLine own × (begun ++ hay ≡ own ++ 10 ∷ (begun' ++ block))
line_found begun hay left own begun' block place one is found own_is none below = (
  subst IsOneLine (sym own_is) (All-append (λ byte. byte ≡ 10 → ⊥) begun (take place left) one (one_line_before left place found)),
  ap (λ l. begun ++ l) (sym is ∙ cut_at left place found) ∙ sym (append_assoc begun (take place left) (10 ∷ drop (place + 1) left))
      ∙ ap (λ l. l ++ 10 ∷ drop (place + 1) left) (sym own_is) ∙ ap (λ l. own ++ 10 ∷ drop (place + 1) l) is ∙ ap (λ l. own ++ 10 ∷ l) (sym below) ∙ ap (λ l. own ++ 10 ∷ (l ++ block)) (sym none),
)

pub line_goes_on : (begun left new : List ℕ) → IsOneLine begun → IsFirstByte (is_byte 10) left None → new ≡ begun ++ left → IsOneLine new
line_goes_on begun left new one none is = subst IsOneLine (sym is) (All-append (λ byte. byte ≡ 10 → ⊥) begun left one (one_line_none left none))

pub lacks_lf : (front back : List ℕ) → IsOneLine (front ++ back) → Contains (front ++ back) 10 → ⊥
lacks_lf front back one has = one has.0 10 has.1 has.2

-- ---- known bytes

pub kept_by_refill : (start : Option (List ℕ)) (begun block : List ℕ) (before after : Option (List ℕ)) → Keeps start (prepend_known begun before) → Consumes before after block
    → Keeps start (prepend_known (begun ++ block) after)
kept_by_refill None begun block before after kept read = tt
kept_by_refill (Some xs) begun block None after kept read = absurd kept
kept_by_refill (Some xs) begun block (Some ys) None kept read = absurd read
kept_by_refill (Some xs) begun block (Some ys) (Some zs) kept read = append_assoc begun block zs ∙ ap (λ l. begun ++ l) (sym read) ∙ kept

pub kept_by_failure : (start : Option (List ℕ)) (begun block begun' block' : List ℕ) (before after : Option (List ℕ)) → Keeps start (prepend_known begun before) → Consumes before after block
    → begun' ≡ begun → block' ≡ block → Keeps start (prepend_known (begun' ++ block') after)
kept_by_failure start begun block begun' block' before after kept read one two = rw (one, two) (kept_by_refill start begun block before after kept read)

pub kept_by_none : (start : Option (List ℕ)) (begun : List ℕ) (before after : Option (List ℕ)) → Keeps start (prepend_known begun before) → Keeps before after
    → Keeps start (prepend_known begun after)
kept_by_none None begun before after kept same = tt
kept_by_none (Some xs) begun None after kept same = absurd kept
kept_by_none (Some xs) begun (Some ys) None kept same = absurd same
kept_by_none (Some xs) begun (Some ys) (Some zs) kept same = ap (λ l. begun ++ l) same ∙ kept

pub hands_line : (start : Option (List ℕ)) (bytes own below : List ℕ) (rest : Option (List ℕ)) → Keeps start (prepend_known bytes rest) → IsOneLine own → bytes ≡ own ++ 10 ∷ below
    → HandsOut start (Some own) (prepend_known below rest)
hands_line None bytes own below rest kept one e = tt
hands_line (Some xs) bytes own below None kept one e = absurd kept
hands_line (Some xs) bytes own below (Some ys) kept one e = (one, inl (sym kept ∙ ap (λ l. l ++ ys) e ∙ append_assoc own (10 ∷ below) ys))

pub hands_last : {V : Type 0} (items : V → List ℕ) (start : Option (List ℕ)) (begun : List ℕ) (rest : Option (List ℕ)) (line : Option V) → Keeps start (prepend_known begun rest) → IsAtEnd rest
    → IsOneLine begun → MatchOption line (begun ≡ []) (λ own. (items own ≡ begun) × (items own ≢ [])) → HandsOut start (option_map items line) (prepend_known [] rest)
hands_last items None begun rest line kept end one is = tt
hands_last items (Some xs) begun None line kept end one is = absurd kept
hands_last items (Some xs) begun (Some ys) None kept end one is = (sym kept ∙ ap (λ l. begun ++ l) end ∙ append-nil begun ∙ is, end)
hands_last items (Some xs) begun (Some ys) (Some own) kept end one is =
    (subst IsOneLine (sym is.0) one, inr (sym kept ∙ ap (λ l. begun ++ l) end ∙ append-nil begun ∙ sym is.0, is.1, end))

-- ---- all lines

all_inner : (line : List ℕ) → IsOneLine line → list_all is_inner line ≡ true
all_inner [] one = refl
all_inner (b ∷ bs) one =
    let other : (b == 10) ≡ false = false_from_ne_true (b == 10) (λ t. one 0 0 (omega arith) (eqb-true b 10 t)) in
    rw (other, all_inner bs (λ k d l. one (suc k) d (omega arith))) refl

no_end : (line : List ℕ) → IsOneLine line → line ≢ [] → ends_with nat_eq line (10 ∷ []) ≡ false
no_end [] one some = absurd (some refl)
no_end (b ∷ bs) one some =
    let line = b ∷ bs in
    let at = length line - 1 in
    let last = get_or line at 0 in
    let other : (10 == last) ≡ false = false_from_ne_true (10 == last) (λ t. one at 0 (omega arith) (sym (eqb-true 10 last t))) in
    ap (pointwise nat_eq (10 ∷ [])) (drop-cons line at 0 (omega arith)) ∙ rw other refl

last_line : (line : List ℕ) → IsOneLine line → line ≢ [] → lines_of line ≡ line ∷ []
last_line [] one some = absurd (some refl)
last_line (b ∷ bs) one some =
    let line = b ∷ bs in
    ap (map without_lf) (whole_lines-none line (omega arith) (λ j h t. one j 0 h (eqb-true (get_or line j 0) 10 t)))
    ∙ ap (λ ends. (if ends then take (length line - 1) line else line) ∷ []) (no_end line one some)

pub first_lines : FirstLines
first_lines bytes line below (one, inl e) = ap lines_of e ∙ lines_of-line line below (all_inner line one)
first_lines bytes line below (one, inr (e, some, none)) = ap lines_of e ∙ last_line line one some ∙ ap (λ rest. line ∷ lines_of rest) (sym none)
