-- A list that was written is read back.
use Rattle.std.proofs.Common.{◌≡◌, ◌≢◌, ℕ, ◌+◌, ◌-◌, ◌<◌, ◌==◌, ◌||◌, Bool, true, false, not, suc, zero, List, [], ◌∷◌, ◌++◌, length, map, take, drop, get_or, nat_eq, if◌then◌else◌, length-append, Some, Ok, refl, ap, sym, ◌∙◌, arith}
use Rattle.std.specs.Prelude.{AllPairs}
use Rattle.std.specs.Cmp.Lexicographic.{pointwise}
use Rattle.std.specs.List.{All, ends_with, list_all, join_with_byte, position_or_len}
use Rattle.std.specs.Str.{bytes_eq}
use Rattle.std.proofs.Math.Seq.{take-append_seam, drop-append_seam}
use Rattle.std.proofs.lemmas.Bool.{and_parts, lt-ltb, false_from_ne_true}
use Rattle.std.proofs.lemmas.List.{append-nil, append_assoc}
use Rattle.std.proofs.lemmas.List.Folds.{list_all-append}
use Rattle.std.proofs.lemmas.List.Splits.{slice_split_none, slice_split_at}
use Rattle.std.proofs.lemmas.List.Sums.{position_or_len_is}
use Rattle.std.proofs.lemmas.Slice.Eq.{bytes_eq-Decides}
use Rattle.wh_dag.specs.Written.{name_of, number_of}
use Rattle.wh_strategy.specs.declared.expression.Expression.{Expression}
use Rattle.wh_strategy.specs.declared.expression.Expression.TheVariants.{Comp, Inst}
use Rattle.wh_text.specs.Line.{is_blank, whole_lines, without_lf}
use Rattle.wh_text_lines.specs.Words.{is_word, lines_of, words_of}
use Rattle.wh_text_lines.specs.ExpressionText.{expression_of, views_of, words_for, expression_text}
use Rattle.wh_text_lines.specs.StrategyGrammar.{said_by, said_in}
use Rattle.wh_text_lines.specs.StrategyText.{strategy_text}
use Rattle.wh_text_lines.specs.ReadsBack.{is_plain, IsWithin, ReadsBack}
use Rattle.wh_text_lines.proofs.Lists.{after, said_together-after, strategy_read}

abbrev pub is_kept : ℕ → Bool
is_kept b = not (is_blank b || b == 10)

-- a byte of a word parts neither words nor lines
neither : (x y : Bool) → not (x || y) ≡ true → (x ≡ false) × (y ≡ false)
neither true y h = cc
neither false true h = cc
neither false false h = (refl, refl)

no_blank : (word : List ℕ) → list_all is_kept word ≡ true → (k d : ℕ) → k < length word → is_blank (get_or word k d) ≡ false
no_blank [] h k d l = absurd (omega arith)
no_blank (b ∷ bs) h zero d l = (neither (is_blank b) (b == 10) (and_parts (is_kept b) (list_all is_kept bs) h).0).0
no_blank (b ∷ bs) h (suc k) d l = no_blank bs (and_parts (is_kept b) (list_all is_kept bs) h).1 k d (omega arith)

-- bytes without an LF
abbrev pub is_inner : ℕ → Bool
is_inner b = not (b == 10)

inner : (word : List ℕ) → list_all is_kept word ≡ true → list_all is_inner word ≡ true
inner [] h = refl
inner (b ∷ bs) h =
    let parts = and_parts (is_kept b) (list_all is_kept bs) h in
    rw ((neither (is_blank b) (b == 10) parts.0).1, inner bs parts.1) refl

pub inner_join : (words : List (List ℕ)) → list_all is_plain words ≡ true → list_all is_inner (join_with_byte 32 words) ≡ true
inner_join [] h = refl
inner_join (word ∷ []) h = inner word (and_parts (is_word word) (list_all is_kept word) (and_parts (is_plain word) true h).0).1
inner_join (word ∷ next ∷ words) h =
    let parts = and_parts (is_plain word) (list_all is_plain (next ∷ words)) h in
    rw (list_all-append is_inner word (32 ∷ join_with_byte 32 (next ∷ words)), inner word (and_parts (is_word word) (list_all is_kept word) parts.0).1)
    (inner_join (next ∷ words) parts.1)

-- a line that ends at its LF, above other bytes
whole_lines-line : (line below : List ℕ) → list_all is_inner line ≡ true → whole_lines (line ++ 10 ∷ below) ≡ (line ++ 10 ∷ []) ∷ whole_lines below
whole_lines-line [] below h = refl
whole_lines-line (b ∷ bs) below h =
    let parts = and_parts (is_inner b) (list_all is_inner bs) h in
    rw (not_10 (b == 10) parts.0, whole_lines-line bs below parts.1) refl
  where
    not_10 : (t : Bool) → not t ≡ true → t ≡ false
    not_10 true e = cc
    not_10 false e = refl

-- a line without the LF at its end
without_lf-line : (line : List ℕ) → without_lf (line ++ 10 ∷ []) ≡ line
without_lf-line line =
    let whole = line ++ 10 ∷ [] in
    let one : length whole - length {A = ℕ} (10 ∷ []) ≡ length line = omega (arith, length-append line (10 ∷ [])) in
    let before : length whole - 1 ≡ length line = omega (arith, length-append line (10 ∷ [])) in
    let ends : ends_with nat_eq whole (10 ∷ []) ≡ true = ap (λ k. pointwise nat_eq (10 ∷ []) (drop k whole)) one ∙ ap (pointwise nat_eq (10 ∷ [])) (drop-append_seam line (10 ∷ [])) in
    ap (λ t. if t then take (length whole - 1) whole else whole) ends ∙ ap (λ k. take k whole) before ∙ take-append_seam line (10 ∷ [])

pub lines_of-line : (line below : List ℕ) → list_all is_inner line ≡ true → lines_of (line ++ 10 ∷ below) ≡ line ∷ lines_of below
lines_of-line line below h = ap (map without_lf) (whole_lines-line line below h) ∙ ap (λ first. first ∷ lines_of below) (without_lf-line line)

-- words with a space between each two
pub words_of-join : (words : List (List ℕ)) → list_all is_plain words ≡ true → words_of (join_with_byte 32 words) ≡ words
words_of-join [] h = refl
words_of-join (word ∷ []) h =
    let own = and_parts (is_word word) (list_all is_kept word) (and_parts (is_plain word) true h).0 in
    rw (slice_split_none is_blank word (no_blank word own.1), own.0) refl
words_of-join (word ∷ next ∷ words) h =
    let parts = and_parts (is_plain word) (list_all is_plain (next ∷ words)) h in
    let own = and_parts (is_word word) (list_all is_kept word) parts.0 in
    rw (slice_split_at is_blank word 32 (join_with_byte 32 (next ∷ words)) (no_blank word own.1) refl, own.0)
    (ap (λ ws. word ∷ ws) (words_of-join (next ∷ words) parts.1))

-- a view of distinct names has the number that its name stands for
pub number_of-name : (names : List (List ℕ)) (view : ℕ) → AllPairs (λ first second. first ≢ second) names → view < length names → number_of names (name_of names view) ≡ Some view
number_of-name names view distinct within =
    let name = name_of names view in
    let place : position_or_len (λ n. bytes_eq n name) names ≡ view =
    position_or_len_is (λ n. bytes_eq n name) names view [] (omega arith)
    (λ k l. false_from_ne_true (bytes_eq (get_or names k []) name) (λ e. distinct k view [] l within ((bytes_eq-Decides (get_or names k []) name).0 e)))
    (λ _. (bytes_eq-Decides name name).1 refl) in
    rw (place, lt-ltb view (length names) within) refl

pub views_of-names : (names : List (List ℕ)) (views : List ℕ) → AllPairs (λ first second. first ≢ second) names → All (λ view. view < length names) views → views_of names (map (name_of names) views) ≡ Some views
views_of-names names [] distinct within = refl
views_of-names names (view ∷ views) distinct within =
    rw (number_of-name names view distinct (within 0 0 (omega arith)), views_of-names names views distinct (λ k d l. within (suc k) d (omega arith))) refl

-- the words that say an expression
pub expression_of-words : (names : List (List ℕ)) (e : Expression) → AllPairs (λ first second. first ≢ second) names → IsWithin (length names) e → expression_of names (words_for names e) ≡ Some e
expression_of-words names (Comp target []) distinct within = absurd (omega (arith, within.1))
expression_of-words names (Comp target (source ∷ sources)) distinct within =
    rw (number_of-name names target distinct within.0, views_of-names names (source ∷ sources) distinct within.2) refl
expression_of-words names (Inst target) distinct within = rw (number_of-name names target distinct within) refl

said_by-words : (names : List (List ℕ)) (expression : Expression) → AllPairs (λ first second. first ≢ second) names → IsWithin (length names) expression
    → said_by names (words_for names expression) ≡ Some (expression ∷ [])
said_by-words names (Comp target []) distinct within = absurd (omega (arith, within.1))
said_by-words names (Comp target (source ∷ sources)) distinct within =
    rw (number_of-name names target distinct within.0, views_of-names names (source ∷ sources) distinct within.2) refl
said_by-words names (Inst target) distinct within = rw (number_of-name names target distinct within) refl

plain_names : (names : List (List ℕ)) (views : List ℕ) → All (λ name. is_plain name ≡ true) names → All (λ view. view < length names) views → list_all is_plain (map (name_of names) views) ≡ true
plain_names names [] plain within = refl
plain_names names (view ∷ views) plain within =
    rw (plain view [] (within 0 0 (omega arith)), plain_names names views plain (λ k d l. within (suc k) d (omega arith))) refl

pub plain_words : (names : List (List ℕ)) (expression : Expression) → All (λ name. is_plain name ≡ true) names → IsWithin (length names) expression → list_all is_plain (words_for names expression) ≡ true
plain_words names (Comp target sources) plain within = rw (plain target [] within.0, plain_names names sources plain within.2) refl
plain_words names (Inst target) plain within = rw (plain target [] within) refl

said_in-text : (names : List (List ℕ)) (list : List Expression) → All (λ name. is_plain name ≡ true) names → AllPairs (λ first second. first ≢ second) names → All (IsWithin (length names)) list
    → said_in names (strategy_text names list) ≡ map (λ expression. Some (expression ∷ [])) list
said_in-text names [] plain distinct within = refl
said_in-text names (e ∷ es) plain distinct within =
    let own = within 0 e (omega arith) in
    let words = plain_words names e plain own in
    let text = expression_text names e in
    let below = strategy_text names es in
    ap (said_in names) (append_assoc text (10 ∷ []) below)
    ∙ ap (map (λ line. said_by names (words_of line))) (lines_of-line text below (inner_join (words_for names e) words))
    ∙ ap (λ ws. said_by names ws ∷ said_in names below) (words_of-join (words_for names e) words)
    ∙ ap (λ said. said ∷ said_in names below) (said_by-words names e distinct own)
    ∙ ap (λ rest. Some (e ∷ []) ∷ rest) (said_in-text names es plain distinct (λ k d l. within (suc k) d (omega arith)))

after-said : (number : ℕ) (list more : List Expression) → after number list (map (λ expression. Some (expression ∷ [])) more) ≡ Ok (list ++ more)
after-said number list [] = ap Ok (sym (append-nil list))
after-said number list (e ∷ es) = after-said (number + 1) (list ++ e ∷ []) es ∙ ap Ok (append_assoc list (e ∷ []) es)

pub reads_back : ReadsBack
reads_back names list plain distinct within =
    strategy_read names (strategy_text names list)
    ∙ said_together-after (said_in names (strategy_text names list)) ∙ ap (after 0 []) (said_in-text names list plain distinct within) ∙ after-said 0 [] list
