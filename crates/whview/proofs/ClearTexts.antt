-- The text of a plan has neither an `@` nor a CR, so that it stands under a heading as it is.
use Rattle.std.proofs.Common.{◌≡◌, ◌∙◌, ℕ, ◌<◌, ◌≤◌, ◌==◌, ◌&&◌, Bool, true, false, cond, List, [], ◌∷◌, ◌++◌, length, map, take, drop, refl, ap, zero, suc, ◌-◌, arith}
use Rattle.std.specs.Prelude.{◌^◌, codes, decimal, nat_eq}
use Rattle.std.specs.List.{All, concat, flat_map, join_with_byte, list_all, onto_first}
use Rattle.std.specs.Cmp.Lexicographic.{pointwise}
use Rattle.std.specs.Str.Parse.{AllDigits}
use Rattle.std.proofs.lemmas.Bool.{and_parts, cond_both, false≢true, ne_eqb}
use Rattle.std.proofs.lemmas.Fmt.{decimal_is_IsNumeral_wide}
use Rattle.std.proofs.lemmas.List.Folds.{list_all-append}
use Rattle.std.proofs.lemmas.Str.Parse.{digit_from_value}
use Rattle.wh_cert.specs.declared.certificate.Certificate.{Certificate}
use Rattle.wh_cert.specs.declared.certificate.Certificate.TheVariants.{Pairs, Search}
use Rattle.wh_cert.specs.declared.certificate.PairMin.{PairMin}
use Rattle.wh_cert.specs.declared.certificate.Scope.{Scope}
use Rattle.wh_cert.specs.declared.certificate.Scope.TheVariants as scope
use Rattle.wh_cert.specs.declared.tree.TreeNode.{TreeNode}
use Rattle.wh_cert.specs.declared.tree.TreeNode.TheVariants as node
use Rattle.wh_dag.specs.Written.{name_of}
use Rattle.wh_strategy.specs.declared.expression.Expression.{Expression}
use Rattle.wh_strategy.specs.declared.expression.Expression.TheVariants.{Comp, Inst}
use Rattle.wh_text.specs.Line.{whole_lines}
use Rattle.wh_text.specs.NameForm.{is_name}
use Rattle.wh_text_bundle.proofs.CutLemmas.{concat-whole_lines}
use Rattle.wh_text_bundle.specs.PartLine.{has_cr, is_plain, unescaped, without_cr}
use Rattle.wh_text_bundle.specs.Text.{body_text, line_text as text_of_line}
use Rattle.wh_text_lines.specs.ExpressionText.{expression_text, words_for}
use Rattle.wh_text_lines.specs.PlanReadsBack.{IsCertificateWritable, IsNodeWithin, IsPairWithin, IsWritable}
use Rattle.wh_text_lines.specs.PlanText.{certificate_text, line_text, pair_words, plan_text, scope_text}
use Rattle.wh_text_lines.specs.ReadsBack.{IsWithin}
use Rattle.wh_text_lines.specs.StrategyText.{strategy_text}
use Rattle.wh_text_lines.specs.TreeText.{branch_words, node_text, parted_text, tree_text}
use Rattle.whview.proofs.NamesRead.{is_clear, name-clear}

-- ---- texts without an `@` and a CR

both : (a b : Bool) → a ≡ true → b ≡ true → (a && b) ≡ true
both true b h k = k
both false b h k = h

clear_append : (xs ys : List ℕ) → list_all is_clear xs ≡ true → list_all is_clear ys ≡ true → list_all is_clear (xs ++ ys) ≡ true
clear_append xs ys h k = list_all-append is_clear xs ys ∙ both (list_all is_clear xs) (list_all is_clear ys) h k

clear_join : (words : List (List ℕ)) → list_all (list_all is_clear) words ≡ true → list_all is_clear (join_with_byte 32 words) ≡ true
clear_join [] h = refl
clear_join (word ∷ []) h = (and_parts (list_all is_clear word) true h).0
clear_join (word ∷ next ∷ words) h =
    let parts = and_parts (list_all is_clear word) (list_all (list_all is_clear) (next ∷ words)) h in
    clear_append word (32 ∷ join_with_byte 32 (next ∷ words)) parts.0 (clear_join (next ∷ words) parts.1)

words_all : (word : List ℕ) (words : List (List ℕ)) → list_all is_clear word ≡ true → list_all (list_all is_clear) words ≡ true → list_all (list_all is_clear) (word ∷ words) ≡ true
words_all word words h k = both (list_all is_clear word) (list_all (list_all is_clear) words) h k

clear_line : (words : List (List ℕ)) → list_all (list_all is_clear) words ≡ true → list_all is_clear (line_text words) ≡ true
clear_line words h = clear_append (join_with_byte 32 words) (10 ∷ []) (clear_join words h) refl

-- ---- numbers and names

clear_digits : (ds : List ℕ) → AllDigits 10 ds → list_all is_clear ds ≡ true
clear_digits [] digits = refl
clear_digits (c ∷ cs) digits = both (is_clear c) (list_all is_clear cs) (clear c (digit_from_value c digits.0)) (clear_digits cs digits.1)
  where
    clear : (c : ℕ) → (48 ≤ c) × (c ≤ 57) → is_clear c ≡ true
    clear c within =
        let low : 48 ≤ c = within.0 in
        let high : c ≤ 57 = within.1 in
        rw (ne_eqb c 64 (λ e. omega arith), ne_eqb c 13 (λ e. omega arith)) refl

clear_decimal : (n : ℕ) → n < 2 ^ 128 → list_all is_clear (decimal n) ≡ true
clear_decimal n small = clear_digits (decimal n) (decimal_is_IsNumeral_wide n (omega arith)).0.1

clear_name : (names : List (List ℕ)) → All (λ name. is_name name ≡ true) names → (view : ℕ) → view < length names → list_all is_clear (name_of names view) ≡ true
clear_name names formed view within = name-clear (name_of names view) (formed view [] within)

clear_names : (names : List (List ℕ)) → All (λ name. is_name name ≡ true) names → (views : List ℕ) → All (λ view. view < length names) views → list_all (list_all is_clear) (map (name_of names) views) ≡ true
clear_names names formed [] within = refl
clear_names names formed (v ∷ vs) within =
    both (list_all is_clear (name_of names v)) (list_all (list_all is_clear) (map (name_of names) vs))
    (clear_name names formed v (within 0 v (omega arith)))
    (clear_names names formed vs (λ k d l. within (suc k) d (omega arith)))

-- ---- the lines of a plan

words_clear : (names : List (List ℕ)) → All (λ name. is_name name ≡ true) names → (e : Expression) → IsWithin (length names) e → list_all (list_all is_clear) (words_for names e) ≡ true
words_clear names formed (Comp target sources) within =
    words_all (codes "comp") (name_of names target ∷ codes "from" ∷ map (name_of names) sources) refl
    (words_all (name_of names target) (codes "from" ∷ map (name_of names) sources) (clear_name names formed target within.0)
    (words_all (codes "from") (map (name_of names) sources) refl (clear_names names formed sources within.2)))
words_clear names formed (Inst target) within =
    words_all (codes "inst") (name_of names target ∷ []) refl (words_all (name_of names target) [] (clear_name names formed target within) refl)

expression_clear : (names : List (List ℕ)) → All (λ name. is_name name ≡ true) names → (e : Expression) → IsWithin (length names) e → list_all is_clear (expression_text names e) ≡ true
expression_clear names formed e within = clear_join (words_for names e) (words_clear names formed e within)

list_clear : (names : List (List ℕ)) → All (λ name. is_name name ≡ true) names → (list : List Expression) → All (IsWithin (length names)) list → list_all is_clear (strategy_text names list) ≡ true
list_clear names formed [] within = refl
list_clear names formed (e ∷ es) within =
    clear_append (line_text (words_for names e)) (strategy_text names es)
    (clear_line (words_for names e) (words_clear names formed e (within 0 e (omega arith))))
    (list_clear names formed es (λ k d l. within (suc k) d (omega arith)))

pair_clear : (names : List (List ℕ)) → All (λ name. is_name name ≡ true) names → (pair : PairMin) → IsPairWithin (length names) pair → list_all (list_all is_clear) (pair_words names pair) ≡ true
pair_clear names formed pair within =
    let parent = name_of names pair.parent in
    let first = name_of names pair.first in
    let second = name_of names pair.second in
    let least = decimal pair.least in
    words_all (codes "pair") (parent ∷ first ∷ second ∷ least ∷ []) refl
    (words_all parent (first ∷ second ∷ least ∷ []) (clear_name names formed pair.parent within.parent)
    (words_all first (second ∷ least ∷ []) (clear_name names formed pair.first within.first)
    (words_all second (least ∷ []) (clear_name names formed pair.second within.second) (words_all least [] (clear_decimal pair.least within.least) refl))))

pairs_clear : (names : List (List ℕ)) → All (λ name. is_name name ≡ true) names → (pairs : List PairMin) → All (IsPairWithin (length names)) pairs → list_all is_clear (certificate_text names (Pairs pairs)) ≡ true
pairs_clear names formed [] within = refl
pairs_clear names formed (p ∷ ps) within =
    clear_append (line_text (pair_words names p)) (certificate_text names (Pairs ps))
    (clear_line (pair_words names p) (pair_clear names formed p (within 0 p (omega arith))))
    (pairs_clear names formed ps (λ k d l. within (suc k) d (omega arith)))

parted_clear : (names : List (List ℕ)) → All (λ name. is_name name ≡ true) names → (list : List Expression) → All (IsWithin (length names)) list → list_all is_clear (parted_text names list) ≡ true
parted_clear names formed [] within = refl
parted_clear names formed (e ∷ es) within =
    clear_append (codes "; " ++ expression_text names e) (parted_text names es)
    (clear_append (codes "; ") (expression_text names e) refl (expression_clear names formed e (within 0 e (omega arith))))
    (parted_clear names formed es (λ k d l. within (suc k) d (omega arith)))

node_clear : (names : List (List ℕ)) → All (λ name. is_name name ≡ true) names → (own : TreeNode) → IsNodeWithin (length names) own → list_all is_clear (node_text names own) ≡ true
node_clear names formed node.Bound within = refl
node_clear names formed (node.Cycle []) within = refl
node_clear names formed (node.Cycle (first ∷ rest)) within =
    clear_append (codes "cycle ") (expression_text names first ++ parted_text names rest) refl
    (clear_append (expression_text names first) (parted_text names rest)
    (expression_clear names formed first (within.1 0 first (omega arith)))
    (parted_clear names formed rest (λ k d l. within.1 (suc k) d (omega arith))))
node_clear names formed (node.Branch couple) within =
    clear_join (branch_words names couple)
    (words_all (codes "branch") (name_of names couple.lower ∷ name_of names couple.higher ∷ []) refl
    (words_all (name_of names couple.lower) (name_of names couple.higher ∷ []) (clear_name names formed couple.lower within.0)
    (words_all (name_of names couple.higher) [] (clear_name names formed couple.higher within.1) refl)))

tree_clear : (names : List (List ℕ)) → All (λ name. is_name name ≡ true) names → (nodes : List TreeNode) → All (IsNodeWithin (length names)) nodes → list_all is_clear (tree_text names nodes) ≡ true
tree_clear names formed [] within = refl
tree_clear names formed (own ∷ nodes) within =
    clear_append (node_text names own ++ 10 ∷ []) (tree_text names nodes)
    (clear_append (node_text names own) (10 ∷ []) (node_clear names formed own (within 0 own (omega arith))) refl)
    (tree_clear names formed nodes (λ k d l. within (suc k) d (omega arith)))

certificate_clear : (names : List (List ℕ)) → All (λ name. is_name name ≡ true) names → (own : Scope) (certificate : Certificate) → IsCertificateWritable names own certificate → list_all is_clear (certificate_text names certificate) ≡ true
certificate_clear names formed scope.All (Pairs pairs) h = pairs_clear names formed pairs h
certificate_clear names formed scope.OneWay (Search nodes) h = tree_clear names formed nodes h.within
certificate_clear names formed scope.All (Search nodes) h = absurd h
certificate_clear names formed scope.OneWay (Pairs pairs) h = absurd h

scope_clear : (own : Scope) → list_all is_clear (line_text (codes "scope" ∷ scope_text own ∷ [])) ≡ true
scope_clear scope.All = refl
scope_clear scope.OneWay = refl

pub plan_clear : (names : List (List ℕ)) → All (λ name. is_name name ≡ true) names → (own : Scope) (work : ℕ) (list : List Expression) (certificate : Certificate)
    → IsWritable names own work list certificate → list_all is_clear (plan_text names own work list certificate) ≡ true
plan_clear names formed own work list certificate h =
    let second = line_text (codes "work" ∷ decimal work ∷ []) in
    let rest = strategy_text names list ++ certificate_text names certificate in
    clear_append (line_text (codes "scope" ∷ scope_text own ∷ [])) (second ++ rest) (scope_clear own)
    (clear_append second rest (clear_line (codes "work" ∷ decimal work ∷ []) (words_all (codes "work") (decimal work ∷ []) refl (words_all (decimal work) [] (clear_decimal work h.work_fits) refl)))
    (clear_append (strategy_text names list) (certificate_text names certificate) (list_clear names formed list h.list_within) (certificate_clear names formed own certificate h.certified)))

-- ---- such a text is that of its lines

onto_clear : (b : ℕ) (ls : List (List ℕ)) → is_clear b ≡ true → list_all (list_all is_clear) ls ≡ true → list_all (list_all is_clear) (onto_first b ls) ≡ true
onto_clear b [] f h = both (is_clear b && true) true (both (is_clear b) true f refl) refl
onto_clear b (l ∷ ls) f h =
    let parts = and_parts (list_all is_clear l) (list_all (list_all is_clear) ls) h in
    both (is_clear b && list_all is_clear l) (list_all (list_all is_clear) ls) (both (is_clear b) (list_all is_clear l) f parts.0) parts.1

lines_clear : (text : List ℕ) → list_all is_clear text ≡ true → list_all (list_all is_clear) (whole_lines text) ≡ true
lines_clear [] h = refl
lines_clear (b ∷ bs) h =
    let parts = and_parts (is_clear b) (list_all is_clear bs) h in
    cond_both (b == 10) _ _ (λ ls. list_all (list_all is_clear) ls ≡ true)
    (λ _. both (is_clear b && true) (list_all (list_all is_clear) (whole_lines bs)) (both (is_clear b) true parts.0 refl) (lines_clear bs parts.1))
    (λ _. onto_clear b (whole_lines bs) parts.0 (lines_clear bs parts.1))

not_at : (c : ℕ) → is_clear c ≡ true → (64 == c) ≡ false
not_at c h = ne_eqb 64 c (λ e. false≢true (ap is_clear e ∙ h))

not_cr : (c : ℕ) → is_clear c ≡ true → (13 == c) ≡ false
not_cr c h = ne_eqb 13 c (λ e. false≢true (ap is_clear e ∙ h))

plain_clear : (line : List ℕ) → list_all is_clear line ≡ true → is_plain line ≡ true
plain_clear [] h = refl
plain_clear (c ∷ cs) h = rw (not_at c (and_parts (is_clear c) (list_all is_clear cs) h).0) refl

pub lines_plain : (ls : List (List ℕ)) → list_all (list_all is_clear) ls ≡ true → list_all is_plain ls ≡ true
lines_plain [] h = refl
lines_plain (l ∷ ls) h =
    let parts = and_parts (list_all is_clear l) (list_all (list_all is_clear) ls) h in
    both (is_plain l) (list_all is_plain ls) (plain_clear l parts.0) (lines_plain ls parts.1)

pub text_plain : (text : List ℕ) → list_all is_clear text ≡ true → list_all is_plain (whole_lines text) ≡ true
text_plain text h = lines_plain (whole_lines text) (lines_clear text h)

same_unescaped : (line : List ℕ) → list_all is_clear line ≡ true → unescaped line ≡ line
same_unescaped [] h = refl
same_unescaped (c ∷ cs) h = rw (not_at c (and_parts (is_clear c) (list_all is_clear cs) h).0) refl

clear_drop : (n : ℕ) (xs : List ℕ) → list_all is_clear xs ≡ true → list_all is_clear (drop n xs) ≡ true
clear_drop zero xs h = h
clear_drop (suc n) [] h = refl
clear_drop (suc n) (x ∷ xs) h = clear_drop n xs (and_parts (is_clear x) (list_all is_clear xs) h).1

no_cr : (end : List ℕ) → list_all is_clear end ≡ true → pointwise nat_eq (13 ∷ 10 ∷ []) end ≡ false
no_cr [] h = refl
no_cr (c ∷ cs) h = rw (not_cr c (and_parts (is_clear c) (list_all is_clear cs) h).0) refl

same_without_cr : (line : List ℕ) → list_all is_clear line ≡ true → without_cr line ≡ line
same_without_cr line h =
    let none : has_cr line ≡ false = no_cr (drop (length line - 2) line) (clear_drop (length line - 2) line h) in
    ap (λ b. cond b (take (length line - 2) line ++ 10 ∷ []) line) none

lines_text : (ls : List (List ℕ)) → list_all (list_all is_clear) ls ≡ true → flat_map (text_of_line false) ls ≡ concat ls
lines_text [] h = refl
lines_text (l ∷ ls) h =
    let parts = and_parts (list_all is_clear l) (list_all (list_all is_clear) ls) h in
    ap (λ z. z ++ flat_map (text_of_line false) ls) (ap without_cr (same_unescaped l parts.0) ∙ same_without_cr l parts.0)
    ∙ ap (λ z. l ++ z) (lines_text ls parts.1)

pub body_clear : (text : List ℕ) → list_all is_clear text ≡ true → body_text false text ≡ text
body_clear text h = lines_text (whole_lines text) (lines_clear text h) ∙ concat-whole_lines text
