-- A node of a tree that was written is read back.
use Rattle.std.proofs.Common.{◌≡◌, ◌≢◌, ℕ, ◌<◌, Bool, true, false, not, suc, zero, List, [], ◌∷◌, ◌++◌, length, map, get_or, Some, refl, ap, subst, sym, ◌∙◌, arith}
use Rattle.std.specs.Prelude.{AllPairs, codes, option_map}
use Rattle.std.specs.List.{All, list_all, join_with_byte, slice_split}
use Rattle.std.proofs.lemmas.Bool.{and_parts}
use Rattle.std.proofs.lemmas.List.{append-nil}
use Rattle.std.proofs.lemmas.List.Folds.{list_all-append}
use Rattle.std.proofs.lemmas.List.Splits.{slice_split_none, slice_split_at}
use Rattle.wh_cert.specs.declared.tree.TreeNode.{TreeNode}
use Rattle.wh_cert.specs.declared.tree.TreeNode.TheVariants.{Bound, Cycle, Branch}
use Rattle.wh_dag.specs.Written.{name_of}
use Rattle.wh_strategy.specs.declared.expression.Expression.{Expression}
use Rattle.wh_strategy.specs.declared.expression.Expression.TheVariants.{Comp, Inst}
use Rattle.wh_text_lines.specs.ExpressionText.{expression_text, words_for}
use Rattle.wh_text_lines.specs.NodeLine.{cycle_in, cycled_by, expressions_of, is_parting}
use Rattle.wh_text_lines.specs.PlanLine.{plan_line_of}
use Rattle.wh_text_lines.specs.PlanReadsBack.{IsNodeWithin, is_unparted}
use Rattle.wh_text_lines.specs.ReadsBack.{IsWithin, is_plain}
use Rattle.wh_text_lines.specs.TreeText.{branch_words, node_text, parted_text}
use Rattle.wh_text_lines.specs.Words.{words_of}
use Rattle.wh_text_lines.specs.declared.plan.line.PlanLine.TheVariants.{Searched}
use Rattle.wh_text_lines.proofs.ReadingBack.{expression_of-words, inner_join, is_inner, number_of-name, plain_words, words_of-join}

-- the line of a node says it
pub record NodeReads (names : List (List ℕ)) (own : TreeNode) : Type 0 where
  pub inner : list_all is_inner (node_text names own) ≡ true
  pub some : 0 < length (words_of (node_text names own))
  pub said : plan_line_of names (node_text names own) (words_of (node_text names own)) ≡ Some (Searched own)

-- ---- the parts of a cycle

not_parting : (b : Bool) → not b ≡ true → b ≡ false
not_parting true h = cc
not_parting false h = refl

no_parting : (bs : List ℕ) → is_unparted bs ≡ true → (k d : ℕ) → k < length bs → is_parting (get_or bs k d) ≡ false
no_parting [] h k d l = absurd (omega arith)
no_parting (b ∷ bs) h zero d l = not_parting (is_parting b) (and_parts (not (is_parting b)) (is_unparted bs) h).0
no_parting (b ∷ bs) h (suc k) d l = no_parting bs (and_parts (not (is_parting b)) (is_unparted bs) h).1 k d (omega arith)

unparted_join : (words : List (List ℕ)) → list_all is_unparted words ≡ true → is_unparted (join_with_byte 32 words) ≡ true
unparted_join [] h = refl
unparted_join (word ∷ []) h = (and_parts (is_unparted word) true h).0
unparted_join (word ∷ next ∷ words) h =
    let parts = and_parts (is_unparted word) (list_all is_unparted (next ∷ words)) h in
    rw (list_all-append (λ b. not (is_parting b)) word (32 ∷ join_with_byte 32 (next ∷ words)), parts.0) (unparted_join (next ∷ words) parts.1)

unparted_names : (names : List (List ℕ)) (views : List ℕ) → All (λ name. is_unparted name ≡ true) names → All (λ view. view < length names) views → list_all is_unparted (map (name_of names) views) ≡ true
unparted_names names [] unparted within = refl
unparted_names names (view ∷ views) unparted within =
    rw (unparted view [] (within 0 0 (omega arith)), unparted_names names views unparted (λ k d l. within (suc k) d (omega arith))) refl

unparted_text : (names : List (List ℕ)) (e : Expression) → All (λ name. is_unparted name ≡ true) names → IsWithin (length names) e → is_unparted (expression_text names e) ≡ true
unparted_text names (Comp target sources) unparted within =
    unparted_join (words_for names (Comp target sources)) (rw (unparted target [] within.0, unparted_names names sources unparted within.2) refl)
unparted_text names (Inst target) unparted within = unparted_join (words_for names (Inst target)) (rw (unparted target [] within) refl)

-- a part after the first one
next_part : List (List ℕ) → Expression → List ℕ
next_part names e = 32 ∷ expression_text names e

split_parts : (names : List (List ℕ)) (first : List ℕ) (rest : List Expression) → All (λ name. is_unparted name ≡ true) names → All (IsWithin (length names)) rest → is_unparted first ≡ true
    → slice_split is_parting (first ++ parted_text names rest) ≡ first ∷ map (next_part names) rest
unfolding next_part
split_parts names first [] unparted within h = ap (slice_split is_parting) (append-nil first) ∙ slice_split_none is_parting first (no_parting first h)
split_parts names first (e ∷ es) unparted within h =
    slice_split_at is_parting first 59 ((32 ∷ expression_text names e) ++ parted_text names es) (no_parting first h) refl
    ∙ ap (λ parts. first ∷ parts)
    (split_parts names (32 ∷ expression_text names e) es unparted (λ k d l. within (suc k) d (omega arith)) (unparted_text names e unparted (within 0 e (omega arith))))

words_of-text : (names : List (List ℕ)) (e : Expression) → All (λ name. is_plain name ≡ true) names → IsWithin (length names) e → words_of (expression_text names e) ≡ words_for names e
words_of-text names e plain within = words_of-join (words_for names e) (plain_words names e plain within)

expressions_of-parts : (names : List (List ℕ)) (rest : List Expression) → All (λ name. is_plain name ≡ true) names → AllPairs (λ first second. first ≢ second) names → All (IsWithin (length names)) rest
    → expressions_of names (map words_of (map (next_part names) rest)) ≡ Some rest
unfolding next_part
expressions_of-parts names [] plain distinct within = refl
expressions_of-parts names (e ∷ es) plain distinct within =
    let own = within 0 e (omega arith) in
    ap (λ words. expressions_of names (words ∷ map words_of (map (next_part names) es))) (words_of-text names e plain own)
    ∙ rw (expression_of-words names e distinct own, expressions_of-parts names es plain distinct (λ k d l. within (suc k) d (omega arith))) refl

-- ---- a cycle

no_other_form : (names : List (List ℕ)) (line : List ℕ) (words : List (List ℕ)) → plan_line_of names line (codes "cycle" ∷ words) ≡ option_map Searched (cycled_by names line)
no_other_form names line [] = refl
no_other_form names line (a ∷ []) = refl
no_other_form names line (a ∷ b ∷ []) = refl
no_other_form names line (a ∷ b ∷ c ∷ []) = refl
no_other_form names line (a ∷ b ∷ c ∷ d ∷ []) = refl
no_other_form names line (a ∷ b ∷ c ∷ d ∷ e ∷ words) = refl

cycled : (names : List (List ℕ)) (first : Expression) (rest : List Expression) → All (λ name. is_plain name ≡ true) names → AllPairs (λ a b. a ≢ b) names → All (λ name. is_unparted name ≡ true) names
    → All (IsWithin (length names)) (first ∷ rest) → cycled_by names (node_text names (Cycle (first ∷ rest))) ≡ Some (Cycle (first ∷ rest))
cycled names first rest plain distinct unparted within =
    let own = within 0 first (omega arith) in
    let others : All (IsWithin (length names)) rest = λ k d l. within (suc k) d (omega arith) in
    let line = codes "cycle " ++ expression_text names first in
    ap (λ parts. option_map Cycle (cycle_in names parts)) (split_parts names line rest unparted others (unparted_text names first unparted own))
    ∙ ap (λ words. option_map Cycle (expressions_of names (words ∷ map words_of (map (next_part names) rest)))) (words_of-text names first plain own)
    ∙ rw (expression_of-words names first distinct own, expressions_of-parts names rest plain distinct others) refl

inner_parts : (names : List (List ℕ)) (rest : List Expression) → All (λ name. is_plain name ≡ true) names → All (IsWithin (length names)) rest → list_all is_inner (parted_text names rest) ≡ true
inner_parts names [] plain within = refl
inner_parts names (e ∷ es) plain within =
    rw (list_all-append is_inner (expression_text names e) (parted_text names es), inner_join (words_for names e) (plain_words names e plain (within 0 e (omega arith))))
    (inner_parts names es plain (λ k d l. within (suc k) d (omega arith)))

-- ---- each node

branch_reads : (names : List (List ℕ)) (couple : _) → All (λ name. is_plain name ≡ true) names → AllPairs (λ first second. first ≢ second) names → IsNodeWithin (length names) (Branch couple)
    → NodeReads names (Branch couple)
branch_reads names couple plain distinct within =
    let words = branch_words names couple in
    let all_plain : list_all is_plain words ≡ true = rw (plain couple.lower [] within.0, plain couple.higher [] within.1) refl in
    let read = words_of-join words all_plain in
    record {
      inner = inner_join words all_plain;
      some = subst (λ ws. 0 < length ws) (sym read) (omega arith);
      said = ap (plan_line_of names (join_with_byte 32 words)) read ∙ rw (number_of-name names couple.lower distinct within.0, number_of-name names couple.higher distinct within.1) refl;
    }

pub node_reads : (names : List (List ℕ)) (own : TreeNode) → All (λ name. is_plain name ≡ true) names → AllPairs (λ first second. first ≢ second) names → All (λ name. is_unparted name ≡ true) names
    → IsNodeWithin (length names) own → NodeReads names own
node_reads names Bound plain distinct unparted within = record { inner = refl; some = omega arith; said = refl }
node_reads names (Branch couple) plain distinct unparted within = branch_reads names couple plain distinct within
node_reads names (Cycle []) plain distinct unparted within = absurd (omega (arith, within.0))
node_reads names (Cycle (first ∷ rest)) plain distinct unparted within =
    let line = node_text names (Cycle (first ∷ rest)) in
    let others : All (IsWithin (length names)) rest = λ k d l. within.1 (suc k) d (omega arith) in
    record {
      inner = rw (list_all-append is_inner (expression_text names first) (parted_text names rest), inner_join (words_for names first) (plain_words names first plain (within.1 0 first (omega arith)))) (inner_parts names rest plain others);
      some = omega arith;
      said = no_other_form names line (words_of (expression_text names first ++ parted_text names rest)) ∙ ap (option_map Searched) (cycled names first rest plain distinct unparted within.1);
    }
