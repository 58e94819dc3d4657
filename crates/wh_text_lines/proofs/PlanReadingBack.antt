-- A plan that was written is read back.
use Rattle.std.proofs.Common.{◌≡◌, ◌≢◌, ℕ, ◌<◌, ◌≤◌, ◌==◌, Bool, true, false, suc, List, [], ◌∷◌, ◌++◌, length, map, get_or, Some, Result, Ok, Err, ◌⊎◌, inl, inr, refl, ap, sym, subst, ◌∙◌, arith}
use Rattle.std.specs.Prelude.{AllPairs, ◌^◌, codes, decimal, if◌then◌else◌}
use Rattle.std.specs.List.{All, join_with_byte, list_all}
use Rattle.std.specs.Str.Parse.{AllDigits}
use Rattle.std.proofs.lemmas.Bool.Decides.{eqb_tells}
use Rattle.std.proofs.lemmas.Fmt.{decimal_is_IsNumeral_wide}
use Rattle.std.proofs.lemmas.List.{append_assoc, map-append}
use Rattle.std.proofs.lemmas.Str.Parse.{digit_from_value}
use Rattle.wh_cert.specs.declared.certificate.Certificate.TheVariants.{Pairs, Search}
use Rattle.wh_cert.specs.declared.certificate.Certificate.{Certificate}
use Rattle.wh_cert.specs.declared.certificate.PairMin.{PairMin}
use Rattle.wh_cert.specs.declared.certificate.Scope.{Scope}
use Rattle.wh_cert.specs.declared.certificate.Scope.TheVariants as scope
use Rattle.wh_cert.specs.declared.tree.TreeNode.{TreeNode}
use Rattle.wh_strategy.specs.declared.expression.Expression.{Expression}
use Rattle.wh_strategy.specs.declared.expression.Expression.TheVariants.{Comp, Inst}
use Rattle.wh_text.specs.declared.fault.LoadFault.{LoadFault}
use Rattle.wh_text_lines.specs.ExpressionText.{words_for}
use Rattle.wh_text_lines.specs.Natural.{natural}
use Rattle.wh_text_lines.specs.PlanLine.{plan_line_of}
use Rattle.wh_text_lines.specs.ListedLines.{told_by, told_in}
use Rattle.wh_text_lines.specs.PlanGrammar.{IsForScope, IsWhole, certificate_lines, plan_lines}
use Rattle.wh_text_lines.specs.PlanReadsBack.{IsCertificateWritable, IsPairWithin, IsWritable, PlanReadsBack, TextsDiffer}
use Rattle.wh_text_lines.specs.PlanText.{certificate_text, line_text, pair_words, plan_of, plan_text, scope_text}
use Rattle.wh_text_lines.specs.ReadsBack.{IsWithin, is_plain}
use Rattle.wh_text_lines.specs.StrategyText.{strategy_text}
use Rattle.wh_text_lines.specs.TreeText.{node_text, tree_text}
use Rattle.wh_text_lines.specs.Words.{lines_of, words_of}
use Rattle.wh_text_lines.specs.declared.plan.Plan.{Plan}
use Rattle.wh_text_lines.specs.declared.plan.line.PlanLine.{PlanLine}
use Rattle.wh_text_lines.specs.declared.plan.line.PlanLine.TheVariants.{Scoped, Worked, Listed, Paired, Searched}
use Rattle.wh_text_lines.proofs.Naturals.{natural-numeral}
use Rattle.wh_text_lines.proofs.NodeReadingBack.{NodeReads, node_reads}
use Rattle.wh_text_lines.proofs.PlanGrammars.{plan_grammar_holds}
use Rattle.wh_text_lines.proofs.ReadingBack.{expression_of-words, is_kept, is_inner, lines_of-line, words_of-join, number_of-name, plain_words, inner_join}

-- ---- words

apart : (c d : ℕ) → c ≢ d → (c == d) ≡ false
apart c d h = by (eqb_tells c d)
  where
    by : ((c == d) ≡ true) × (c ≡ d) ⊎ ((c == d) ≡ false) × (c ≢ d) → (c == d) ≡ false
    by (inl e) = absurd (h e.1)
    by (inr e) = e.0

not_zero : (n : ℕ) → 0 < n → (n == 0) ≡ false
not_zero n l = apart n 0 (omega (arith, l))

digits_kept : (ds : List ℕ) → AllDigits 10 ds → list_all is_kept ds ≡ true
digits_kept [] digits = refl
digits_kept (c ∷ cs) digits = rw (kept c (digit_from_value c digits.0), digits_kept cs digits.1) refl
  where
    kept : (c : ℕ) → (48 ≤ c) × (c ≤ 57) → is_kept c ≡ true
    kept c within = rw (apart c 32 (omega (arith, within.0)), apart c 9 (omega (arith, within.0)), apart c 10 (omega (arith, within.0))) refl

plain_decimal : (n : ℕ) → n < 2 ^ 128 → is_plain (decimal n) ≡ true
plain_decimal n small =
    let numeral = (decimal_is_IsNumeral_wide n (omega arith)).0 in
    rw (not_zero (length (decimal n)) numeral.0, digits_kept (decimal n) numeral.1) refl

natural_decimal : (n : ℕ) → n < 2 ^ 128 → natural (decimal n) ≡ Some n
natural_decimal n small =
    let read = decimal_is_IsNumeral_wide n (omega arith) in
    natural-numeral (decimal n) n read.0 read.1 small

listed : (names : List (List ℕ)) (line : List ℕ) (e : Expression) → AllPairs (λ first second. first ≢ second) names → IsWithin (length names) e → plan_line_of names line (words_for names e) ≡ Some (Listed e)
listed names line (Comp target []) distinct within = absurd (omega (arith, within.1))
listed names line (Comp target (a ∷ [])) distinct within = rw (expression_of-words names (Comp target (a ∷ [])) distinct within) refl
listed names line (Comp target (a ∷ b ∷ [])) distinct within = rw (expression_of-words names (Comp target (a ∷ b ∷ [])) distinct within) refl
listed names line (Comp target (a ∷ b ∷ c ∷ cs)) distinct within = rw (expression_of-words names (Comp target (a ∷ b ∷ c ∷ cs)) distinct within) refl
listed names line (Inst target) distinct within = rw (expression_of-words names (Inst target) distinct within) refl

paired : (names : List (List ℕ)) (line : List ℕ) (pair : PairMin) → AllPairs (λ first second. first ≢ second) names → IsPairWithin (length names) pair → plan_line_of names line (pair_words names pair) ≡ Some (Paired pair)
paired names line pair distinct within =
    rw (number_of-name names pair.parent distinct within.parent, number_of-name names pair.first distinct within.first, number_of-name names pair.second distinct within.second, natural_decimal pair.least within.least) refl

worked : (names : List (List ℕ)) (line : List ℕ) (n : ℕ) → n < 2 ^ 128 → plan_line_of names line (codes "work" ∷ decimal n ∷ []) ≡ Some (Worked n)
worked names line n small = rw (natural_decimal n small) refl

plain_pair : (names : List (List ℕ)) (pair : PairMin) → All (λ name. is_plain name ≡ true) names → IsPairWithin (length names) pair → list_all is_plain (pair_words names pair) ≡ true
plain_pair names pair plain within =
    rw (plain pair.parent [] within.parent, plain pair.first [] within.first, plain pair.second [] within.second, plain_decimal pair.least within.least) refl

-- ---- lines

-- a line with words, above others
line_told : (names : List (List ℕ)) (line below : List ℕ) (own : PlanLine) → list_all is_inner line ≡ true → 0 < length (words_of line) → plan_line_of names line (words_of line) ≡ Some own
    → told_in (plan_line_of names) (lines_of ((line ++ 10 ∷ []) ++ below)) ≡ Some own ∷ told_in (plan_line_of names) (lines_of below)
line_told names line below own inner some said =
    let told : told_by (plan_line_of names) line ≡ Some own ∷ [] =
    ap (λ (b : Bool). if b then [] else plan_line_of names line (words_of line) ∷ []) (not_zero (length (words_of line)) some) ∙ ap (λ o. o ∷ []) said in
    ap (λ text. told_in (plan_line_of names) (lines_of text)) (append_assoc line (10 ∷ []) below)
    ∙ ap (told_in (plan_line_of names)) (lines_of-line line below inner)
    ∙ ap (λ first. first ++ told_in (plan_line_of names) (lines_of below)) told

-- a line of plain words
words_told : (names words : List (List ℕ)) (below : List ℕ) (own : PlanLine) → list_all is_plain words ≡ true → 0 < length words → plan_line_of names (join_with_byte 32 words) words ≡ Some own
    → told_in (plan_line_of names) (lines_of (line_text words ++ below)) ≡ Some own ∷ told_in (plan_line_of names) (lines_of below)
words_told names words below own plain some said =
    let read = words_of-join words plain in
    line_told names (join_with_byte 32 words) below own (inner_join words plain) (subst (λ ws. 0 < length ws) (sym read) some) (ap (plan_line_of names (join_with_byte 32 words)) read ∙ said)

list_told : (names : List (List ℕ)) (list : List Expression) (below : List ℕ)
    → All (λ name. is_plain name ≡ true) names → AllPairs (λ first second. first ≢ second) names → All (IsWithin (length names)) list
    → told_in (plan_line_of names) (lines_of (strategy_text names list ++ below)) ≡ map Some (map Listed list) ++ told_in (plan_line_of names) (lines_of below)
list_told names [] below plain distinct within = refl
list_told names (e ∷ es) below plain distinct within =
    let own = within 0 e (omega arith) in
    let words = words_for names e in
    ap (λ text. told_in (plan_line_of names) (lines_of text)) (append_assoc (line_text words) (strategy_text names es) below)
    ∙ words_told names words (strategy_text names es ++ below) (Listed e) (plain_words names e plain own) (some_words names e) (listed names (join_with_byte 32 words) e distinct own)
    ∙ ap (λ said. Some (Listed e) ∷ said) (list_told names es below plain distinct (λ k d l. within (suc k) d (omega arith)))
  where
    some_words : (names : List (List ℕ)) (e : Expression) → 0 < length (words_for names e)
    some_words names (Comp target sources) = omega arith
    some_words names (Inst target) = omega arith

pairs_told : (names : List (List ℕ)) (pairs : List PairMin)
    → All (λ name. is_plain name ≡ true) names → AllPairs (λ first second. first ≢ second) names → All (IsPairWithin (length names)) pairs
    → told_in (plan_line_of names) (lines_of (certificate_text names (Pairs pairs))) ≡ map Some (map Paired pairs)
pairs_told names [] plain distinct within = refl
pairs_told names (p ∷ ps) plain distinct within =
    let own = within 0 p (omega arith) in
    let words = pair_words names p in
    words_told names words (certificate_text names (Pairs ps)) (Paired p) (plain_pair names p plain own) (omega arith) (paired names (join_with_byte 32 words) p distinct own)
    ∙ ap (λ said. Some (Paired p) ∷ said) (pairs_told names ps plain distinct (λ k d l. within (suc k) d (omega arith)))

nodes_told : (names : List (List ℕ)) (nodes : List TreeNode) → All (NodeReads names) nodes → told_in (plan_line_of names) (lines_of (tree_text names nodes)) ≡ map Some (map Searched nodes)
nodes_told names [] reads = refl
nodes_told names (own ∷ nodes) reads =
    let read = reads 0 own (omega arith) in
    line_told names (node_text names own) (tree_text names nodes) (Searched own) read.inner read.some read.said
    ∙ ap (λ said. Some (Searched own) ∷ said) (nodes_told names nodes (λ k d l. reads (suc k) d (omega arith)))

certificate_told : (names : List (List ℕ)) (own : Scope) (work : ℕ) (list : List Expression) (certificate : Certificate) → IsWritable names own work list certificate
    → told_in (plan_line_of names) (lines_of (certificate_text names certificate)) ≡ map Some (certificate_lines certificate)
certificate_told names scope.All work list (Pairs pairs) h = pairs_told names pairs h.plain h.distinct h.certified
certificate_told names scope.OneWay work list (Search nodes) h =
    nodes_told names nodes (λ k d l. node_reads names (get_or nodes k d) h.plain h.distinct h.certified.unparted (h.certified.within k d l))
certificate_told names scope.All work list (Search nodes) h = absurd h.certified
certificate_told names scope.OneWay work list (Pairs pairs) h = absurd h.certified

plain_scope : (own : Scope) → list_all is_plain (codes "scope" ∷ scope_text own ∷ []) ≡ true
plain_scope scope.All = refl
plain_scope scope.OneWay = refl

scoped : (names : List (List ℕ)) (own : Scope) → plan_line_of names (join_with_byte 32 (codes "scope" ∷ scope_text own ∷ [])) (codes "scope" ∷ scope_text own ∷ []) ≡ Some (Scoped own)
scoped names scope.All = refl
scoped names scope.OneWay = refl

-- the text of a plan says its lines
text_told : (names : List (List ℕ)) (own : Scope) (work : ℕ) (list : List Expression) (certificate : Certificate) → IsWritable names own work list certificate
    → told_in (plan_line_of names) (lines_of (plan_text names own work list certificate)) ≡ map Some (plan_lines (record { scope = own; work = work; strategy = list; certificate = certificate }))
text_told names own work list certificate h =
    let first = codes "scope" ∷ scope_text own ∷ [] in
    let second = codes "work" ∷ decimal work ∷ [] in
    let end = certificate_text names certificate in
    let rest = strategy_text names list ++ end in
    words_told names first (line_text second ++ rest) (Scoped own) (plain_scope own) (omega arith) (scoped names own)
    ∙ ap (λ said. Some (Scoped own) ∷ said) (words_told names second rest (Worked work) (rw (plain_decimal work h.work_fits) refl) (omega arith) (worked names (join_with_byte 32 second) work h.work_fits))
    ∙ ap (λ said. Some (Scoped own) ∷ Some (Worked work) ∷ said)
    (list_told names list end h.plain h.distinct h.list_within
    ∙ ap (λ said. map Some (map Listed list) ++ said) (certificate_told names own work list certificate h)
    ∙ sym (map-append Some (map Listed list) (certificate_lines certificate)))

fits_scope : (names : List (List ℕ)) (own : Scope) (certificate : Certificate) → IsCertificateWritable names own certificate → IsForScope own certificate × IsWhole certificate
fits_scope names scope.All (Pairs pairs) h = (tt, tt)
fits_scope names scope.OneWay (Search nodes) h = (tt, (h.tree, h.whole))
fits_scope names scope.All (Search nodes) h = absurd h
fits_scope names scope.OneWay (Pairs pairs) h = absurd h

pub plan_reads_back : PlanReadsBack
plan_reads_back names own work list certificate h =
    let plan : Plan = record { scope = own; work = work; strategy = list; certificate = certificate } in
    let fits = fits_scope names own certificate h.certified in
    (plan_grammar_holds names (plan_text names own work list certificate) plan).1 (record { told = text_told names own work list certificate h; for_scope = fits.0; whole = fits.1 })

-- ---- no two plans have one text

scope_said : Result Plan LoadFault → Scope
scope_said (Ok plan) = plan.scope
scope_said (Err fault) = scope.All

work_said : Result Plan LoadFault → ℕ
work_said (Ok plan) = plan.work
work_said (Err fault) = 0

list_said : Result Plan LoadFault → List Expression
list_said (Ok plan) = plan.strategy
list_said (Err fault) = []

certificate_said : Result Plan LoadFault → Certificate
certificate_said (Ok plan) = plan.certificate
certificate_said (Err fault) = Pairs []

pub texts_differ : TextsDiffer
unfolding scope_said work_said list_said certificate_said
texts_differ names own other work other_work list other_list certificate other_certificate h other_h e =
    let same = sym (plan_reads_back names own work list certificate h) ∙ ap (plan_of names) e ∙ plan_reads_back names other other_work other_list other_certificate other_h in
    (ap scope_said same, ap work_said same, ap list_said same, ap certificate_said same)
