-- Predicates that are written are read as what they are, and those that are read are what was written.
use Rattle.std.proofs.Common.{◌≡◌, ℕ, zero, suc, ◌≤◌, Bool, true, false, List, [], ◌∷◌, ◌++◌, Option, Some, None, option_map, Ok, Err, refl, ap, sym, ◌∙◌, arith, append_assoc}
use Rattle.std.specs.Prelude.{codes, if◌then◌else◌}
use Rattle.std.specs.List.{IsDistinct, list_all}
use Rattle.std.specs.Str.{bytes_eq}
use Rattle.std.proofs.lemmas.List.{append-nil}
use Rattle.std.proofs.lemmas.Slice.Eq.{bytes_eq-Decides}
use Rattle.toml.specs.View.{items_of}
use Rattle.toml.specs.Data.{Data, string, boolean, array}
use Rattle.wh_formula.specs.declared.comparison.Comparison.{Comparison}
use Rattle.wh_formula.specs.declared.comparison.Comparison.TheVariants.{Equal, NotEqual, Less, LessOrEqual, Greater, GreaterOrEqual}
use Rattle.wh_formula.specs.Expr.{ExprTree}
use Rattle.wh_formula.specs.Pred.{PredTree, PredTrees, True, Cmp, AllOf, AnyOf, Not, no_more, one_more, depth, most_levels, parts_of}
use Rattle.wh_text.specs.Columns.{NamedKind}
use Rattle.wh_text.specs.Dict.{with_texts}
use Rattle.wh_text.specs.Inner.Dict.{BeginsWith}
use Rattle.wh_text.specs.declared.columns.Kind.{Kind}
use Rattle.wh_text.specs.declared.columns.Kind.TheVariants.{Int, Text}
use Rattle.wh_text.specs.declared.fault.Key.TheVariants as key
use Rattle.wh_text.specs.declared.fault.LoadFault.TheVariants as fault
use Rattle.wh_text.proofs.DictGrowth.{begins-same, begins-texts, begins-trans, with_texts-append}
use Rattle.wh_text_catalogue.specs.Catalogue.{elements}
use Rattle.wh_text_catalogue.specs.ColumnNames.{checked, unless_unknown}
use Rattle.wh_text_catalogue.specs.ExprForm.{is_expr}
use Rattle.wh_text_catalogue.specs.Filter.{filter_written}
use Rattle.wh_text_catalogue.specs.Formula.{is_whole_pred, unknown_in_test, whole_pred}
use Rattle.wh_text_catalogue.specs.FormulaColumns.{first_unknown, unknown_in_expr, unknown_in_parts, unknown_in_pred}
use Rattle.wh_text_catalogue.specs.FormulaKinds.{PredOutcome, Texts, compared, fits_kinds, typed_expr, typed_parts, typed_pred, typed_test, unfit}
use Rattle.wh_text_catalogue.specs.Header.{HeaderOf}
use Rattle.wh_text_catalogue.specs.PredForm.{WrittenPred, comparison_of, compound_of, headed, is_pred, pred_form, pred_parts_pass}
use Rattle.wh_text_catalogue.specs.PredForm as level
use Rattle.wh_text_catalogue.specs.WrittenFormula.{ArePredsWritten, IsComparable, IsExprWritten, IsPredWritten, literals, literals_of, under, word_of}
use Rattle.wh_text_catalogue.specs.WrittenLaws.{AreReferences, PredsReadBack, ReadPredsAreWritten, texts_with}
use Rattle.wh_text_catalogue.specs.declared.definitions.formula_kinds.TypedExpr.{TypedExpr}
use Rattle.wh_text_catalogue.proofs.CatalogueNames.{gone_on}
use Rattle.wh_text_catalogue.proofs.FormulasFit.{checked-ok, unless-ok}
use Rattle.wh_text_catalogue.proofs.WrittenExprs.{IsOfExpr, both-same, expr-formed, expr-kept, expr-known, expr-read, expr-written, no-texts}
use Rattle.wh_text_catalogue.proofs.WrittenForms.{elements-items, items-elements}

-- Forms.

-- the data are of this form
abbrev pub IsOfTest : WrittenPred → Data → Type 0
IsOfTest level.Always value = value ≡ boolean true
IsOfTest (level.Compare comparison left right) value = value ≡ under (word_of comparison) (left ∷ right ∷ [])
IsOfTest (level.All parts) value = value ≡ under (codes "all") parts
IsOfTest (level.Any parts) value = value ≡ under (codes "any") parts
IsOfTest (level.Not part) value = value ≡ under (codes "not") (part ∷ [])

-- one word after another is tried
section-word : (text word : List ℕ) (own comparison : Comparison) (rest : Option Comparison) → word ≡ word_of own → (rest ≡ Some comparison → text ≡ word_of comparison)
    → (if bytes_eq text word then Some own else rest) ≡ Some comparison → text ≡ word_of comparison
section-word text word own comparison rest is later = by (bytes_eq text word) refl
  where
    by : (b : Bool) → bytes_eq text word ≡ b → (if b then Some own else rest) ≡ Some comparison → text ≡ word_of comparison
    by true same e = let own-is : own ≡ comparison = cc in (bytes_eq-Decides text word).0 same ∙ is ∙ ap word_of own-is
    by false other e = later e

comparison-word : (text : List ℕ) (comparison : Comparison) → comparison_of text ≡ Some comparison → text ≡ word_of comparison
comparison-word text comparison =
    section-word text (codes "=") Equal comparison _ refl
    (section-word text (codes "<>") NotEqual comparison _ refl
    (section-word text (codes "<") Less comparison _ refl
    (section-word text (codes "<=") LessOrEqual comparison _ refl
    (section-word text (codes ">") Greater comparison _ refl (section-word text (codes ">=") GreaterOrEqual comparison None refl (λ e. cc e))))))

compared-only : (word : List ℕ) (parts : List Data) (form : WrittenPred) → level.compare_of word parts ≡ Some form → IsOfTest form (under word parts)
compared-only word (left ∷ right ∷ []) form e = by (comparison_of word) refl e
  where
    by : (o : Option Comparison) → comparison_of word ≡ o → option_map (λ comparison. level.Compare comparison left right) o ≡ Some form → IsOfTest form (under word (left ∷ right ∷ []))
    by None is e = cc e
    by (Some comparison) is e = let same : level.Compare comparison left right ≡ form = cc in rw (← same, comparison-word word comparison is) refl
compared-only word _ form e = cc e

not-only : (parts : List Data) (form : WrittenPred) → level.not_of parts ≡ Some form → IsOfTest form (under (codes "not") parts)
not-only (part ∷ []) form e = let same : level.Not part ≡ form = cc in rw (← same) refl
not-only _ form e = cc e

headed-only : (word : List ℕ) (parts : List Data) (form : WrittenPred) → headed word parts ≡ Some form → IsOfTest form (under word parts)
headed-only word parts form = all (bytes_eq word (codes "all")) refl
  where
    not : (b : Bool) → bytes_eq word (codes "not") ≡ b → (if b then level.not_of parts else level.compare_of word parts) ≡ Some form → IsOfTest form (under word parts)
    not true is e = rw ((bytes_eq-Decides word (codes "not")).0 is) (not-only parts form e)
    not false is e = compared-only word parts form e

    any : (b : Bool) → bytes_eq word (codes "any") ≡ b → (if b then Some (level.Any parts) else (if bytes_eq word (codes "not") then level.not_of parts else level.compare_of word parts)) ≡ Some form
        → IsOfTest form (under word parts)
    any true is e = let same : level.Any parts ≡ form = cc in rw (← same, (bytes_eq-Decides word (codes "any")).0 is) refl
    any false is e = not (bytes_eq word (codes "not")) refl e

    all : (b : Bool) → bytes_eq word (codes "all") ≡ b
        → (if b then Some (level.All parts)
        else (if bytes_eq word (codes "any") then Some (level.Any parts) else (if bytes_eq word (codes "not") then level.not_of parts else level.compare_of word parts))) ≡ Some form
        → IsOfTest form (under word parts)
    all true is e = let same : level.All parts ≡ form = cc in rw (← same, (bytes_eq-Decides word (codes "all")).0 is) refl
    all false is e = any (bytes_eq word (codes "any")) refl e

compound-only : (parts : List Data) (form : WrittenPred) → compound_of parts ≡ Some form → IsOfTest form (array (items_of parts))
compound-only (string word ∷ parts) form e = headed-only word parts form e
compound-only _ form e = cc e

-- what has the form of a predicate is written so
pub pred-form : (value : Data) (form : WrittenPred) → pred_form value ≡ Some form → IsOfTest form value
pred-form (boolean true) form e = let same : level.Always ≡ form = cc in rw (← same) refl
pred-form (array parts) form e = rw (items-elements parts) at (compound-only (elements parts) form e)
pred-form _ form e = cc e

-- What is written stays so while texts are added.

mutual
  pub pred-kept : (columns : List NamedKind) (texts all : Texts) (own : PredTree) (value : Data) → BeginsWith texts all → IsPredWritten columns texts own value → IsPredWritten columns all own value
  pred-kept columns texts all True value begins w = w
  pred-kept columns texts all (Cmp comparison a b) value begins w =
      (w.0, w.1, w.2, w.3, w.4, expr-kept columns texts all a w.0 w.1 begins w.5, expr-kept columns texts all b w.0 w.2 begins w.6)
  pred-kept columns texts all (AllOf tests) value begins w = (w.0, w.1, preds-kept columns texts all tests w.0 begins w.2)
  pred-kept columns texts all (AnyOf tests) value begins w = (w.0, w.1, preds-kept columns texts all tests w.0 begins w.2)
  pred-kept columns texts all (Not test) value begins w = (w.0, w.1, pred-kept columns texts all test w.0 begins w.2)

  preds-kept : (columns : List NamedKind) (texts all : Texts) (tests : PredTrees) (parts : List Data) → BeginsWith texts all → ArePredsWritten columns texts tests parts → ArePredsWritten columns all tests parts
  preds-kept columns texts all no_more [] begins w = tt
  preds-kept columns texts all no_more (part ∷ parts) begins w = w
  preds-kept columns texts all (one_more test tests) [] begins w = w
  preds-kept columns texts all (one_more test tests) (part ∷ parts) begins w = (pred-kept columns texts all test part begins w.0, preds-kept columns texts all tests parts begins w.1)

-- Writing, then reading.

-- the texts of a part begin those of all parts
begins-first : (before : Texts) (first more : List (List ℕ)) (all : Texts) → BeginsWith (with_texts before (first ++ more)) all → BeginsWith (with_texts before first) all
begins-first before first more all begins =
    begins-trans (with_texts before first) (with_texts before (first ++ more)) all (rw (with_texts-append before first more) (begins-texts (with_texts before first) more)) begins

pair-literals : (before : Texts) (word : List ℕ) (left right : Data) → texts_with before (under word (left ∷ right ∷ [])) ≡ texts_with (texts_with before left) right
pair-literals before word left right = ap (λ ts. with_texts before (literals left ++ ts)) (append-nil (literals right)) ∙ with_texts-append before (literals left) (literals right)

one-literals : (before : Texts) (word : List ℕ) (part : Data) → texts_with before (under word (part ∷ [])) ≡ texts_with before part
one-literals before word part = ap (with_texts before) (append-nil (literals part))

-- a comparison that is written has kinds that fit
kinds-fit : (comparison : Comparison) (kind : Kind) → IsComparable kind comparison → fits_kinds comparison kind kind ≡ true
kinds-fit comparison Int is = refl
kinds-fit Equal Text is = refl
kinds-fit NotEqual Text is = refl
kinds-fit comparison Text is = absurd is

-- the word of a comparison is none of the others
compare-form : (comparison : Comparison) (left right : Data) → pred_form (under (word_of comparison) (left ∷ right ∷ [])) ≡ Some (level.Compare comparison left right)
compare-form Equal left right = refl
compare-form NotEqual left right = refl
compare-form Less left right = refl
compare-form LessOrEqual left right = refl
compare-form Greater left right = refl
compare-form GreaterOrEqual left right = refl

compare-read : (header : HeaderOf) (levels : ℕ) (comparison : Comparison) (a b : ExprTree) (kind : Kind) (left right : Data) (before middle after : Texts) → IsComparable kind comparison
    → typed_expr header levels left before ≡ Ok (record { kind = kind; expr = a }, middle) → typed_expr header levels right middle ≡ Ok (record { kind = kind; expr = b }, after)
    → typed_pred header (suc levels) (under (word_of comparison) (left ∷ right ∷ [])) before ≡ Ok (Cmp comparison a b, after)
compare-read header levels comparison a b kind left right before middle after is l r = rw (compare-form comparison left right, l, r, kinds-fit comparison kind is) refl

-- a list of predicates as parts
tests_in : PredTrees → List PredTree
tests_in no_more = []
tests_in (one_more test tests) = test ∷ tests_in tests

parts-tests : (tests : PredTrees) → parts_of (tests_in tests) ≡ tests
unfolding tests_in
parts-tests no_more = refl
parts-tests (one_more test tests) = ap (one_more test) (parts-tests tests)

all-read : (header : HeaderOf) (levels : ℕ) (tests : PredTrees) (parts : List Data) (before after : Texts) → typed_parts (typed_pred header levels) [] parts before ≡ Ok (tests_in tests, after)
    → typed_pred header (suc levels) (under (codes "all") parts) before ≡ Ok (AllOf tests, after)
all-read header levels tests parts before after e = rw (elements-items parts, e, parts-tests tests) refl

any-read : (header : HeaderOf) (levels : ℕ) (tests : PredTrees) (parts : List Data) (before after : Texts) → typed_parts (typed_pred header levels) [] parts before ≡ Ok (tests_in tests, after)
    → typed_pred header (suc levels) (under (codes "any") parts) before ≡ Ok (AnyOf tests, after)
any-read header levels tests parts before after e = rw (elements-items parts, e, parts-tests tests) refl

not-read : (header : HeaderOf) (levels : ℕ) (test : PredTree) (part : Data) (before after : Texts) → typed_pred header levels part before ≡ Ok (test, after)
    → typed_pred header (suc levels) (under (codes "not") (part ∷ [])) before ≡ Ok (Not test, after)
not-read header levels test part before after e = rw e refl

none-read : (typed : Data → Texts → PredOutcome) (before : Texts) (found : List PredTree) → typed_parts typed found [] before ≡ Ok (found ++ tests_in no_more, with_texts before (literals_of (items_of [])))
unfolding tests_in
none-read typed before found = ap (λ f. Ok (f, before)) (sym (append-nil found)) ∙ ap (λ t. Ok (found ++ [], t)) (no-texts before)

more-read : (typed : Data → Texts → PredOutcome) (test : PredTree) (tests : PredTrees) (part : Data) (parts : List Data) (before : Texts) (found : List PredTree)
    → typed part before ≡ Ok (test, texts_with before part)
    → typed_parts typed (found ++ test ∷ []) parts (texts_with before part) ≡ Ok ((found ++ test ∷ []) ++ tests_in tests, with_texts (texts_with before part) (literals_of (items_of parts)))
    → typed_parts typed found (part ∷ parts) before ≡ Ok (found ++ tests_in (one_more test tests), with_texts before (literals_of (items_of (part ∷ parts))))
unfolding tests_in
more-read typed test tests part parts before found first rest =
    rw first (rest ∙ ap (λ f. Ok (f, with_texts (texts_with before part) (literals_of (items_of parts)))) (append_assoc found (test ∷ []) (tests_in tests)))
    ∙ ap (λ t. Ok (found ++ test ∷ tests_in tests, t)) (sym (with_texts-append before (literals part) (literals_of (items_of parts))))

mutual
  -- a predicate that was written is read as it was, where all texts begin with those that it numbers
  pub pred-read : (header : HeaderOf) (levels : ℕ) (all : Texts) (own : PredTree) (value : Data) (before : Texts) → AreReferences header.columns → IsDistinct bytes_eq all
      → depth own ≤ levels → IsPredWritten header.columns all own value → BeginsWith (texts_with before value) all
      → typed_pred header levels value before ≡ Ok (own, texts_with before value)
  pred-read header zero all True value before are distinct deep w begins = absurd (omega arith)
  pred-read header (suc levels) all True value before are distinct deep w begins = rw w (ap (λ t. Ok (True, t)) (no-texts before))
  pred-read header zero all (Cmp comparison a b) value before are distinct deep w begins = absurd (omega arith)
  pred-read header (suc levels) all (Cmp comparison a b) value before are distinct deep w begins =
      let both : BeginsWith (texts_with before (under (word_of comparison) (w.1 ∷ w.2 ∷ []))) all = rw w.4 at begins in
      let last : BeginsWith (texts_with (texts_with before w.1) w.2) all = rw (pair-literals before (word_of comparison) w.1 w.2) at both in
      let first = begins-trans (texts_with before w.1) (texts_with (texts_with before w.1) w.2) all (begins-texts (texts_with before w.1) (literals w.2)) last in
      let l = expr-read header levels all a w.0 w.1 before are distinct (omega arith) w.5 first in
      let r = expr-read header levels all b w.0 w.2 (texts_with before w.1) are distinct (omega arith) w.6 last in
      ap (λ d. typed_pred header (suc levels) d before) w.4
      ∙ compare-read header levels comparison a b w.0 w.1 w.2 before (texts_with before w.1) (texts_with (texts_with before w.1) w.2) w.3 l r
      ∙ ap (λ t. Ok (Cmp comparison a b, t)) (sym (pair-literals before (word_of comparison) w.1 w.2) ∙ ap (texts_with before) (sym w.4))
  pred-read header zero all (AllOf tests) value before are distinct deep w begins = absurd (omega arith)
  pred-read header (suc levels) all (AllOf tests) value before are distinct deep w begins =
      ap (λ d. typed_pred header (suc levels) d before) w.1
      ∙ all-read header levels tests w.0 before (with_texts before (literals_of (items_of w.0))) (preds-read header levels all tests w.0 before [] are distinct (omega arith) w.2 (rw w.1 at begins))
      ∙ ap (λ d. Ok (AllOf tests, texts_with before d)) (sym w.1)
  pred-read header zero all (AnyOf tests) value before are distinct deep w begins = absurd (omega arith)
  pred-read header (suc levels) all (AnyOf tests) value before are distinct deep w begins =
      ap (λ d. typed_pred header (suc levels) d before) w.1
      ∙ any-read header levels tests w.0 before (with_texts before (literals_of (items_of w.0))) (preds-read header levels all tests w.0 before [] are distinct (omega arith) w.2 (rw w.1 at begins))
      ∙ ap (λ d. Ok (AnyOf tests, texts_with before d)) (sym w.1)
  pred-read header zero all (Not test) value before are distinct deep w begins = absurd (omega arith)
  pred-read header (suc levels) all (Not test) value before are distinct deep w begins =
      let same : texts_with before value ≡ texts_with before w.0 = ap (texts_with before) w.1 ∙ one-literals before (codes "not") w.0 in
      ap (λ d. typed_pred header (suc levels) d before) w.1
      ∙ not-read header levels test w.0 before (texts_with before w.0) (pred-read header levels all test w.0 before are distinct (omega arith) w.2 (rw same at begins))
      ∙ ap (λ t. Ok (Not test, t)) (sym same)

  -- some predicates that were written
  preds-read : (header : HeaderOf) (levels : ℕ) (all : Texts) (tests : PredTrees) (parts : List Data) (before : Texts) (found : List PredTree) → AreReferences header.columns → IsDistinct bytes_eq all
      → most_levels tests ≤ levels → ArePredsWritten header.columns all tests parts → BeginsWith (with_texts before (literals_of (items_of parts))) all
      → typed_parts (typed_pred header levels) found parts before ≡ Ok (found ++ tests_in tests, with_texts before (literals_of (items_of parts)))
  preds-read header levels all no_more [] before found are distinct deep w begins = none-read (typed_pred header levels) before found
  preds-read header levels all no_more (part ∷ parts) before found are distinct deep w begins = absurd w
  preds-read header levels all (one_more test tests) [] before found are distinct deep w begins = absurd w
  preds-read header levels all (one_more test tests) (part ∷ parts) before found are distinct deep w begins =
      let last : BeginsWith (with_texts (texts_with before part) (literals_of (items_of parts))) all = rw (with_texts-append before (literals part) (literals_of (items_of parts))) at begins in
      let first = begins-first before (literals part) (literals_of (items_of parts)) all begins in
      more-read (typed_pred header levels) test tests part parts before found
      (pred-read header levels all test part before are distinct (omega arith) w.0 first)
      (preds-read header levels all tests parts (texts_with before part) (found ++ test ∷ []) are distinct (omega arith) w.1 last)

-- Reading, then what was written.

-- the data write this predicate, of so many levels, with the texts that it has numbered
record IsOfPred (columns : List NamedKind) (levels : ℕ) (value : Data) (before : Texts) (own : PredTree) (after : Texts) : Type 0 where
  pub written : IsPredWritten columns after own value
  pub deep : depth own ≤ levels
  pub numbered : after ≡ texts_with before value

of-same : (columns : List NamedKind) (levels : ℕ) (value : Data) (before : Texts) (own test : PredTree) (so_far after : Texts) → (own ≡ test) × (so_far ≡ after)
    → IsOfPred columns levels value before own so_far → IsOfPred columns levels value before test after
of-same columns levels value before own test so_far after same is = rw (← same.0, ← same.1) is

-- the same of some predicates, after those found
record AreOfPreds (columns : List NamedKind) (levels : ℕ) (parts : List Data) (before : Texts) (found own : List PredTree) (after : Texts) : Type 0 where
  pub more : List PredTree
  pub tests : own ≡ found ++ more
  pub written : ArePredsWritten columns after (parts_of more) parts
  pub deep : most_levels (parts_of more) ≤ levels
  pub numbered : after ≡ with_texts before (literals_of (items_of parts))

-- what is read of each predicate of this level
abbrev AreEachOfPred : List NamedKind → ℕ → (Data → Texts → PredOutcome) → Type 0
AreEachOfPred columns levels typed =
    (part : Data) (so_far : Texts) (own : PredTree) (later : Texts) → typed part so_far ≡ Ok (own, later) → IsOfPred columns levels part so_far own later

-- the kinds of a comparison that is read are one, which it takes
compared-kinds : (header : HeaderOf) (comparison : Comparison) (left right : TypedExpr) (own : PredTree) → compared header comparison left right ≡ Ok own
    → (right.kind ≡ left.kind) × IsComparable left.kind comparison × (Cmp comparison left.expr right.expr ≡ own)
compared-kinds header comparison left right own = by comparison left.kind right.kind refl refl
  where
    by : (c : Comparison) (k m : Kind) → left.kind ≡ k → right.kind ≡ m → (if fits_kinds c k m then Ok (Cmp comparison left.expr right.expr) else Err (unfit header)) ≡ Ok own
        → (right.kind ≡ left.kind) × IsComparable left.kind c × (Cmp comparison left.expr right.expr ≡ own)
    by c Int Int l r e = (r ∙ sym l, rw l tt, cc)
    by c Int Text l r e = cc e
    by c Text Int l r e = cc e
    by Equal Text Text l r e = (r ∙ sym l, rw l tt, cc)
    by NotEqual Text Text l r e = (r ∙ sym l, rw l tt, cc)
    by c Text Text l r e = cc e

comparison-of : (header : HeaderOf) (levels : ℕ) (comparison : Comparison) (left right value : Data) (before middle after : Texts) (first second : TypedExpr) (own : PredTree)
    → value ≡ under (word_of comparison) (left ∷ right ∷ []) → IsOfExpr header.columns levels left before first middle → IsOfExpr header.columns levels right middle second after
    → compared header comparison first second ≡ Ok own → IsOfPred header.columns (suc levels) value before own after
comparison-of header levels comparison left right value before middle after first second own form l r e =
    let kinds = compared-kinds header comparison first second own e in
    let begins : BeginsWith middle after = rw r.numbered (begins-texts middle (literals right)) in
    let l-written = expr-kept header.columns middle after first.expr first.kind left begins l.written in
    let r-written : IsExprWritten header.columns after second.expr first.kind right = rw kinds.0 at r.written in
    let l-deep = l.deep in
    let r-deep = r.deep in
    rw (← kinds.2) (record {
      written = (first.kind, left, right, kinds.1, form, l-written, r-written);
      deep = omega arith;
      numbered = r.numbered ∙ ap (λ t. texts_with t right) l.numbered ∙ sym (pair-literals before (word_of comparison) left right) ∙ ap (texts_with before) (sym form);
    })

begins-as : (texts after : Texts) (more : List (List ℕ)) → after ≡ with_texts texts more → BeginsWith texts after
begins-as texts after more same = rw same (begins-texts texts more)

parts-of-preds : (columns : List NamedKind) (levels : ℕ) (typed : Data → Texts → PredOutcome) (found : List PredTree) (parts : List Data) (before : Texts) (own : List PredTree) (after : Texts)
    → AreEachOfPred columns levels typed → typed_parts typed found parts before ≡ Ok (own, after) → AreOfPreds columns levels parts before found own after
parts-of-preds columns levels typed found [] before own after each e =
    let same = both-same {A = List PredTree} (found, before) own after _ refl e in
    record { more = []; tests = sym same.0 ∙ sym (append-nil found); written = tt; deep = omega arith; numbered = sym same.1 ∙ no-texts before }
parts-of-preds columns levels typed found (part ∷ parts) before own after each e =
    let first = gone_on (typed part before) _ (own, after) e in
    let is = each part before first.0.0 first.0.1 first.1 in
    let rest = parts-of-preds columns levels typed (found ++ first.0.0 ∷ []) parts first.0.1 own after each first.2 in
    let begins = begins-as first.0.1 after (literals_of (items_of parts)) rest.numbered in
    let is-deep = is.deep in
    let rest-deep = rest.deep in
    record {
      more = first.0.0 ∷ rest.more;
      tests = rest.tests ∙ append_assoc found (first.0.0 ∷ []) rest.more;
      written = (pred-kept columns first.0.1 after first.0.0 part begins is.written, rest.written);
      deep = omega arith;
      numbered = rest.numbered ∙ ap (λ t. with_texts t (literals_of (items_of parts))) is.numbered ∙ sym (with_texts-append before (literals part) (literals_of (items_of parts)));
    }

all-of : (columns : List NamedKind) (levels : ℕ) (parts : List Data) (value : Data) (before : Texts) (tests : List PredTree) (after : Texts) → value ≡ under (codes "all") parts
    → AreOfPreds columns levels parts before [] tests after → IsOfPred columns (suc levels) value before (AllOf (parts_of tests)) after
all-of columns levels parts value before tests after form are =
    let deep = are.deep in
    rw are.tests (record { written = (parts, form, are.written); deep = omega arith; numbered = are.numbered ∙ ap (texts_with before) (sym form) })

any-of : (columns : List NamedKind) (levels : ℕ) (parts : List Data) (value : Data) (before : Texts) (tests : List PredTree) (after : Texts) → value ≡ under (codes "any") parts
    → AreOfPreds columns levels parts before [] tests after → IsOfPred columns (suc levels) value before (AnyOf (parts_of tests)) after
any-of columns levels parts value before tests after form are =
    let deep = are.deep in
    rw are.tests (record { written = (parts, form, are.written); deep = omega arith; numbered = are.numbered ∙ ap (texts_with before) (sym form) })

not-of : (columns : List NamedKind) (levels : ℕ) (part value : Data) (before : Texts) (test : PredTree) (after : Texts) → value ≡ under (codes "not") (part ∷ [])
    → IsOfPred columns levels part before test after → IsOfPred columns (suc levels) value before (Not test) after
not-of columns levels part value before test after form is =
    let deep = is.deep in
    record { written = (part, form, is.written); deep = omega arith; numbered = is.numbered ∙ sym (one-literals before (codes "not") part) ∙ ap (texts_with before) (sym form) }

-- a predicate that is read is what the data write
pred-written : (header : HeaderOf) (levels : ℕ) (value : Data) (before : Texts) (own : PredTree) (after : Texts) → typed_pred header levels value before ≡ Ok (own, after)
    → IsOfPred header.columns levels value before own after
pred-written header zero value before own after e = cc e
pred-written header (suc levels) value before own after e = by (pred_form value) refl (pred-written header levels) e
  where
    by : (o : Option WrittenPred) → pred_form value ≡ o → AreEachOfPred header.columns levels (typed_pred header levels)
        → typed_test header (typed_expr header levels) (typed_pred header levels) o before ≡ Ok (own, after) → IsOfPred header.columns (suc levels) value before own after
    by None is below e = cc e
    by (Some level.Always) is below e =
        let form = pred-form value level.Always is in
        let same = both-same {A = PredTree} (True, before) own after _ refl e in
        of-same header.columns (suc levels) value before True own before after same (record { written = form; deep = omega arith; numbered = no-texts before ∙ ap (texts_with before) (sym form) })
    by (Some (level.Compare comparison left right)) is below e =
        let first = gone_on (typed_expr header levels left before) _ (own, after) e in
        let second = gone_on (typed_expr header levels right first.0.1) _ (own, after) first.2 in
        let made = gone_on (compared header comparison first.0.0 second.0.0) _ (own, after) second.2 in
        let same = both-same {A = PredTree} (made.0, second.0.1) own after _ refl made.2 in
        of-same header.columns (suc levels) value before made.0 own second.0.1 after same
        (comparison-of header levels comparison left right value before first.0.1 second.0.1 first.0.0 second.0.0 made.0 (pred-form value (level.Compare comparison left right) is)
        (expr-written header levels left before first.0.0 first.0.1 first.1) (expr-written header levels right first.0.1 second.0.0 second.0.1 second.1) made.1)
    by (Some (level.All parts)) is below e =
        let form = pred-form value (level.All parts) is in
        let tests = gone_on (typed_parts (typed_pred header levels) [] parts before) _ (own, after) e in
        let same = both-same {A = PredTree} (AllOf (parts_of tests.0.0), tests.0.1) own after _ refl tests.2 in
        of-same header.columns (suc levels) value before (AllOf (parts_of tests.0.0)) own tests.0.1 after same
        (all-of header.columns levels parts value before tests.0.0 tests.0.1 form (parts-of-preds header.columns levels (typed_pred header levels) [] parts before tests.0.0 tests.0.1 below tests.1))
    by (Some (level.Any parts)) is below e =
        let form = pred-form value (level.Any parts) is in
        let tests = gone_on (typed_parts (typed_pred header levels) [] parts before) _ (own, after) e in
        let same = both-same {A = PredTree} (AnyOf (parts_of tests.0.0), tests.0.1) own after _ refl tests.2 in
        of-same header.columns (suc levels) value before (AnyOf (parts_of tests.0.0)) own tests.0.1 after same
        (any-of header.columns levels parts value before tests.0.0 tests.0.1 form (parts-of-preds header.columns levels (typed_pred header levels) [] parts before tests.0.0 tests.0.1 below tests.1))
    by (Some (level.Not part)) is below e =
        let form = pred-form value (level.Not part) is in
        let test = gone_on (typed_pred header levels part before) _ (own, after) e in
        let same = both-same {A = PredTree} (Not test.0.0, test.0.1) own after _ refl test.2 in
        of-same header.columns (suc levels) value before (Not test.0.0) own test.0.1 after same
        (not-of header.columns levels part value before test.0.0 test.0.1 form (below part before test.0.0 test.0.1 test.1))

-- What is read has the form of a predicate, and names columns alone.

-- the form of each part
abbrev AreEachFormed : ℕ → (Data → Texts → PredOutcome) → Type 0
AreEachFormed levels typed = (part : Data) (so_far : Texts) (q : PredTree × Texts) → typed part so_far ≡ Ok q → is_pred levels part ≡ true

parts-formed : (levels : ℕ) (typed : Data → Texts → PredOutcome) (found : List PredTree) (parts : List Data) (before : Texts) (p : List PredTree × Texts) → AreEachFormed levels typed
    → typed_parts typed found parts before ≡ Ok p → list_all (is_pred levels) parts ≡ true
parts-formed levels typed found [] before p each e = refl
parts-formed levels typed found (part ∷ parts) before p each e =
    let first = gone_on (typed part before) _ p e in
    rw (each part before first.0 first.1, parts-formed levels typed (found ++ first.0.0 ∷ []) parts first.0.1 p each first.2) refl

pred-formed : (header : HeaderOf) (levels : ℕ) (value : Data) (before : Texts) (p : PredTree × Texts) → typed_pred header levels value before ≡ Ok p → is_pred levels value ≡ true
pred-formed header zero value before p e = cc e
pred-formed header (suc levels) value before p e = by (pred_form value) (pred-formed header levels) e
  where
    by : (o : Option WrittenPred) → AreEachFormed levels (typed_pred header levels)
        → typed_test header (typed_expr header levels) (typed_pred header levels) o before ≡ Ok p → pred_parts_pass (is_expr levels) (is_pred levels) o ≡ true
    by None below e = cc e
    by (Some level.Always) below e = refl
    by (Some (level.Compare comparison left right)) below e =
        let first = gone_on (typed_expr header levels left before) _ p e in
        let second = gone_on (typed_expr header levels right first.0.1) _ p first.2 in
        rw (expr-formed header levels left before first.0 first.1, expr-formed header levels right first.0.1 second.0 second.1) refl
    by (Some (level.All parts)) below e =
        let tests = gone_on (typed_parts (typed_pred header levels) [] parts before) _ p e in
        parts-formed levels (typed_pred header levels) [] parts before tests.0 below tests.1
    by (Some (level.Any parts)) below e =
        let tests = gone_on (typed_parts (typed_pred header levels) [] parts before) _ p e in
        parts-formed levels (typed_pred header levels) [] parts before tests.0 below tests.1
    by (Some (level.Not part)) below e =
        let test = gone_on (typed_pred header levels part before) _ p e in
        below part before test.0 test.1

-- the columns of each part
abbrev AreEachKnown : List NamedKind → ℕ → (Data → Texts → PredOutcome) → Type 0
AreEachKnown columns levels typed = (part : Data) (so_far : Texts) (q : PredTree × Texts) → typed part so_far ≡ Ok q → unknown_in_pred columns levels part ≡ None

parts-known : (columns : List NamedKind) (levels : ℕ) (typed : Data → Texts → PredOutcome) (found : List PredTree) (parts : List Data) (before : Texts) (p : List PredTree × Texts) → AreEachKnown columns levels typed
    → typed_parts typed found parts before ≡ Ok p → first_unknown (unknown_in_pred columns levels) parts ≡ None
parts-known columns levels typed found [] before p each e = refl
parts-known columns levels typed found (part ∷ parts) before p each e =
    let first = gone_on (typed part before) _ p e in
    rw (each part before first.0 first.1, parts-known columns levels typed (found ++ first.0.0 ∷ []) parts first.0.1 p each first.2) refl

pred-known : (header : HeaderOf) (levels : ℕ) (value : Data) (before : Texts) (p : PredTree × Texts) → typed_pred header levels value before ≡ Ok p → unknown_in_pred header.columns levels value ≡ None
pred-known header zero value before p e = refl
pred-known header (suc levels) value before p e = by (pred_form value) (pred-known header levels) e
  where
    by : (o : Option WrittenPred) → AreEachKnown header.columns levels (typed_pred header levels)
        → typed_test header (typed_expr header levels) (typed_pred header levels) o before ≡ Ok p
        → unknown_in_parts (unknown_in_expr header.columns levels) (unknown_in_pred header.columns levels) o ≡ None
    by None below e = refl
    by (Some level.Always) below e = refl
    by (Some (level.Compare comparison left right)) below e =
        let first = gone_on (typed_expr header levels left before) _ p e in
        let second = gone_on (typed_expr header levels right first.0.1) _ p first.2 in
        rw (expr-known header levels left before first.0 first.1, expr-known header levels right first.0.1 second.0 second.1) refl
    by (Some (level.All parts)) below e =
        let tests = gone_on (typed_parts (typed_pred header levels) [] parts before) _ p e in
        parts-known header.columns levels (typed_pred header levels) [] parts before tests.0 below tests.1
    by (Some (level.Any parts)) below e =
        let tests = gone_on (typed_parts (typed_pred header levels) [] parts before) _ p e in
        parts-known header.columns levels (typed_pred header levels) [] parts before tests.0 below tests.1
    by (Some (level.Not part)) below e =
        let test = gone_on (typed_pred header levels part before) _ p e in
        below part before test.0 test.1

-- The laws.

-- a whole predicate that was written, where all texts begin with those that it numbers
pub test-read : (header : HeaderOf) (all : Texts) (own : PredTree) (value : Data) (before : Texts) → AreReferences header.columns → IsDistinct bytes_eq all
    → depth own ≤ 64 → IsPredWritten header.columns all own value → BeginsWith (texts_with before value) all → filter_written header value before ≡ Ok (own, texts_with before value)
unfolding is_whole_pred unknown_in_test whole_pred
test-read header all own value before are distinct deep w begins =
    let read = pred-read header 64 all own value before are distinct deep w begins in
    rw (pred-formed header 64 value before (own, texts_with before value) read, pred-known header 64 value before (own, texts_with before value) read) read

pub preds-read-back : PredsReadBack
preds-read-back header value texts own after are distinct is =
    let begins : BeginsWith (texts_with texts value) after = rw (← is.numbered) (begins-same after) in
    test-read header after own value texts are distinct is.levels is.written begins ∙ ap (λ t. Ok (own, t)) (sym is.numbered)

pub read-preds-are-written : ReadPredsAreWritten
unfolding whole_pred
read-preds-are-written header value texts own after e =
    let formed = gone_on (checked (is_whole_pred value) (fault.Key key.Where) value) _ (own, after) e in
    let known = gone_on (unless_unknown (unknown_in_test header.columns formed.0) formed.0) _ (own, after) formed.2 in
    let whole : value ≡ known.0 =
    (checked-ok (is_whole_pred value) (fault.Key key.Where) value formed.0 formed.1).1 ∙ unless-ok (unknown_in_test header.columns formed.0) formed.0 known.0 known.1 in
    let is = pred-written header 64 value texts own after (rw (← whole) at known.2) in
    record { written = is.written; levels = is.deep; numbered = is.numbered }
