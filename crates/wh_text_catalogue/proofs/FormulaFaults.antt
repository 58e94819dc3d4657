-- What is judged of a formula: its references from left to right, and its kinds.
use Rattle.std.proofs.Common.{◌≡◌, ℕ, zero, suc, Bool, true, false, ◌&&◌, List, [], ◌∷◌, ◌++◌, map, Option, Some, None, Result, Ok, Err, refl, sym, ap, subst, ◌∙◌}
use Rattle.std.specs.Prelude.{codes, if◌then◌else◌, is_some, not, ok_or, option_map}
use Rattle.std.specs.List.{list_all}
use Rattle.std.specs.Option.{option_or}
use Rattle.std.specs.Result.{result_err}
use Rattle.std.proofs.lemmas.Bool.{and_parts}
use Rattle.std.proofs.lemmas.List.{append-nil}
use Rattle.toml.specs.View.{items_of}
use Rattle.toml.specs.Data.{Data}
use Rattle.wh_formula.specs.declared.comparison.Comparison.{Comparison}
use Rattle.wh_formula.specs.declared.comparison.Comparison.TheVariants.{Equal, NotEqual, Less, LessOrEqual, Greater, GreaterOrEqual}
use Rattle.wh_formula.specs.Expr as tree
use Rattle.wh_formula.specs.Pred as test
use Rattle.wh_formula.specs.Pred.{PredTree}
use Rattle.wh_text.specs.Columns.{NamedKind}
use Rattle.wh_text.specs.FirstFault.{fault_if}
use Rattle.wh_text.specs.NameForm.{is_name}
use Rattle.wh_text.specs.declared.columns.Kind.{Kind}
use Rattle.wh_text.specs.declared.columns.Kind.TheVariants.{Int, Text}
use Rattle.wh_text.specs.declared.fault.LoadFault.{LoadFault}
use Rattle.wh_text.specs.declared.fault.LoadFault.TheVariants as fault
use Rattle.wh_text.proofs.FirstFaults.{first_of}
use Rattle.wh_text.specs.ValueOrFault.{◌>>=◌}
use Rattle.wh_text_catalogue.specs.ColumnNames.{checked}
use Rattle.wh_text_catalogue.specs.ExprForm.{WrittenExpr, expr_form, is_expr, parts_pass}
use Rattle.wh_text_catalogue.specs.ExprForm as level
use Rattle.wh_text_catalogue.specs.Formula.{is_whole_expr, is_whole_pred, unknown_column, unknown_in_test, whole_expr, whole_pred}
use Rattle.wh_text_catalogue.specs.FormulaColumns.{first_unknown, unknown, unknown_in_expr, unknown_in_form, unknown_in_parts, unknown_in_pred}
use Rattle.wh_text_catalogue.specs.FormulaKinds.{ExprOutcome, PredOutcome, Texts, combined, compared, fits_kinds, is_int, keeping, operation, typed_expr, typed_form, typed_parts, typed_pred, typed_test, unfit}
use Rattle.wh_text_catalogue.specs.Header.{HeaderOf, cell_of}
use Rattle.wh_text_catalogue.specs.Pairs.{takes_kind, typed_cell}
use Rattle.wh_text_catalogue.specs.PredForm.{WrittenPred, is_pred, pred_form, pred_parts_pass}
use Rattle.wh_text_catalogue.specs.PredForm as form
use Rattle.wh_text_catalogue.specs.Reference.{is_reference}
use Rattle.wh_text_catalogue.specs.ViewFaults.{all_fit, is_number, kind_of, kinds_fit, may_compare, reference_judged, references, references_in, references_judged, takes}
use Rattle.wh_text_catalogue.specs.WrittenFormula.{under, word_of}
use Rattle.wh_text_catalogue.specs.declared.definitions.expr_form.Sign.{Sign}
use Rattle.wh_text_catalogue.specs.declared.definitions.expr_form.Sign.TheVariants.{Plus, Minus, Times}
use Rattle.wh_text_catalogue.specs.declared.definitions.formula_kinds.TypedExpr.{TypedExpr}
use Rattle.wh_text_catalogue.specs.declared.definitions.header.Cell.{Cell}
use Rattle.wh_text_catalogue.specs.declared.definitions.typed_pairs.KindRule.{KindRule}
use Rattle.wh_text_catalogue.proofs.WrittenForms.{IsOfForm, expr-form, sign_word}
use Rattle.wh_text_catalogue.proofs.WrittenPreds.{IsOfTest, pred-form}

-- References.

option_or-None : {T : Type 0} (o : Option T) → option_or o None ≡ o
option_or-None None = refl
option_or-None (Some x) = refl

column-or : (first second : Option (List ℕ)) → option_map fault.Column (option_or first second) ≡ option_or (option_map fault.Column first) (option_map fault.Column second)
column-or None second = refl
column-or (Some text) second = refl

pub unknown-judged : (columns : List NamedKind) (reference : List ℕ) → option_map fault.Column (unknown columns reference) ≡ reference_judged columns reference
unknown-judged columns reference = by (is_some (cell_of columns reference))
  where
    by : (b : Bool) → option_map fault.Column (if b then None else Some reference) ≡ fault_if (not b) (fault.Column reference)
    by true = refl
    by false = refl

-- some references and others after them
pub judged-append : (columns : List NamedKind) (first second : List (List ℕ)) → first_of (map (reference_judged columns) (first ++ second)) ≡ option_or (first_of (map (reference_judged columns) first)) (first_of (map (reference_judged columns) second))
judged-append columns [] second = refl
judged-append columns (reference ∷ first) second = by (reference_judged columns reference) (judged-append columns first second)
  where
    by : (o : Option LoadFault)
        → first_of (map (reference_judged columns) (first ++ second)) ≡ option_or (first_of (map (reference_judged columns) first)) (first_of (map (reference_judged columns) second))
        → option_or o (first_of (map (reference_judged columns) (first ++ second))) ≡ option_or (option_or o (first_of (map (reference_judged columns) first))) (first_of (map (reference_judged columns) second))
    by None more = more
    by (Some f) more = refl

-- the references of two formulas
two-judged : (columns : List NamedKind) (left right : Data) (first second : Option (List ℕ))
    → option_map fault.Column first ≡ first_of (references_judged columns left) → option_map fault.Column second ≡ first_of (references_judged columns right)
    → option_map fault.Column (option_or first second) ≡ first_of (map (reference_judged columns) (references left ++ (references right ++ [])))
two-judged columns left right first second l r =
    column-or first second ∙ ap (λ o. option_or o (option_map fault.Column second)) l ∙ ap (option_or (first_of (references_judged columns left))) r
    ∙ sym (judged-append columns (references left) (references right)) ∙ ap (λ rs. first_of (map (reference_judged columns) (references left ++ rs))) (sym (append-nil (references right)))

sign-references : (sign : Sign) (left right : Data) → references (under (sign_word sign) (left ∷ right ∷ [])) ≡ references left ++ (references right ++ [])
unfolding is_name
sign-references Plus left right = refl
sign-references Minus left right = refl
sign-references Times left right = refl

expr-judged : (columns : List NamedKind) (levels : ℕ) (value : Data) → is_expr levels value ≡ true → option_map fault.Column (unknown_in_expr columns levels value) ≡ first_of (references_judged columns value)
expr-judged columns zero value e = cc
expr-judged columns (suc levels) value e = by (expr_form value) refl (λ form is. expr-form value form is) e (λ part is. expr-judged columns levels part is)
  where
    referenced : (text : List ℕ) (b : Bool) → (if b then Some (level.Reference text) else None) ≡ Some (level.Reference text)
        → option_map fault.Column (unknown columns text) ≡ first_of (map (reference_judged columns) (if b then text ∷ [] else []))
    referenced text true e = unknown-judged columns text ∙ sym (option_or-None (reference_judged columns text))
    referenced text false e = cc

    by : (o : Option WrittenExpr) → expr_form value ≡ o → ((form : WrittenExpr) → o ≡ Some form → IsOfForm form value) → parts_pass (is_expr levels) o ≡ true
        → ((part : Data) → is_expr levels part ≡ true → option_map fault.Column (unknown_in_expr columns levels part) ≡ first_of (references_judged columns part))
        → option_map fault.Column (unknown_in_form columns (unknown_in_expr columns levels) o) ≡ first_of (references_judged columns value)
    by None is forms e more = cc
    by (Some (level.Number n)) is forms e more = sym (ap (λ d. first_of (references_judged columns d)) (forms (level.Number n) refl))
    by (Some (level.Literal text)) is forms e more = sym (ap (λ d. first_of (references_judged columns d)) (forms (level.Literal text) refl))
    by (Some (level.Reference text)) is forms e more =
        let own = forms (level.Reference text) refl in
        referenced text (is_reference text) (sym (ap expr_form own) ∙ is) ∙ sym (ap (λ d. first_of (references_judged columns d)) own)
    by (Some (level.Operation sign left right)) is forms e more =
        let parts = and_parts (is_expr levels left) (is_expr levels right) e in
        two-judged columns left right (unknown_in_expr columns levels left) (unknown_in_expr columns levels right) (more left parts.0) (more right parts.1)
        ∙ ap (λ rs. first_of (map (reference_judged columns) rs)) (sym (sign-references sign left right))
        ∙ sym (ap (λ d. first_of (references_judged columns d)) (forms (level.Operation sign left right) refl))

word-references : (comparison : Comparison) (left right : Data) → references (under (word_of comparison) (left ∷ right ∷ [])) ≡ references left ++ (references right ++ [])
unfolding is_name
word-references Equal left right = refl
word-references NotEqual left right = refl
word-references Less left right = refl
word-references LessOrEqual left right = refl
word-references Greater left right = refl
word-references GreaterOrEqual left right = refl

all-references : (parts : List Data) → references (under (codes "all") parts) ≡ references_in (items_of parts)
unfolding is_name
all-references parts = refl

any-references : (parts : List Data) → references (under (codes "any") parts) ≡ references_in (items_of parts)
unfolding is_name
any-references parts = refl

not-references : (part : Data) → references (under (codes "not") (part ∷ [])) ≡ references part ++ []
unfolding is_name
not-references part = refl

parts-judged : (columns : List NamedKind) (levels : ℕ) (parts : List Data)
    → ((part : Data) → is_pred levels part ≡ true → option_map fault.Column (unknown_in_pred columns levels part) ≡ first_of (references_judged columns part))
    → list_all (is_pred levels) parts ≡ true → option_map fault.Column (first_unknown (unknown_in_pred columns levels) parts) ≡ first_of (map (reference_judged columns) (references_in (items_of parts)))
parts-judged columns levels [] each e = refl
parts-judged columns levels (part ∷ rest) each e =
    let both = and_parts (is_pred levels part) (list_all (is_pred levels) rest) e in
    column-or (unknown_in_pred columns levels part) (first_unknown (unknown_in_pred columns levels) rest)
    ∙ ap (λ o. option_or o (option_map fault.Column (first_unknown (unknown_in_pred columns levels) rest))) (each part both.0)
    ∙ ap (option_or (first_of (references_judged columns part))) (parts-judged columns levels rest each both.1)
    ∙ sym (judged-append columns (references part) (references_in (items_of rest)))

pred-judged : (columns : List NamedKind) (levels : ℕ) (value : Data) → is_pred levels value ≡ true → option_map fault.Column (unknown_in_pred columns levels value) ≡ first_of (references_judged columns value)
pred-judged columns zero value e = cc
pred-judged columns (suc levels) value e = by (pred_form value) (λ form is. pred-form value form is) e (λ part is. pred-judged columns levels part is)
  where
    by : (o : Option WrittenPred) → ((form : WrittenPred) → o ≡ Some form → IsOfTest form value) → pred_parts_pass (is_expr levels) (is_pred levels) o ≡ true
        → ((part : Data) → is_pred levels part ≡ true → option_map fault.Column (unknown_in_pred columns levels part) ≡ first_of (references_judged columns part))
        → option_map fault.Column (unknown_in_parts (unknown_in_expr columns levels) (unknown_in_pred columns levels) o) ≡ first_of (references_judged columns value)
    by None forms e more = cc
    by (Some form.Always) forms e more = sym (ap (λ d. first_of (references_judged columns d)) (forms form.Always refl))
    by (Some (form.Compare comparison left right)) forms e more =
        let parts = and_parts (is_expr levels left) (is_expr levels right) e in
        two-judged columns left right (unknown_in_expr columns levels left) (unknown_in_expr columns levels right) (expr-judged columns levels left parts.0) (expr-judged columns levels right parts.1)
        ∙ ap (λ rs. first_of (map (reference_judged columns) rs)) (sym (word-references comparison left right))
        ∙ sym (ap (λ d. first_of (references_judged columns d)) (forms (form.Compare comparison left right) refl))
    by (Some (form.All parts)) forms e more =
        parts-judged columns levels parts more e ∙ ap (λ rs. first_of (map (reference_judged columns) rs)) (sym (all-references parts)) ∙ sym (ap (λ d. first_of (references_judged columns d)) (forms (form.All parts) refl))
    by (Some (form.Any parts)) forms e more =
        parts-judged columns levels parts more e ∙ ap (λ rs. first_of (map (reference_judged columns) rs)) (sym (any-references parts)) ∙ sym (ap (λ d. first_of (references_judged columns d)) (forms (form.Any parts) refl))
    by (Some (form.Not part)) forms e more =
        more part e ∙ ap (λ rs. first_of (map (reference_judged columns) rs)) (sym (append-nil (references part)) ∙ sym (not-references part))
        ∙ sym (ap (λ d. first_of (references_judged columns d)) (forms (form.Not part) refl))

-- the first unknown reference of an expression, and of a predicate
pub column-judged : (columns : List NamedKind) (value : Data) → is_whole_expr value ≡ true → option_map fault.Column (unknown_column columns value) ≡ first_of (references_judged columns value)
unfolding is_whole_expr unknown_column
column-judged columns value e = expr-judged columns 64 value e

pub test-judged : (columns : List NamedKind) (value : Data) → is_whole_pred value ≡ true → option_map fault.Column (unknown_in_test columns value) ≡ first_of (references_judged columns value)
unfolding is_whole_pred unknown_in_test
test-judged columns value e = pred-judged columns 64 value e

-- Kinds.

-- an expression was read, of this kind; or it has the fault of kinds, where there is none
abbrev IsOfKind : HeaderOf → Option Kind → ExprOutcome → Type 0
IsOfKind header (Some kind) (Ok read) = read.0.kind ≡ kind
IsOfKind header None (Err f) = f ≡ unfit header
IsOfKind header _ _ = ⊥

-- something was read where kinds fit; or it has the fault of kinds
abbrev Fits : {A : Type 0} → HeaderOf → Bool → Result A LoadFault → Type 0
Fits header true (Ok read) = Unit {0}
Fits header false (Err f) = f ≡ unfit header
Fits header _ _ = ⊥

abbrev combine_second : HeaderOf → Sign → TypedExpr → TypedExpr × Texts → ExprOutcome
combine_second header sign first second = combined header sign first second.0 >>= (λ expr. Ok (record { kind = Int; expr = expr }, second.1))

and_true : (b : Bool) → b && true ≡ b
and_true true = refl
and_true false = refl

second-kind : (header : HeaderOf) (sign : Sign) (x : TypedExpr) (kind : Kind) → x.kind ≡ kind → (other : Option Kind) (c : ExprOutcome) → IsOfKind header other c
    → IsOfKind header (if is_int kind && (is_number other && true) then Some Int else None) (c >>= combine_second header sign x)
second-kind header sign x Int same None (Err f) h = h
second-kind header sign x Text same None (Err f) h = h
second-kind header sign x kind same None (Ok z) h = absurd h
second-kind header sign x kind same (Some other) (Err f) h = absurd h
second-kind header sign x kind same (Some other) (Ok z) h =
    by (is_int x.kind && is_int z.0.kind) (is_int kind && (is_int other && true))
    (ap (λ k. is_int k && is_int z.0.kind) same ∙ ap (λ k. is_int kind && is_int k) h ∙ ap (λ b. is_int kind && b) (sym (and_true (is_int other))))
  where
    by : (b c : Bool) → b ≡ c
        → IsOfKind header (if c then Some Int else None) ((if b then Ok (operation sign x.expr z.0.expr) else Err (unfit header)) >>= (λ expr. Ok (record { kind = Int; expr = expr }, z.1)))
    by true true e = refl
    by true false e = cc
    by false true e = cc
    by false false e = refl

operation-kind : (header : HeaderOf) (sign : Sign) (kind other : Option Kind) (a : ExprOutcome) (right : Texts → ExprOutcome) → IsOfKind header kind a → ((t : Texts) → IsOfKind header other (right t))
    → IsOfKind header (if is_number kind && (is_number other && true) then Some Int else None) (a >>= (λ (first : TypedExpr × Texts). right first.1 >>= combine_second header sign first.0))
operation-kind header sign None other (Err f) right h more = h
operation-kind header sign None other (Ok x) right h more = absurd h
operation-kind header sign (Some kind) other (Err f) right h more = absurd h
operation-kind header sign (Some kind) other (Ok x) right h more = second-kind header sign x.0 kind h other (right x.1) (more x.1)

expr-kind : (header : HeaderOf) (levels : ℕ) (value : Data) (texts : Texts) → is_expr levels value ≡ true → IsOfKind header (kind_of header.columns value) (typed_expr header levels value texts)
expr-kind header zero value texts e = cc
expr-kind header (suc levels) value texts e = by (expr_form value) (λ form is. expr-form value form is) e (λ part t is. expr-kind header levels part t is)
  where
    column : (o : Option Cell) → IsOfKind header (option_map (λ (cell : Cell). cell.kind) o) (keeping texts (ok_or o (unfit header) >>= (λ cell. Ok (record { kind = cell.kind; expr = tree.Column cell.place }))))
    column None = refl
    column (Some cell) = refl

    told : (d : Data) → value ≡ d → (r : ExprOutcome) → IsOfKind header (kind_of header.columns d) r → IsOfKind header (kind_of header.columns value) r
    told d same r h = subst (λ d. IsOfKind header (kind_of header.columns d) r) (sym same) h

    by : (o : Option WrittenExpr) → ((form : WrittenExpr) → o ≡ Some form → IsOfForm form value) → parts_pass (is_expr levels) o ≡ true
        → ((part : Data) (t : Texts) → is_expr levels part ≡ true → IsOfKind header (kind_of header.columns part) (typed_expr header levels part t))
        → IsOfKind header (kind_of header.columns value) (typed_form header (typed_expr header levels) o texts)
    by None forms e more = cc
    by (Some (level.Number n)) forms e more = told _ (forms (level.Number n) refl) (typed_form header (typed_expr header levels) (Some (level.Number n)) texts) refl
    by (Some (level.Literal text)) forms e more = told _ (forms (level.Literal text) refl) (typed_form header (typed_expr header levels) (Some (level.Literal text)) texts) refl
    by (Some (level.Reference text)) forms e more = told _ (forms (level.Reference text) refl) (typed_form header (typed_expr header levels) (Some (level.Reference text)) texts) (column (cell_of header.columns text))
    by (Some (level.Operation sign left right)) forms e more =
        let parts = and_parts (is_expr levels left) (is_expr levels right) e in
        told _ (forms (level.Operation sign left right) refl) (typed_form header (typed_expr header levels) (Some (level.Operation sign left right)) texts)
        (operation-kind header sign (kind_of header.columns left) (kind_of header.columns right) (typed_expr header levels left texts) (typed_expr header levels right) (more left texts parts.0) (λ t. more right t parts.1))

abbrev compare_second : HeaderOf → Comparison → TypedExpr → TypedExpr × Texts → PredOutcome
compare_second header comparison first second = compared header comparison first second.0 >>= (λ pred. Ok (pred, second.1))

compare-fits : (header : HeaderOf) (comparison : Comparison) (x : TypedExpr) (kind : Kind) → x.kind ≡ kind → (other : Option Kind) (c : ExprOutcome) → IsOfKind header other c
    → Fits header (may_compare comparison (Some kind) other) (c >>= compare_second header comparison x)
compare-fits header comparison x kind same None (Err f) h = h
compare-fits header comparison x kind same None (Ok z) h = absurd h
compare-fits header comparison x kind same (Some other) (Err f) h = absurd h
compare-fits header comparison x kind same (Some other) (Ok z) h =
    by (fits_kinds comparison x.kind z.0.kind) (fits_kinds comparison kind other) (ap (λ k. fits_kinds comparison k z.0.kind) same ∙ ap (λ k. fits_kinds comparison kind k) h)
  where
    by : (b c : Bool) → b ≡ c → Fits {A = PredTree × Texts} header c ((if b then Ok (test.Cmp comparison x.expr z.0.expr) else Err (unfit header)) >>= (λ pred. Ok (pred, z.1)))
    by true true e = tt
    by true false e = cc
    by false true e = cc
    by false false e = refl

comparison-fits : (header : HeaderOf) (comparison : Comparison) (kind other : Option Kind) (a : ExprOutcome) (right : Texts → ExprOutcome) → IsOfKind header kind a → ((t : Texts) → IsOfKind header other (right t))
    → Fits header (may_compare comparison kind other) (a >>= (λ (first : TypedExpr × Texts). right first.1 >>= compare_second header comparison first.0))
comparison-fits header comparison None other (Err f) right h more = h
comparison-fits header comparison None other (Ok x) right h more = absurd h
comparison-fits header comparison (Some kind) other (Err f) right h more = absurd h
comparison-fits header comparison (Some kind) other (Ok x) right h more = compare-fits header comparison x.0 kind h other (right x.1) (more x.1)

fits-then : {A B : Type 0} (header : HeaderOf) (b : Bool) (r : Result A LoadFault) (f : A → B) → Fits header b r → Fits {A = B} header b (r >>= (λ a. Ok (f a)))
fits-then header true (Ok a) f h = tt
fits-then header true (Err e) f h = absurd h
fits-then header false (Ok a) f h = absurd h
fits-then header false (Err e) f h = h

first-fits : (header : HeaderOf) (typed : Data → Texts → PredOutcome) (rest : List Data) (found : List PredTree) (first more : Bool) (a : PredOutcome) → Fits header first a
    → ((f : List PredTree) (t : Texts) → Fits header more (typed_parts typed f rest t))
    → Fits header (first && more) (a >>= (λ (part : PredTree × Texts). typed_parts typed (found ++ part.0 ∷ []) rest part.1))
first-fits header typed rest found true more (Ok x) h later = later (found ++ x.0 ∷ []) x.1
first-fits header typed rest found true more (Err f) h later = absurd h
first-fits header typed rest found false more (Ok x) h later = absurd h
first-fits header typed rest found false more (Err f) h later = h

parts-fit : (header : HeaderOf) (levels : ℕ) (parts : List Data) → ((part : Data) (t : Texts) → is_pred levels part ≡ true → Fits header (kinds_fit header.columns part) (typed_pred header levels part t))
    → list_all (is_pred levels) parts ≡ true → (found : List PredTree) (t : Texts) → Fits header (all_fit header.columns (items_of parts)) (typed_parts (typed_pred header levels) found parts t)
parts-fit header levels [] each e found t = tt
parts-fit header levels (part ∷ rest) each e found t =
    let both = and_parts (is_pred levels part) (list_all (is_pred levels) rest) e in
    first-fits header (typed_pred header levels) rest found (kinds_fit header.columns part) (all_fit header.columns (items_of rest)) (typed_pred header levels part t) (each part t both.0) (parts-fit header levels rest each both.1)

-- what stands under each word
comparison-under : (columns : List NamedKind) (comparison : Comparison) (left right : Data)
    → kinds_fit columns (under (word_of comparison) (left ∷ right ∷ [])) ≡ may_compare comparison (kind_of columns left) (kind_of columns right)
comparison-under columns Equal left right = refl
comparison-under columns NotEqual left right = refl
comparison-under columns Less left right = refl
comparison-under columns LessOrEqual left right = refl
comparison-under columns Greater left right = refl
comparison-under columns GreaterOrEqual left right = refl

all-under : (columns : List NamedKind) (parts : List Data) → kinds_fit columns (under (codes "all") parts) ≡ all_fit columns (items_of parts)
all-under columns parts = refl

any-under : (columns : List NamedKind) (parts : List Data) → kinds_fit columns (under (codes "any") parts) ≡ all_fit columns (items_of parts)
any-under columns parts = refl

not-under : (columns : List NamedKind) (part : Data) → kinds_fit columns (under (codes "not") (part ∷ [])) ≡ kinds_fit columns part
not-under columns part = and_true (kinds_fit columns part)

pred-fits : (header : HeaderOf) (levels : ℕ) (value : Data) (texts : Texts) → is_pred levels value ≡ true → Fits header (kinds_fit header.columns value) (typed_pred header levels value texts)
pred-fits header zero value texts e = cc
pred-fits header (suc levels) value texts e = by (pred_form value) (λ form is. pred-form value form is) e (λ part t is. pred-fits header levels part t is)
  where
    told : (d : Data) → value ≡ d → (b : Bool) → kinds_fit header.columns d ≡ b → (r : PredOutcome) → Fits header b r → Fits header (kinds_fit header.columns value) r
    told d same b is r h = subst (λ b. Fits header b r) (sym (ap (kinds_fit header.columns) same ∙ is)) h

    by : (o : Option WrittenPred) → ((form : WrittenPred) → o ≡ Some form → IsOfTest form value) → pred_parts_pass (is_expr levels) (is_pred levels) o ≡ true
        → ((part : Data) (t : Texts) → is_pred levels part ≡ true → Fits header (kinds_fit header.columns part) (typed_pred header levels part t))
        → Fits header (kinds_fit header.columns value) (typed_test header (typed_expr header levels) (typed_pred header levels) o texts)
    by None forms e more = cc
    by (Some form.Always) forms e more = told _ (forms form.Always refl) true refl (Ok (test.True, texts)) tt
    by (Some (form.Compare comparison left right)) forms e more =
        let parts = and_parts (is_expr levels left) (is_expr levels right) e in
        told _ (forms (form.Compare comparison left right) refl) _ (comparison-under header.columns comparison left right) (typed_test header (typed_expr header levels) (typed_pred header levels) (Some (form.Compare comparison left right)) texts)
        (comparison-fits header comparison (kind_of header.columns left) (kind_of header.columns right) (typed_expr header levels left texts) (typed_expr header levels right) (expr-kind header levels left texts parts.0)
        (λ t. expr-kind header levels right t parts.1))
    by (Some (form.All parts)) forms e more =
        told _ (forms (form.All parts) refl) _ (all-under header.columns parts) (typed_test header (typed_expr header levels) (typed_pred header levels) (Some (form.All parts)) texts)
        (fits-then header (all_fit header.columns (items_of parts)) (typed_parts (typed_pred header levels) [] parts texts) (λ (own : List PredTree × Texts). (test.AllOf (test.parts_of own.0), own.1))
        (parts-fit header levels parts more e [] texts))
    by (Some (form.Any parts)) forms e more =
        told _ (forms (form.Any parts) refl) _ (any-under header.columns parts) (typed_test header (typed_expr header levels) (typed_pred header levels) (Some (form.Any parts)) texts)
        (fits-then header (all_fit header.columns (items_of parts)) (typed_parts (typed_pred header levels) [] parts texts) (λ (own : List PredTree × Texts). (test.AnyOf (test.parts_of own.0), own.1))
        (parts-fit header levels parts more e [] texts))
    by (Some (form.Not part)) forms e more =
        told _ (forms (form.Not part) refl) _ (not-under header.columns part) (typed_test header (typed_expr header levels) (typed_pred header levels) (Some (form.Not part)) texts)
        (fits-then header (kinds_fit header.columns part) (typed_pred header levels part texts) (λ (own : PredTree × Texts). (test.Not own.0, own.1)) (more part texts e))

-- a key takes the expression of a cell by its kind
pub kind-judged : (header : HeaderOf) (rule : KindRule) (value : Data) (texts : Texts) → is_whole_expr value ≡ true
    → result_err (typed_cell header rule value texts) ≡ fault_if (not (takes rule (kind_of header.columns value))) (unfit header)
unfolding whole_expr is_whole_expr
kind-judged header rule value texts e = by (kind_of header.columns value) (typed_expr header 64 value texts) (expr-kind header 64 value texts e)
  where
    tested : (own : TypedExpr × Texts) (passes : Bool) → result_err (checked passes (unfit header) own) ≡ fault_if (not passes) (unfit header)
    tested own true = refl
    tested own false = refl

    by : (kind : Option Kind) (r : ExprOutcome) → IsOfKind header kind r
        → result_err (r >>= (λ (typed : TypedExpr × Texts). checked (takes_kind rule typed.0.kind) (unfit header) typed)) ≡ fault_if (not (takes rule kind)) (unfit header)
    by None (Err f) h = ap Some h
    by None (Ok a) h = absurd h
    by (Some kind) (Err f) h = absurd h
    by (Some kind) (Ok a) h = ap (λ k. result_err (checked (takes_kind rule k) (unfit header) a)) h ∙ tested a (takes_kind rule kind)

-- the kinds of a predicate fit or have their fault
pub kinds-judged : (header : HeaderOf) (value : Data) (texts : Texts) → is_whole_pred value ≡ true
    → result_err (whole_pred header value texts) ≡ fault_if (not (kinds_fit header.columns value)) (unfit header)
unfolding whole_pred is_whole_pred
kinds-judged header value texts e = by (kinds_fit header.columns value) (typed_pred header 64 value texts) (pred-fits header 64 value texts e)
  where
    by : (b : Bool) (r : PredOutcome) → Fits header b r → result_err r ≡ fault_if (not b) (unfit header)
    by true (Ok a) h = refl
    by true (Err f) h = absurd h
    by false (Ok a) h = absurd h
    by false (Err f) h = ap Some h
