-- A formula that is read from a catalogue lies within the combined row: each column that it names is one of the row's.
use Rattle.std.proofs.Common.{◌≡◌, ℕ, zero, suc, pos, ◌<◌, ◌&&◌, Bool, true, false, List, [], ◌∷◌, ◌++◌, length, Option, Some, None, ok_or, option_map, Result, Ok, Err, refl, ap}
use Rattle.std.specs.Prelude.{if◌then◌else◌}
use Rattle.std.specs.List.{list_all}
use Rattle.std.specs.Str.{bytes_eq}
use Rattle.std.proofs.lemmas.Bool.{and_parts, lt-ltb}
use Rattle.std.proofs.lemmas.List.Folds.{list_all-append}
use Rattle.std.proofs.lemmas.List.Quantifiers.{position-Some}
use Rattle.toml.specs.Data.{Data}
use Rattle.wh_formula.specs.declared.comparison.Comparison.{Comparison}
use Rattle.wh_formula.specs.Expr.{ExprTree, fits}
use Rattle.wh_formula.specs.Expr as tree
use Rattle.wh_formula.specs.Pred.{PredTree, parts_of, all_fit}
use Rattle.wh_formula.specs.Pred as test
use Rattle.wh_text.specs.Columns.{NamedKind}
use Rattle.wh_text.specs.Dict.{number_of_text, with_text}
use Rattle.wh_text.specs.declared.columns.Kind.TheVariants.{Int, Text}
use Rattle.wh_text.specs.declared.fault.LoadFault.{LoadFault}
use Rattle.wh_text.specs.ValueOrFault.{◌>>=◌}
use Rattle.wh_text_catalogue.specs.ColumnNames.{checked, unless_unknown}
use Rattle.wh_text_catalogue.specs.ExprForm.{WrittenExpr, expr_form}
use Rattle.wh_text_catalogue.specs.ExprForm as form
use Rattle.wh_text_catalogue.specs.Filter.{filter_at, filter_of}
use Rattle.wh_text_catalogue.specs.Formula.{unknown_in_test, whole_expr, whole_pred, is_whole_pred}
use Rattle.wh_text_catalogue.specs.FormulaKinds.{ExprOutcome, PredOutcome, Texts, combined, compared, fits_kinds, is_int, keeping, operation, typed_column, typed_expr, typed_form, typed_parts, typed_pred, typed_test, unfit}
use Rattle.wh_text_catalogue.specs.Header.{HeaderOf, cell_of, kind_at, place_of}
use Rattle.wh_text_catalogue.specs.PredForm.{WrittenPred, pred_form}
use Rattle.wh_text_catalogue.specs.PredForm as pred
use Rattle.wh_text_catalogue.specs.declared.definitions.expr_form.Sign.{Sign}
use Rattle.wh_text_catalogue.specs.declared.definitions.expr_form.Sign.TheVariants.{Plus, Minus, Times}
use Rattle.wh_text_catalogue.specs.declared.definitions.formula_kinds.TypedExpr.{TypedExpr}
use Rattle.wh_text_catalogue.specs.declared.definitions.header.Cell.{Cell}
use Rattle.wh_text_catalogue.proofs.CatalogueNames.{gone_on}

pub checked-ok : {A : Type 0} (passes : Bool) (first : LoadFault) (value x : A) → checked passes first value ≡ Ok x → (passes ≡ true) × (value ≡ x)
checked-ok true first value x e = (refl, cc)
checked-ok false first value x e = cc e

pub unless-ok : {A : Type 0} (unknown : Option (List ℕ)) (value x : A) → unless_unknown unknown value ≡ Ok x → value ≡ x
unless-ok None value x e = cc
unless-ok (Some text) value x e = cc e

-- a cell that a reference names is one of the row's
pub place-within : (columns : List NamedKind) (reference : List ℕ) (cell : Cell) → cell_of columns reference ≡ Some cell → cell.place < length columns
place-within columns reference cell = by (place_of columns reference) refl
  where
    by : (o : Option ℕ) → place_of columns reference ≡ o → option_map (λ place. record { place = place; kind = kind_at columns place }) o ≡ Some cell → cell.place < length columns
    by None is e = cc e
    by (Some place) is e =
        let same : record { place = place; kind = kind_at columns place } ≡ cell = cc in
        rw (← same) (position-Some (λ c. bytes_eq c.name reference) columns place (record { name = []; kind = kind_at [] 0 }) is).0

-- Expressions.

expr-first : (p : TypedExpr × Texts) (t : TypedExpr) (after : Texts) (outcome : ExprOutcome) → outcome ≡ Ok p → outcome ≡ Ok (t, after) → p.0 ≡ t
expr-first p t after outcome e f = let same : p ≡ (t, after) = cc in ap (λ (q : TypedExpr × Texts). q.0) same

abbrev pub ExprFits : HeaderOf → ExprOutcome → Type 0
ExprFits header outcome = (typed : TypedExpr) (texts : Texts) → outcome ≡ Ok (typed, texts) → fits (length header.columns) typed.expr ≡ true

operation-fits : (width : ℕ) (sign : Sign) (left right : ExprTree) → fits width left ≡ true → fits width right ≡ true → fits width (operation sign left right) ≡ true
operation-fits width Plus left right l r = rw (l, r) refl
operation-fits width Minus left right l r = rw (l, r) refl
operation-fits width Times left right l r = rw (l, r) refl

combined-fits : (header : HeaderOf) (sign : Sign) (left right : TypedExpr) (expr : ExprTree) → fits (length header.columns) left.expr ≡ true → fits (length header.columns) right.expr ≡ true
    → combined header sign left right ≡ Ok expr → fits (length header.columns) expr ≡ true
combined-fits header sign left right expr l r = by (is_int left.kind && is_int right.kind)
  where
    by : (fit : Bool) → (if fit then Ok (operation sign left.expr right.expr) else Err (unfit header)) ≡ Ok expr → fits (length header.columns) expr ≡ true
    by true e = let same : operation sign left.expr right.expr ≡ expr = cc in rw (← same) (operation-fits (length header.columns) sign left.expr right.expr l r)
    by false e = cc e

column-fits : (header : HeaderOf) (reference : List ℕ) (texts : Texts) → ExprFits header (keeping texts (typed_column header reference))
column-fits header reference texts typed after = by (cell_of header.columns reference) refl
  where
    by : (o : Option Cell) → cell_of header.columns reference ≡ o
        → keeping texts (ok_or o (unfit header) >>= (λ cell. Ok (record { kind = cell.kind; expr = tree.Column cell.place }))) ≡ Ok (typed, after) → fits (length header.columns) typed.expr ≡ true
    by None is e = cc e
    by (Some cell) is e =
        let same : (record { kind = cell.kind; expr = tree.Column cell.place }, texts) ≡ (typed, after) = cc in
        let own : record { kind = cell.kind; expr = tree.Column cell.place } ≡ typed = ap (λ (p : TypedExpr × Texts). p.0) same in
        rw (← own) (lt-ltb cell.place (length header.columns) (place-within header.columns reference cell is))

form-fits : (header : HeaderOf) (typed : Data → Texts → ExprOutcome) → ((value : Data) (texts : Texts) → ExprFits header (typed value texts))
    → (o : Option WrittenExpr) (texts : Texts) → ExprFits header (typed_form header typed o texts)
form-fits header typed parts None texts t after e = cc e
form-fits header typed parts (Some (form.Number n)) texts t after e =
    rw (← expr-first (record { kind = Int; expr = tree.Number n }, texts) t after _ refl e) refl
form-fits header typed parts (Some (form.Literal text)) texts t after e =
    rw (← expr-first (record { kind = Text; expr = tree.Number (pos (number_of_text texts text)) }, with_text texts text) t after _ refl e) refl
form-fits header typed parts (Some (form.Reference text)) texts t after e = column-fits header text texts t after e
form-fits header typed parts (Some (form.Operation sign left right)) texts t after e =
    let first = gone_on (typed left texts) _ (t, after) e in
    let second = gone_on (typed right first.0.1) _ (t, after) first.2 in
    let expr = gone_on (combined header sign first.0.0 second.0.0) _ (t, after) second.2 in
    rw (← expr-first (record { kind = Int; expr = expr.0 }, second.0.1) t after _ refl expr.2)
    (combined-fits header sign first.0.0 second.0.0 expr.0 (parts left texts first.0.0 first.0.1 first.1) (parts right first.0.1 second.0.0 second.0.1 second.1) expr.1)

expr-fits : (header : HeaderOf) (levels : ℕ) (value : Data) (texts : Texts) → ExprFits header (typed_expr header levels value texts)
expr-fits header zero value texts t after e = cc e
expr-fits header (suc levels) value texts t after e = form-fits header (typed_expr header levels) (expr-fits header levels) (expr_form value) texts t after e

pub whole_expr-fits : (header : HeaderOf) (value : Data) (texts : Texts) → ExprFits header (whole_expr header value texts)
unfolding whole_expr
whole_expr-fits header value texts = expr-fits header 64 value texts

-- Predicates.

pred-first : (p : PredTree × Texts) (t : PredTree) (after : Texts) (outcome : PredOutcome) → outcome ≡ Ok p → outcome ≡ Ok (t, after) → p.0 ≡ t
pred-first p t after outcome e f = let same : p ≡ (t, after) = cc in ap (λ (q : PredTree × Texts). q.0) same

parts-first : (p : List PredTree × Texts) (t : List PredTree) (after : Texts) (outcome : Result (List PredTree × Texts) LoadFault) → outcome ≡ Ok p → outcome ≡ Ok (t, after) → p.0 ≡ t
parts-first p t after outcome e f = let same : p ≡ (t, after) = cc in ap (λ (q : List PredTree × Texts). q.0) same

abbrev pub PredFits : HeaderOf → PredOutcome → Type 0
PredFits header outcome = (tested : PredTree) (texts : Texts) → outcome ≡ Ok (tested, texts) → test.fits (length header.columns) tested ≡ true

parts-fit : (width : ℕ) (parts : List PredTree) → list_all (test.fits width) parts ≡ true → all_fit width (parts_of parts) ≡ true
parts-fit width [] h = refl
parts-fit width (p ∷ ps) h = let both = and_parts (test.fits width p) (list_all (test.fits width) ps) h in rw (both.0, parts-fit width ps both.1) refl

typed_parts-fit : (header : HeaderOf) (typed : Data → Texts → PredOutcome) → ((value : Data) (texts : Texts) → PredFits header (typed value texts))
    → (found : List PredTree) (values : List Data) (texts : Texts) (parts : List PredTree) (after : Texts) → list_all (test.fits (length header.columns)) found ≡ true
    → typed_parts typed found values texts ≡ Ok (parts, after) → list_all (test.fits (length header.columns)) parts ≡ true
typed_parts-fit header typed each found [] texts parts after so_far e =
    rw (← parts-first (found, texts) parts after _ refl e) so_far
typed_parts-fit header typed each found (value ∷ rest) texts parts after so_far e =
    let part = gone_on (typed value texts) _ (parts, after) e in
    let own = each value texts part.0.0 part.0.1 part.1 in
    typed_parts-fit header typed each (found ++ part.0.0 ∷ []) rest part.0.1 parts after
    (rw (list_all-append (test.fits (length header.columns)) found (part.0.0 ∷ []), so_far, own) refl) part.2

compared-fits : (header : HeaderOf) (comparison : Comparison) (left right : TypedExpr) (tested : PredTree) → fits (length header.columns) left.expr ≡ true → fits (length header.columns) right.expr ≡ true
    → compared header comparison left right ≡ Ok tested → test.fits (length header.columns) tested ≡ true
compared-fits header comparison left right tested l r = by (fits_kinds comparison left.kind right.kind)
  where
    by : (fit : Bool) → (if fit then Ok (test.Cmp comparison left.expr right.expr) else Err (unfit header)) ≡ Ok tested → test.fits (length header.columns) tested ≡ true
    by true e = let same : test.Cmp comparison left.expr right.expr ≡ tested = cc in rw (← same, l, r) refl
    by false e = cc e

test-fits : (header : HeaderOf) (expr : Data → Texts → ExprOutcome) (typed : Data → Texts → PredOutcome)
    → ((value : Data) (texts : Texts) → ExprFits header (expr value texts)) → ((value : Data) (texts : Texts) → PredFits header (typed value texts))
    → (o : Option WrittenPred) (texts : Texts) → PredFits header (typed_test header expr typed o texts)
test-fits header expr typed exprs preds None texts t after e = cc e
test-fits header expr typed exprs preds (Some pred.Always) texts t after e =
    rw (← pred-first (test.True, texts) t after _ refl e) refl
test-fits header expr typed exprs preds (Some (pred.Compare comparison left right)) texts t after e =
    let first = gone_on (expr left texts) _ (t, after) e in
    let second = gone_on (expr right first.0.1) _ (t, after) first.2 in
    let own = gone_on (compared header comparison first.0.0 second.0.0) _ (t, after) second.2 in
    rw (← pred-first (own.0, second.0.1) t after _ refl own.2)
    (compared-fits header comparison first.0.0 second.0.0 own.0 (exprs left texts first.0.0 first.0.1 first.1) (exprs right first.0.1 second.0.0 second.0.1 second.1) own.1)
test-fits header expr typed exprs preds (Some (pred.All parts)) texts t after e =
    let own = gone_on (typed_parts typed [] parts texts) _ (t, after) e in
    rw (← pred-first (test.AllOf (parts_of own.0.0), own.0.1) t after _ refl own.2)
    (parts-fit (length header.columns) own.0.0 (typed_parts-fit header typed preds [] parts texts own.0.0 own.0.1 refl own.1))
test-fits header expr typed exprs preds (Some (pred.Any parts)) texts t after e =
    let own = gone_on (typed_parts typed [] parts texts) _ (t, after) e in
    rw (← pred-first (test.AnyOf (parts_of own.0.0), own.0.1) t after _ refl own.2)
    (parts-fit (length header.columns) own.0.0 (typed_parts-fit header typed preds [] parts texts own.0.0 own.0.1 refl own.1))
test-fits header expr typed exprs preds (Some (pred.Not part)) texts t after e =
    let own = gone_on (typed part texts) _ (t, after) e in
    rw (← pred-first (test.Not own.0.0, own.0.1) t after _ refl own.2) (preds part texts own.0.0 own.0.1 own.1)

pred-fits : (header : HeaderOf) (levels : ℕ) (value : Data) (texts : Texts) → PredFits header (typed_pred header levels value texts)
pred-fits header zero value texts t after e = cc e
pred-fits header (suc levels) value texts t after e = test-fits header (typed_expr header levels) (typed_pred header levels) (expr-fits header levels) (pred-fits header levels) (pred_form value) texts t after e

whole_pred-fits : (header : HeaderOf) (value : Data) (texts : Texts) → PredFits header (whole_pred header value texts)
unfolding whole_pred
whole_pred-fits header value texts = pred-fits header 64 value texts

filter_at-fits : (header : HeaderOf) (o : Option Data) (texts : Texts) → PredFits header (filter_at header o texts)
filter_at-fits header None texts t after e =
    rw (← pred-first (test.True, texts) t after _ refl e) refl
filter_at-fits header (Some value) texts t after e =
    let formed = gone_on (checked (is_whole_pred value) _ value) _ (t, after) e in
    let known = gone_on (unless_unknown (unknown_in_test header.columns formed.0) formed.0) _ (t, after) formed.2 in
    whole_pred-fits header known.0 texts t after known.2

pub filter-fits : (header : HeaderOf) (view : Data) (texts : Texts) → PredFits header (filter_of header view texts)
filter-fits header view texts = filter_at-fits header _ texts
