-- Expressions that are written are read as what they are, and those that are read are what was written.
use Rattle.std.proofs.Common.{◌≡◌, ℕ, zero, suc, pos, ℤ, ◌≤◌, ◌&&◌, true, List, [], ◌∷◌, Option, Some, None, ok_or, is_some, Result, Ok, Err, refl, ap, sym, ◌∙◌, arith}
use Rattle.std.specs.Prelude.{if◌then◌else◌}
use Rattle.std.specs.List.{IsDistinct}
use Rattle.std.specs.Str.{bytes_eq}
use Rattle.toml.specs.Data.{Data, string}
use Rattle.wh_formula.specs.Expr.{ExprTree, Column, Number, Add, Sub, Mul, depth}
use Rattle.wh_text.specs.Columns.{NamedKind}
use Rattle.wh_text.specs.Dict.{number_of_text, with_text, with_texts}
use Rattle.wh_text.specs.Inner.Dict.{BeginsWith}
use Rattle.wh_text.specs.declared.columns.Kind.{Kind}
use Rattle.wh_text.specs.declared.columns.Kind.TheVariants.{Int, Text}
use Rattle.wh_text.specs.declared.fault.LoadFault.{LoadFault}
use Rattle.wh_text.proofs.DictGrowth.{begins-same, begins-texts}
use Rattle.wh_text.specs.ValueOrFault.{◌>>=◌}
use Rattle.wh_text_catalogue.specs.ExprForm.{WrittenExpr, expr_form, is_expr, parts_pass}
use Rattle.wh_text_catalogue.specs.ExprForm as level
use Rattle.wh_text_catalogue.specs.Formula.{is_whole_expr, unknown_column, whole_expr}
use Rattle.wh_text_catalogue.specs.FormulaColumns.{unknown_in_expr, unknown_in_form}
use Rattle.wh_text_catalogue.specs.FormulaKinds.{Texts, combined, is_int, keeping, operation, typed_column, typed_expr, typed_form, unfit}
use Rattle.wh_text_catalogue.specs.Header.{HeaderOf, cell_of}
use Rattle.wh_text_catalogue.specs.WrittenFormula.{IsExprWritten, literals, under}
use Rattle.wh_text_catalogue.specs.WrittenLaws.{AreReferences, ExprsReadBack, IsExprRead, ReadExprsAreWritten, texts_with}
use Rattle.wh_text_catalogue.specs.declared.definitions.expr_form.Sign.{Sign}
use Rattle.wh_text_catalogue.specs.declared.definitions.expr_form.Sign.TheVariants.{Plus, Minus, Times}
use Rattle.wh_text_catalogue.specs.declared.definitions.formula_kinds.TypedExpr.{TypedExpr}
use Rattle.wh_text_catalogue.specs.declared.definitions.header.Cell.{Cell}
use Rattle.wh_text_catalogue.proofs.CatalogueNames.{gone_on}
use Rattle.wh_text_catalogue.proofs.WrittenForms.{cell-found, cell-stands, column-form, expr-form, number-found, sign_word, text-kept, text-numbered}

-- Number literals stand for themselves, so an expression of whole numbers has no text.

no-text : (left right : Data) (sign : Sign) → literals left ≡ [] → literals right ≡ [] → literals (under (sign_word sign) (left ∷ right ∷ [])) ≡ []
no-text left right sign l r = rw (l, r) refl

pub int-literals : (columns : List NamedKind) (texts : Texts) (own : ExprTree) (value : Data) → IsExprWritten columns texts own Int value → literals value ≡ []
int-literals columns texts (Column place) value w = rw w.2 refl
int-literals columns texts (Number n) value w = rw w refl
int-literals columns texts (Add a b) value w = ap literals w.3 ∙ no-text w.0 w.1 Plus (int-literals columns texts a w.0 w.4) (int-literals columns texts b w.1 w.5)
int-literals columns texts (Sub a b) value w = ap literals w.3 ∙ no-text w.0 w.1 Minus (int-literals columns texts a w.0 w.4) (int-literals columns texts b w.1 w.5)
int-literals columns texts (Mul a b) value w = ap literals w.3 ∙ no-text w.0 w.1 Times (int-literals columns texts a w.0 w.4) (int-literals columns texts b w.1 w.5)

-- What is written stays so while texts are added.
pub expr-kept : (columns : List NamedKind) (texts all : Texts) (own : ExprTree) (kind : Kind) (value : Data) → BeginsWith texts all → IsExprWritten columns texts own kind value → IsExprWritten columns all own kind value
expr-kept columns texts all (Column place) kind value begins w = w
expr-kept columns texts all (Number n) Int value begins w = w
expr-kept columns texts all (Number n) Text value begins w = (w.0, text-kept texts all n w.0 begins w.1, w.2)
expr-kept columns texts all (Add a b) kind value begins w = (w.0, w.1, w.2, w.3, expr-kept columns texts all a Int w.0 begins w.4, expr-kept columns texts all b Int w.1 begins w.5)
expr-kept columns texts all (Sub a b) kind value begins w = (w.0, w.1, w.2, w.3, expr-kept columns texts all a Int w.0 begins w.4, expr-kept columns texts all b Int w.1 begins w.5)
expr-kept columns texts all (Mul a b) kind value begins w = (w.0, w.1, w.2, w.3, expr-kept columns texts all a Int w.0 begins w.4, expr-kept columns texts all b Int w.1 begins w.5)

-- Writing, then reading.

pub column-read : (header : HeaderOf) (levels : ℕ) (texts : Texts) (place : ℕ) (kind : Kind) (value : Data) → AreReferences header.columns → IsExprWritten header.columns texts (Column place) kind value
    → (before : Texts) → typed_expr header (suc levels) value before ≡ Ok (record { kind = kind; expr = Column place }, before)
column-read header levels texts place kind value are w before =
    let form = column-form header.columns place w.0 kind are w.1 in
    let found = cell-found header.columns place w.0 kind are.distinct w.1 in
    ap (λ d. typed_expr header (suc levels) d before) w.2 ∙ rw (form, found) refl

operation-read : (header : HeaderOf) (levels : ℕ) (sign : Sign) (a b : ExprTree) (left right : Data) (before : Texts)
    → typed_expr header levels left before ≡ Ok (record { kind = Int; expr = a }, before) → typed_expr header levels right before ≡ Ok (record { kind = Int; expr = b }, before)
    → typed_expr header (suc levels) (under (sign_word sign) (left ∷ right ∷ [])) before ≡ Ok (record { kind = Int; expr = operation sign a b }, before)
operation-read header levels Plus a b left right before l r = rw (l, r) refl
operation-read header levels Minus a b left right before l r = rw (l, r) refl
operation-read header levels Times a b left right before l r = rw (l, r) refl

int-read : (header : HeaderOf) (levels : ℕ) (texts : Texts) (own : ExprTree) (value : Data) → AreReferences header.columns → depth own ≤ levels → IsExprWritten header.columns texts own Int value
    → (before : Texts) → typed_expr header levels value before ≡ Ok (record { kind = Int; expr = own }, before)
int-read header zero texts (Column place) value are deep w before = absurd (omega arith)
int-read header zero texts (Number n) value are deep w before = absurd (omega arith)
int-read header zero texts (Add a b) value are deep w before = absurd (omega arith)
int-read header zero texts (Sub a b) value are deep w before = absurd (omega arith)
int-read header zero texts (Mul a b) value are deep w before = absurd (omega arith)
int-read header (suc levels) texts (Column place) value are deep w before = column-read header levels texts place Int value are w before
int-read header (suc levels) texts (Number n) value are deep w before = rw w refl
int-read header (suc levels) texts (Add a b) value are deep w before =
    ap (λ d. typed_expr header (suc levels) d before) w.3
    ∙ operation-read header levels Plus a b w.0 w.1 before (int-read header levels texts a w.0 are (omega arith) w.4 before) (int-read header levels texts b w.1 are (omega arith) w.5 before)
int-read header (suc levels) texts (Sub a b) value are deep w before =
    ap (λ d. typed_expr header (suc levels) d before) w.3
    ∙ operation-read header levels Minus a b w.0 w.1 before (int-read header levels texts a w.0 are (omega arith) w.4 before) (int-read header levels texts b w.1 are (omega arith) w.5 before)
int-read header (suc levels) texts (Mul a b) value are deep w before =
    ap (λ d. typed_expr header (suc levels) d before) w.3
    ∙ operation-read header levels Times a b w.0 w.1 before (int-read header levels texts a w.0 are (omega arith) w.4 before) (int-read header levels texts b w.1 are (omega arith) w.5 before)

-- an expression that was written is read as it was, where all texts begin with those that it numbers
pub expr-read : (header : HeaderOf) (levels : ℕ) (all : Texts) (own : ExprTree) (kind : Kind) (value : Data) (before : Texts) → AreReferences header.columns → IsDistinct bytes_eq all
    → depth own ≤ levels → IsExprWritten header.columns all own kind value → BeginsWith (texts_with before value) all
    → typed_expr header levels value before ≡ Ok (record { kind = kind; expr = own }, texts_with before value)
unfolding with_texts
expr-read header levels all own Int value before are distinct deep w begins =
    int-read header levels all own value are deep w before ∙ ap (λ t. Ok (record { kind = Int; expr = own }, with_texts before t)) (sym (int-literals header.columns all own value w))
expr-read header zero all (Column place) Text value before are distinct deep w begins = absurd (omega arith)
expr-read header (suc levels) all (Column place) Text value before are distinct deep w begins =
    column-read header levels all place Text value are w before ∙ ap (λ d. Ok (record { kind = Text; expr = Column place }, texts_with before d)) (sym w.2)
expr-read header zero all (Number n) Text value before are distinct deep w begins = absurd (omega arith)
expr-read header (suc levels) all (Number n) Text value before are distinct deep w begins =
    let number = number-found before all w.0 n distinct (rw w.2 at begins) w.1 in
    ap (λ d. typed_expr header (suc levels) d before) w.2
    ∙ ap (λ (m : ℤ). Ok (record { kind = Text; expr = Number m }, with_text before w.0)) number
    ∙ ap (λ d. Ok (record { kind = Text; expr = Number n }, texts_with before d)) (sym w.2)
expr-read header levels all (Add a b) Text value before are distinct deep w begins = cc w.2
expr-read header levels all (Sub a b) Text value before are distinct deep w begins = cc w.2
expr-read header levels all (Mul a b) Text value before are distinct deep w begins = cc w.2

-- Reading, then what was written.

-- the data write this expression, of so many levels, with the texts that it has numbered
pub record IsOfExpr (columns : List NamedKind) (levels : ℕ) (value : Data) (before : Texts) (typed : TypedExpr) (after : Texts) : Type 0 where
  pub written : IsExprWritten columns after typed.expr typed.kind value
  pub deep : depth typed.expr ≤ levels
  pub numbered : after ≡ texts_with before value

pub no-texts : (before : Texts) → before ≡ with_texts before []
unfolding with_texts
no-texts before = refl

one-text : (before : Texts) (text : List ℕ) → with_text before text ≡ with_texts before (text ∷ [])
unfolding with_texts
one-text before text = refl

pub both-same : {A : Type 0} (p : A × Texts) (a : A) (after : Texts) (r : Result (A × Texts) LoadFault) → r ≡ Ok p → r ≡ Ok (a, after) → (p.0 ≡ a) × (p.1 ≡ after)
both-same {A} p a after r e f = let same : p ≡ (a, after) = cc in (ap (λ (q : A × Texts). q.0) same, ap (λ (q : A × Texts). q.1) same)

of-same : (columns : List NamedKind) (levels : ℕ) (value : Data) (before : Texts) (own typed : TypedExpr) (so_far after : Texts) → (own ≡ typed) × (so_far ≡ after)
    → IsOfExpr columns levels value before own so_far → IsOfExpr columns levels value before typed after
of-same columns levels value before own typed so_far after same is = rw (← same.0, ← same.1) is

-- an operation takes whole numbers
combined-ints : (header : HeaderOf) (sign : Sign) (left right : TypedExpr) (own : ExprTree) → combined header sign left right ≡ Ok own
    → (left.kind ≡ Int) × (right.kind ≡ Int) × (operation sign left.expr right.expr ≡ own)
combined-ints header sign left right own = by left.kind right.kind refl refl
  where
    by : (k m : Kind) → left.kind ≡ k → right.kind ≡ m → (if is_int k && is_int m then Ok (operation sign left.expr right.expr) else Err (unfit header)) ≡ Ok own
        → (left.kind ≡ Int) × (right.kind ≡ Int) × (operation sign left.expr right.expr ≡ own)
    by Int Int l r e = (l, r, cc)
    by Int Text l r e = cc e
    by Text m l r e = cc e

operation-written : (columns : List NamedKind) (texts : Texts) (sign : Sign) (a b : ExprTree) (left right : Data) → IsExprWritten columns texts a Int left → IsExprWritten columns texts b Int right
    → IsExprWritten columns texts (operation sign a b) Int (under (sign_word sign) (left ∷ right ∷ []))
operation-written columns texts Plus a b left right l r = (left, right, refl, refl, l, r)
operation-written columns texts Minus a b left right l r = (left, right, refl, refl, l, r)
operation-written columns texts Times a b left right l r = (left, right, refl, refl, l, r)

operation-deep : (levels : ℕ) (sign : Sign) (a b : ExprTree) → depth a ≤ levels → depth b ≤ levels → depth (operation sign a b) ≤ suc levels
operation-deep levels Plus a b l r = omega arith
operation-deep levels Minus a b l r = omega arith
operation-deep levels Times a b l r = omega arith

-- both parts were written over the texts that there are in the end
operation-of : (header : HeaderOf) (levels : ℕ) (sign : Sign) (left right value : Data) (before middle after : Texts) (first second : TypedExpr) (own : ExprTree) → value ≡ under (sign_word sign) (left ∷ right ∷ [])
    → IsOfExpr header.columns levels left before first middle → IsOfExpr header.columns levels right middle second after → combined header sign first second ≡ Ok own
    → IsOfExpr header.columns (suc levels) value before (record { kind = Int; expr = own }) after
operation-of header levels sign left right value before middle after first second own form l r e =
    let ints = combined-ints header sign first second own e in
    let l-written : IsExprWritten header.columns middle first.expr Int left = rw ints.0 at l.written in
    let r-written : IsExprWritten header.columns after second.expr Int right = rw ints.1 at r.written in
    let begins : BeginsWith middle after = rw r.numbered (begins-texts middle (literals right)) in
    let l-none = int-literals header.columns middle first.expr left l-written in
    let r-none = int-literals header.columns after second.expr right r-written in
    let none : literals value ≡ [] = ap literals form ∙ no-text left right sign l-none r-none in
    let l-same : middle ≡ before = l.numbered ∙ ap (with_texts before) l-none ∙ sym (no-texts before) in
    let r-same : after ≡ middle = r.numbered ∙ ap (with_texts middle) r-none ∙ sym (no-texts middle) in
    let written = operation-written header.columns after sign first.expr second.expr left right (expr-kept header.columns middle after first.expr Int left begins l-written) r-written in
    record {
      written = rw (form, ← ints.2) written;
      deep = rw (← ints.2) (operation-deep levels sign first.expr second.expr l.deep r.deep);
      numbered = r-same ∙ l-same ∙ no-texts before ∙ ap (with_texts before) (sym none);
    }

column-of : (header : HeaderOf) (levels : ℕ) (text : List ℕ) (value : Data) (before : Texts) (typed : TypedExpr) (after : Texts) → value ≡ string text
    → keeping before (typed_column header text) ≡ Ok (typed, after) → IsOfExpr header.columns (suc levels) value before typed after
column-of header levels text value before typed after form = by (cell_of header.columns text) refl
  where
    by : (o : Option Cell) → cell_of header.columns text ≡ o → keeping before (ok_or o (unfit header) >>= (λ cell. Ok (record { kind = cell.kind; expr = Column cell.place }))) ≡ Ok (typed, after)
        → IsOfExpr header.columns (suc levels) value before typed after
    by None is e = cc e
    by (Some cell) is e =
        let same = both-same {A = TypedExpr} (record { kind = cell.kind; expr = Column cell.place }, before) typed after _ refl e in
        rw (← same.0, ← same.1) (record {
          written = (text, cell-stands header.columns text cell is, form);
          deep = omega arith;
          numbered = no-texts before ∙ ap (texts_with before) (sym form);
        })

-- an expression that is read is what the data write
pub expr-written : (header : HeaderOf) (levels : ℕ) (value : Data) (before : Texts) (typed : TypedExpr) (after : Texts) → typed_expr header levels value before ≡ Ok (typed, after)
    → IsOfExpr header.columns levels value before typed after
expr-written header zero value before typed after e = cc e
expr-written header (suc levels) value before typed after e = by (expr_form value) refl (expr-written header levels) e
  where
    by : (o : Option WrittenExpr) → expr_form value ≡ o
        → ((part : Data) (so_far : Texts) (own : TypedExpr) (later : Texts) → typed_expr header levels part so_far ≡ Ok (own, later) → IsOfExpr header.columns levels part so_far own later)
        → typed_form header (typed_expr header levels) o before ≡ Ok (typed, after) → IsOfExpr header.columns (suc levels) value before typed after
    by None is below e = cc e
    by (Some (level.Number n)) is below e =
        let form = expr-form value (level.Number n) is in
        let same = both-same {A = TypedExpr} (record { kind = Int; expr = Number n }, before) typed after _ refl e in
        rw (← same.0, ← same.1) (record { written = form; deep = omega arith; numbered = no-texts before ∙ ap (texts_with before) (sym form) })
    by (Some (level.Literal text)) is below e =
        let form = expr-form value (level.Literal text) is in
        let same = both-same {A = TypedExpr} (record { kind = Text; expr = Number (pos (number_of_text before text)) }, with_text before text) typed after _ refl e in
        rw (← same.0, ← same.1) (record { written = (text, text-numbered before text, form); deep = omega arith; numbered = one-text before text ∙ ap (texts_with before) (sym form) })
    by (Some (level.Reference text)) is below e = column-of header levels text value before typed after (expr-form value (level.Reference text) is) e
    by (Some (level.Operation sign left right)) is below e =
        let first = gone_on (typed_expr header levels left before) _ (typed, after) e in
        let second = gone_on (typed_expr header levels right first.0.1) _ (typed, after) first.2 in
        let own = gone_on (combined header sign first.0.0 second.0.0) _ (typed, after) second.2 in
        let same = both-same {A = TypedExpr} (record { kind = Int; expr = own.0 }, second.0.1) typed after _ refl own.2 in
        of-same header.columns (suc levels) value before (record { kind = Int; expr = own.0 }) typed second.0.1 after same
        (operation-of header levels sign left right value before first.0.1 second.0.1 first.0.0 second.0.0 own.0 (expr-form value (level.Operation sign left right) is)
        (below left before first.0.0 first.0.1 first.1) (below right first.0.1 second.0.0 second.0.1 second.1) own.1)

-- What is read has the form of an expression, and names columns alone.

pub expr-formed : (header : HeaderOf) (levels : ℕ) (value : Data) (before : Texts) (p : TypedExpr × Texts) → typed_expr header levels value before ≡ Ok p → is_expr levels value ≡ true
expr-formed header zero value before p e = cc e
expr-formed header (suc levels) value before p e = by (expr_form value) (expr-formed header levels) e
  where
    by : (o : Option WrittenExpr) → ((part : Data) (so_far : Texts) (q : TypedExpr × Texts) → typed_expr header levels part so_far ≡ Ok q → is_expr levels part ≡ true)
        → typed_form header (typed_expr header levels) o before ≡ Ok p → parts_pass (is_expr levels) o ≡ true
    by None below e = cc e
    by (Some (level.Number n)) below e = refl
    by (Some (level.Literal text)) below e = refl
    by (Some (level.Reference text)) below e = refl
    by (Some (level.Operation sign left right)) below e =
        let first = gone_on (typed_expr header levels left before) _ p e in
        let second = gone_on (typed_expr header levels right first.0.1) _ p first.2 in
        rw (below left before first.0 first.1, below right first.0.1 second.0 second.1) refl

pub expr-known : (header : HeaderOf) (levels : ℕ) (value : Data) (before : Texts) (p : TypedExpr × Texts) → typed_expr header levels value before ≡ Ok p
    → unknown_in_expr header.columns levels value ≡ None
expr-known header zero value before p e = refl
expr-known header (suc levels) value before p e = by (expr_form value) (expr-known header levels) e
  where
    column : (text : List ℕ) (o : Option Cell) → keeping before (ok_or o (unfit header) >>= (λ cell. Ok (record { kind = cell.kind; expr = Column cell.place }))) ≡ Ok p
        → (if is_some o then None else Some text) ≡ None
    column text None e = cc e
    column text (Some cell) e = refl

    by : (o : Option WrittenExpr) → ((part : Data) (so_far : Texts) (q : TypedExpr × Texts) → typed_expr header levels part so_far ≡ Ok q → unknown_in_expr header.columns levels part ≡ None)
        → typed_form header (typed_expr header levels) o before ≡ Ok p → unknown_in_form header.columns (unknown_in_expr header.columns levels) o ≡ None
    by None below e = refl
    by (Some (level.Number n)) below e = refl
    by (Some (level.Literal text)) below e = refl
    by (Some (level.Reference text)) below e = column text (cell_of header.columns text) e
    by (Some (level.Operation sign left right)) below e =
        let first = gone_on (typed_expr header levels left before) _ p e in
        let second = gone_on (typed_expr header levels right first.0.1) _ p first.2 in
        rw (below left before first.0 first.1, below right first.0.1 second.0 second.1) refl

-- The laws.

-- a whole expression that was written, where all texts begin with those that it numbers
pub whole-read : (header : HeaderOf) (all : Texts) (own : ExprTree) (kind : Kind) (value : Data) (before : Texts) → AreReferences header.columns → IsDistinct bytes_eq all
    → depth own ≤ 64 → IsExprWritten header.columns all own kind value → BeginsWith (texts_with before value) all → IsExprRead header value before own kind (texts_with before value)
unfolding is_whole_expr unknown_column whole_expr
whole-read header all own kind value before are distinct deep w begins =
    let read = expr-read header 64 all own kind value before are distinct deep w begins in
    record {
      form = expr-formed header 64 value before (record { kind = kind; expr = own }, texts_with before value) read;
      columns = expr-known header 64 value before (record { kind = kind; expr = own }, texts_with before value) read;
      kinds = read;
    }

pub exprs-read-back : ExprsReadBack
exprs-read-back header value texts own kind after are distinct is =
    let begins : BeginsWith (texts_with texts value) after = rw (← is.numbered) (begins-same after) in
    let read = whole-read header after own kind value texts are distinct is.levels is.written begins in
    record { form = read.form; columns = read.columns; kinds = read.kinds ∙ ap (λ t. Ok (record { kind = kind; expr = own }, t)) (sym is.numbered) }

pub read-exprs-are-written : ReadExprsAreWritten
unfolding whole_expr
read-exprs-are-written header value texts own kind after read =
    let is = expr-written header 64 value texts (record { kind = kind; expr = own }) after read.kinds in
    record { written = is.written; levels = is.deep; numbered = is.numbered }
