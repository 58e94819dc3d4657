-- The kinds of a formula, and what it is made of: the third look at it, after its form and its columns.
use Rattle.std.specs.Prelude.{ℕ, zero, suc, pos, List, [], ◌∷◌, ◌++◌, Bool, true, false, ◌&&◌, if◌then◌else◌, Option, Some, None, ok_or, Result, Ok, Err}
use Rattle.toml.specs.Data.{Data}
use Rattle.wh_formula.specs.declared.comparison.Comparison.{Comparison}
use Rattle.wh_formula.specs.declared.comparison.Comparison.TheVariants.{Equal, NotEqual}
use Rattle.wh_formula.specs.Expr.{ExprTree}
use Rattle.wh_formula.specs.Expr as tree
use Rattle.wh_formula.specs.Pred.{PredTree, parts_of}
use Rattle.wh_formula.specs.Pred as test
use Rattle.wh_text.specs.Dict.{number_of_text, with_text}
use Rattle.wh_text.specs.declared.columns.Kind.{Kind}
use Rattle.wh_text.specs.declared.columns.Kind.TheVariants.{Int, Text}
use Rattle.wh_text.specs.declared.fault.LoadFault.{LoadFault}
use Rattle.wh_text.specs.declared.fault.LoadFault.TheVariants as fault
use Rattle.wh_text.specs.ValueOrFault.{◌>>=◌}
use Rattle.wh_text_catalogue.specs.ExprForm.{WrittenExpr, expr_form}
use Rattle.wh_text_catalogue.specs.ExprForm as form
use Rattle.wh_text_catalogue.specs.Header.{HeaderOf, cell_of}
use Rattle.wh_text_catalogue.specs.PredForm.{WrittenPred, pred_form}
use Rattle.wh_text_catalogue.specs.PredForm as pred
use Rattle.wh_text_catalogue.specs.declared.definitions.expr_form.Sign.{Sign}
use Rattle.wh_text_catalogue.specs.declared.definitions.expr_form.Sign.TheVariants.{Plus, Minus, Times}
use Rattle.wh_text_catalogue.specs.declared.definitions.formula_kinds.TypedExpr.{TypedExpr}

-- the texts that have numbers
abbrev pub Texts : Type 0
Texts = List (List ℕ)

-- an expression with its kind, and the texts once its literals have numbers; or the fault of its kinds
abbrev pub ExprOutcome : Type 0
ExprOutcome = Result (TypedExpr × Texts) LoadFault

-- a predicate, and the texts once its literals have numbers; or the fault of its kinds
abbrev pub PredOutcome : Type 0
PredOutcome = Result (PredTree × Texts) LoadFault

-- the fault that the kinds do not fit
abbrev pub unfit : HeaderOf → LoadFault
unfit header = fault.Kind header.view

-- the kind is that of whole numbers
abbrev pub is_int : Kind → Bool
is_int Int = true
is_int Text = false

-- an operation on two expressions
abbrev pub operation : Sign → ExprTree → ExprTree → ExprTree
operation Plus left right = tree.Add left right
operation Minus left right = tree.Sub left right
operation Times left right = tree.Mul left right

-- an operation, which takes whole numbers
abbrev pub combined : HeaderOf → Sign → TypedExpr → TypedExpr → Result ExprTree LoadFault
combined header sign left right =
    if is_int left.kind && is_int right.kind then Ok (operation sign left.expr right.expr) else Err (unfit header)

-- the column that a reference names
abbrev pub typed_column : HeaderOf → List ℕ → Result TypedExpr LoadFault
typed_column header reference = do
  cell ← ok_or (cell_of header.columns reference) (unfit header)
  Ok (record { kind = cell.kind; expr = tree.Column cell.place })

-- a text as its number, which it has from here on
abbrev pub typed_literal : Texts → List ℕ → ExprOutcome
typed_literal texts text = Ok (record { kind = Text; expr = tree.Number (pos (number_of_text texts text)) }, with_text texts text)

-- an operation: its left part, then its right part, then both
abbrev pub typed_operation : HeaderOf → (Data → Texts → ExprOutcome) → Sign → Data → Data → Texts → ExprOutcome
typed_operation header typed sign left right texts = do
  first ← typed left texts
  second ← typed right first.1
  expr ← combined header sign first.0 second.0
  Ok (record { kind = Int; expr = expr }, second.1)

-- the expression, with the texts as they are
abbrev pub keeping : Texts → Result TypedExpr LoadFault → ExprOutcome
keeping texts (Ok typed) = Ok (typed, texts)
keeping texts (Err first) = Err first

-- this level of an expression: a column has its own kind, a number is a number, a literal a text
abbrev pub typed_form : HeaderOf → (Data → Texts → ExprOutcome) → Option WrittenExpr → Texts → ExprOutcome
typed_form header typed None texts = Err (unfit header)
typed_form header typed (Some (form.Number n)) texts = Ok (record { kind = Int; expr = tree.Number n }, texts)
typed_form header typed (Some (form.Literal text)) texts = typed_literal texts text
typed_form header typed (Some (form.Reference text)) texts = keeping texts (typed_column header text)
typed_form header typed (Some (form.Operation sign left right)) texts = typed_operation header typed sign left right texts

-- an expression of at most so many levels
abbrev pub typed_expr : HeaderOf → ℕ → Data → Texts → ExprOutcome
typed_expr header zero value texts = Err (unfit header)
typed_expr header (suc levels) value texts = typed_form header (typed_expr header levels) (expr_form value) texts

-- texts are compared by = and <> alone
abbrev pub compares_texts : Comparison → Bool
compares_texts Equal = true
compares_texts NotEqual = true
compares_texts _ = false

-- a comparison fits the kinds: two numbers by any comparison, two texts by = and <> alone, and never a text with a number
abbrev pub fits_kinds : Comparison → Kind → Kind → Bool
fits_kinds comparison Int Int = true
fits_kinds comparison Text Text = compares_texts comparison
fits_kinds comparison _ _ = false

-- a comparison of two expressions whose kinds fit it
abbrev pub compared : HeaderOf → Comparison → TypedExpr → TypedExpr → Result PredTree LoadFault
compared header comparison left right =
    if fits_kinds comparison left.kind right.kind then Ok (test.Cmp comparison left.expr right.expr) else Err (unfit header)

-- some predicates from left to right, after those found
abbrev pub typed_parts : (Data → Texts → PredOutcome) → List PredTree → List Data → Texts → Result (List PredTree × Texts) LoadFault
typed_parts typed found [] texts = Ok (found, texts)
typed_parts typed found (value ∷ rest) texts = do
  part ← typed value texts
  typed_parts typed (found ++ part.0 ∷ []) rest part.1

-- a comparison: its left side, then its right side, then both
abbrev pub typed_comparison : HeaderOf → (Data → Texts → ExprOutcome) → Comparison → Data → Data → Texts → PredOutcome
typed_comparison header typed comparison left right texts = do
  first ← typed left texts
  second ← typed right first.1
  pred ← compared header comparison first.0 second.0
  Ok (pred, second.1)

-- all of some predicates
abbrev pub typed_all : (Data → Texts → PredOutcome) → List Data → Texts → PredOutcome
typed_all typed values texts = do
  parts ← typed_parts typed [] values texts
  Ok (test.AllOf (parts_of parts.0), parts.1)

-- any of some predicates
abbrev pub typed_any : (Data → Texts → PredOutcome) → List Data → Texts → PredOutcome
typed_any typed values texts = do
  parts ← typed_parts typed [] values texts
  Ok (test.AnyOf (parts_of parts.0), parts.1)

-- the contrary of a predicate
abbrev pub typed_not : (Data → Texts → PredOutcome) → Data → Texts → PredOutcome
typed_not typed value texts = do
  part ← typed value texts
  Ok (test.Not part.0, part.1)

-- this level of a predicate, its parts from left to right
abbrev pub typed_test : HeaderOf → (Data → Texts → ExprOutcome) → (Data → Texts → PredOutcome) → Option WrittenPred → Texts → PredOutcome
typed_test header expr typed None texts = Err (unfit header)
typed_test header expr typed (Some pred.Always) texts = Ok (test.True, texts)
typed_test header expr typed (Some (pred.Compare comparison left right)) texts = typed_comparison header expr comparison left right texts
typed_test header expr typed (Some (pred.All parts)) texts = typed_all typed parts texts
typed_test header expr typed (Some (pred.Any parts)) texts = typed_any typed parts texts
typed_test header expr typed (Some (pred.Not part)) texts = typed_not typed part texts

-- a predicate of at most so many levels
abbrev pub typed_pred : HeaderOf → ℕ → Data → Texts → PredOutcome
typed_pred header zero value texts = Err (unfit header)
typed_pred header (suc levels) value texts =
    typed_test header (typed_expr header levels) (typed_pred header levels) (pred_form value) texts
