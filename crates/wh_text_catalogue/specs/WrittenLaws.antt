-- Laws of what a catalogue's formulas mean: what is written is read as what it writes, and what is read is what was written.
use Rattle.std.specs.Prelude.{◌≡◌, ◌≢◌, ◌≤◌, ℕ, List, ◌∷◌, ◌++◌, true, None, Ok}
use Rattle.std.specs.List.{All, AllPairs, IsDistinct}
use Rattle.std.specs.Str.{bytes_eq}
use Rattle.toml.specs.Data.{Data}
use Rattle.wh_formula.specs.Expr.{ExprTree}
use Rattle.wh_formula.specs.Expr as expr
use Rattle.wh_formula.specs.Pred.{PredTree}
use Rattle.wh_formula.specs.Pred as pred
use Rattle.wh_text.specs.Columns.{NamedKind, names_of}
use Rattle.wh_text.specs.Dict.{with_texts}
use Rattle.wh_text.specs.NameForm.{is_name}
use Rattle.wh_text.specs.declared.columns.Kind.{Kind}
use Rattle.wh_text_catalogue.specs.Filter.{filter_written}
use Rattle.wh_text_catalogue.specs.Formula.{is_whole_expr, unknown_column, whole_expr}
use Rattle.wh_text_catalogue.specs.FormulaKinds.{Texts}
use Rattle.wh_text_catalogue.specs.Header.{HeaderOf}
use Rattle.wh_text_catalogue.specs.Reference.{dot}
use Rattle.wh_text_catalogue.specs.WrittenFormula.{IsExprWritten, IsPredWritten, literals}

-- the text is a child's name, a dot, and a column's name
pub record IsReference (text : List ℕ) : Type 0 where
  pub child : List ℕ
  pub column : List ℕ
  pub child_formed : is_name child ≡ true
  pub column_formed : is_name column ≡ true
  pub parts : text ≡ child ++ dot ∷ column

-- the columns of a combined row: each stands under a reference, and no reference stands twice
pub record AreReferences (columns : List NamedKind) : Type 0 where
  pub formed : All IsReference (names_of columns)
  pub distinct : AllPairs (λ first second. first ≢ second) (names_of columns)

-- the texts once the literals of these data have numbers
abbrev pub texts_with : List (List ℕ) → Data → List (List ℕ)
texts_with texts value = with_texts texts (literals value)

-- the reader takes the data as this expression of this kind: they have the form of an expression, name columns alone, and their kinds fit
pub record IsExprRead (header : HeaderOf) (value : Data) (texts : Texts) (own : ExprTree) (kind : Kind) (after : Texts) : Type 0 where
  pub form : is_whole_expr value ≡ true
  pub columns : unknown_column header.columns value ≡ None
  pub kinds : whole_expr header value texts ≡ Ok (record { kind = kind; expr = own }, after)

-- the data write this expression of at most 64 levels, with the texts that its literals have numbered in order
pub record IsWholeExpr (header : HeaderOf) (value : Data) (texts : Texts) (own : ExprTree) (kind : Kind) (after : Texts) : Type 0 where
  pub written : IsExprWritten header.columns after own kind value
  pub levels : expr.depth own ≤ 64
  pub numbered : after ≡ texts_with texts value

-- an expression that was written is read as it was
abbrev pub ExprsReadBack : Type 0
ExprsReadBack =
    (header : HeaderOf) (value : Data) (texts : Texts) (own : ExprTree) (kind : Kind) (after : Texts) → AreReferences header.columns → IsDistinct bytes_eq after →
    IsWholeExpr header value texts own kind after → IsExprRead header value texts own kind after

-- an expression that is read is what the data write
abbrev pub ReadExprsAreWritten : Type 0
ReadExprsAreWritten =
    (header : HeaderOf) (value : Data) (texts : Texts) (own : ExprTree) (kind : Kind) (after : Texts) →
    IsExprRead header value texts own kind after → IsWholeExpr header value texts own kind after

-- the data write this predicate of at most 64 levels, with the texts that its literals have numbered in order
pub record IsWholePred (header : HeaderOf) (value : Data) (texts : Texts) (own : PredTree) (after : Texts) : Type 0 where
  pub written : IsPredWritten header.columns after own value
  pub levels : pred.depth own ≤ 64
  pub numbered : after ≡ texts_with texts value

-- a predicate that was written is read as it was
abbrev pub PredsReadBack : Type 0
PredsReadBack =
    (header : HeaderOf) (value : Data) (texts : Texts) (own : PredTree) (after : Texts) → AreReferences header.columns → IsDistinct bytes_eq after →
    IsWholePred header value texts own after → filter_written header value texts ≡ Ok (own, after)

-- a predicate that is read is what the data write
abbrev pub ReadPredsAreWritten : Type 0
ReadPredsAreWritten =
    (header : HeaderOf) (value : Data) (texts : Texts) (own : PredTree) (after : Texts) →
    filter_written header value texts ≡ Ok (own, after) → IsWholePred header value texts own after
