-- Whole formulas, of at most 64 levels: their form, then their columns, then their kinds.
use Rattle.std.specs.Prelude.{ℕ, List, Bool, Option}
use Rattle.toml.specs.Data.{Data}
use Rattle.wh_text.specs.Columns.{NamedKind}
use Rattle.wh_text_catalogue.specs.ExprForm.{is_expr}
use Rattle.wh_text_catalogue.specs.FormulaColumns.{unknown_in_expr, unknown_in_pred}
use Rattle.wh_text_catalogue.specs.FormulaKinds.{ExprOutcome, PredOutcome, Texts, typed_expr, typed_pred}
use Rattle.wh_text_catalogue.specs.Header.{HeaderOf}
use Rattle.wh_text_catalogue.specs.PredForm.{is_pred}

-- the value has the form of an expression
unfoldable pub is_whole_expr : Data → Bool
is_whole_expr value = is_expr 64 value

-- the first reference of an expression that names no column
unfoldable pub unknown_column : List NamedKind → Data → Option (List ℕ)
unknown_column columns value = unknown_in_expr columns 64 value

-- an expression and its kind, and the texts once its literals have numbers
unfoldable pub whole_expr : HeaderOf → Data → Texts → ExprOutcome
whole_expr header value texts = typed_expr header 64 value texts

-- the value has the form of a predicate
unfoldable pub is_whole_pred : Data → Bool
is_whole_pred value = is_pred 64 value

-- the first reference of a predicate that names no column
unfoldable pub unknown_in_test : List NamedKind → Data → Option (List ℕ)
unknown_in_test columns value = unknown_in_pred columns 64 value

-- a predicate, and the texts once its literals have numbers
unfoldable pub whole_pred : HeaderOf → Data → Texts → PredOutcome
whole_pred header value texts = typed_pred header 64 value texts
