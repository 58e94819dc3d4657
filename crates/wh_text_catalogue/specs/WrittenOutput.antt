-- How a catalogue writes the columns of a derived view: from its columns and what they are made of to the keys `keep`, or
-- `group`, `count` and `sum`.
use Rattle.std.specs.Prelude.{◌≡◌, ◌≤◌, ℕ, List, [], ◌∷◌, ◌++◌, All, length, map, codes, Option, Some, None, Ok}
use Rattle.std.specs.List.{IsDistinct}
use Rattle.std.specs.Str.{bytes_eq}
use Rattle.toml.specs.View.{items_of}
use Rattle.toml.specs.Data.{Data, string, array, get}
use Rattle.wh_dag.specs.Catalog.{OutputOf, Keep, Sums}
use Rattle.wh_formula.specs.Expr.{ExprTree, Column}
use Rattle.wh_formula.specs.Expr as expr
use Rattle.wh_text.specs.Columns.{AreNamed, NamedKind}
use Rattle.wh_text.specs.Dict.{with_texts}
use Rattle.wh_text.specs.declared.columns.Kind.TheVariants.{Int}
use Rattle.wh_text_catalogue.specs.FormulaKinds.{Texts}
use Rattle.wh_text_catalogue.specs.Header.{HeaderOf}
use Rattle.wh_text_catalogue.specs.Output.{ColumnsOf, output_of}
use Rattle.wh_text_catalogue.specs.WrittenFormula.{IsExprWritten, literals}
use Rattle.wh_text_catalogue.specs.WrittenLaws.{AreReferences}

-- Pairs of a name and a formula.

-- an array of a name and what stands beside it
abbrev pub named_value : List ℕ → Data → Data
named_value name value = array (items_of (string name ∷ value ∷ []))

-- the value is a pair of the column's name and this expression, which is of the column's kind
abbrev pub IsPairWritten : List NamedKind → Texts → NamedKind → ExprTree → Data → Type 0
IsPairWritten row texts column own value = (part : Data) × (value ≡ named_value column.name part) × IsExprWritten row texts own column.kind part

-- the values are pairs of a column's name and its expression, one for each column in their order
abbrev pub ArePairsWritten : List NamedKind → Texts → List NamedKind → List ExprTree → List Data → Type 0
ArePairsWritten row texts [] [] [] = Unit {0}
ArePairsWritten row texts (column ∷ columns) (own ∷ exprs) (value ∷ values) =
    IsPairWritten row texts column own value × ArePairsWritten row texts columns exprs values
ArePairsWritten row texts _ _ _ = ⊥

-- what stands at the key is an array of pairs of these columns and expressions
abbrev pub IsListWritten : List NamedKind → Texts → List NamedKind → List ExprTree → Option Data → Type 0
IsListWritten row texts columns exprs None = ⊥
IsListWritten row texts columns exprs (Some value) = (values : List Data) × (value ≡ array (items_of values)) × ArePairsWritten row texts columns exprs values

-- what stands at the key is an array of pairs of these columns and expressions, or nothing where there are none
abbrev pub IsListWrittenIfAny : List NamedKind → Texts → List NamedKind → List ExprTree → Option Data → Type 0
IsListWrittenIfAny row texts columns exprs None = (columns ≡ []) × (exprs ≡ [])
IsListWrittenIfAny row texts columns exprs (Some value) = IsListWritten row texts columns exprs (Some value)

-- Outputs.

-- a column of whole numbers
abbrev pub number_column : List ℕ → NamedKind
number_column name = record { name = name; kind = Int }

-- The columns of a summary are its groups, its count and its sums. `group` writes each group as a pair of its name and the reference of the
-- cell, `count` is a name, and `sum` writes each sum, where there are any
pub record IsSummaryWritten (row : List NamedKind) (texts : Texts) (columns : List NamedKind) (places : List ℕ) (sums : List ExprTree) (entry : Data) : Type 0 where
  pub groups : List NamedKind
  pub count : List ℕ
  pub sum_names : List (List ℕ)
  pub columns_are : columns ≡ groups ++ number_column count ∷ map number_column sum_names
  pub group : IsListWritten row texts groups (map Column places) (get (codes "group") entry)
  pub counted : get (codes "count") entry ≡ Some (string count)
  pub sum : IsListWrittenIfAny row texts (map number_column sum_names) sums (get (codes "sum") entry)

-- the entry writes these columns and their output: a joined view has `keep`, a summary has `group`, and neither has both
abbrev pub IsOutputWritten : List NamedKind → Texts → List NamedKind → OutputOf → Data → Type 0
IsOutputWritten row texts columns (Keep kept) entry =
    (get (codes "group") entry ≡ None) × IsListWritten row texts columns kept (get (codes "keep") entry)
IsOutputWritten row texts columns (Sums places sums) entry =
    (get (codes "keep") entry ≡ None) × IsSummaryWritten row texts columns places sums entry

-- the expressions of an output, whose depth is limited
abbrev pub exprs_of : OutputOf → List ExprTree
exprs_of (Keep kept) = kept
exprs_of (Sums places sums) = sums

-- the texts of the literals of what stands at a key, none where it is missing
abbrev pub literals_at : Option Data → List (List ℕ)
literals_at None = []
literals_at (Some value) = literals value

-- The entry writes these 1 to 64 named columns and their output, of expressions of at most 64 levels. The texts are those that the literals
-- of `keep` have numbered in order
pub record IsWholeOutput (header : HeaderOf) (entry : Data) (texts : Texts) (own : ColumnsOf) (after : Texts) : Type 0 where
  pub written : IsOutputWritten header.columns after own.columns own.output entry
  pub levels : All (λ e. expr.depth e ≤ 64) (exprs_of own.output)
  pub some : 1 ≤ length own.columns
  pub few : length own.columns ≤ 64
  pub named : AreNamed own.columns
  pub numbered : after ≡ with_texts texts (literals_at (get (codes "keep") entry))

-- an output that was written is read as it was
abbrev pub OutputsReadBack : Type 0
OutputsReadBack =
    (header : HeaderOf) (entry : Data) (texts : Texts) (own : ColumnsOf) (after : Texts) → AreReferences header.columns → IsDistinct bytes_eq after →
    IsWholeOutput header entry texts own after → output_of header entry texts ≡ Ok (own, after)

-- an output that is read is what the data write
abbrev pub ReadOutputsAreWritten : Type 0
ReadOutputsAreWritten =
    (header : HeaderOf) (entry : Data) (texts : Texts) (own : ColumnsOf) (after : Texts) →
    output_of header entry texts ≡ Ok (own, after) → IsWholeOutput header entry texts own after
