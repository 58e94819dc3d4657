-- How a catalogue writes a formula: from the formula to the data that say it. The left side stands before the right one; a
-- column is written as its reference, and the number of a text as the text.
use Rattle.std.specs.Prelude.{◌≡◌, ℕ, ℤ, List, [], ◌∷◌, ◌++◌, codes, slice_get, true, Some}
use Rattle.toml.specs.View.{items_of}
use Rattle.toml.specs.Data.{Data, string, integer, boolean, array, table, Items, no_items, item, Members, member, no_members}
use Rattle.wh_formula.specs.declared.comparison.Comparison.{Comparison}
use Rattle.wh_formula.specs.declared.comparison.Comparison.TheVariants.{Equal, NotEqual, Less, LessOrEqual, Greater, GreaterOrEqual}
use Rattle.wh_formula.specs.Expr.{ExprTree, Column, Number, Add, Sub, Mul}
use Rattle.wh_formula.specs.Pred.{PredTree, PredTrees, True, Cmp, AllOf, AnyOf, Not, no_more, one_more}
use Rattle.wh_text.specs.Columns.{NamedKind}
use Rattle.wh_text.specs.Dict.{text_of_cell}
use Rattle.wh_text.specs.declared.columns.Kind.{Kind}
use Rattle.wh_text.specs.declared.columns.Kind.TheVariants.{Int, Text}

-- Words and texts.

-- an array of a word and what stands under it
abbrev pub under : List ℕ → List Data → Data
under word parts = array (items_of (string word ∷ parts))

-- a text literal: a table of the key `text` alone
abbrev pub literal : List ℕ → Data
literal text = table (member (codes "text") (string text) no_members)

-- the word of a comparison
abbrev pub word_of : Comparison → List ℕ
word_of Equal = codes "="
word_of NotEqual = codes "<>"
word_of Less = codes "<"
word_of LessOrEqual = codes "<="
word_of Greater = codes ">"
word_of GreaterOrEqual = codes ">="

-- the literal that a table is
abbrev pub literal_in : Members → List (List ℕ)
literal_in (member key (string text) no_members) = text ∷ []
literal_in _ = []

abbrev mutual
  -- the texts of a formula's literals, from left to right
  pub literals : Data → List (List ℕ)
  literals (table members) = literal_in members
  literals (array items) = literals_of items
  literals _ = []

  -- the texts of the literals of some formulas, from left to right
  pub literals_of : Items → List (List ℕ)
  literals_of no_items = []
  literals_of (item value rest) = literals value ++ literals_of rest

-- Expressions.

-- the value writes a constant: a number as it is, and the number of a text as that text
abbrev pub IsConstantWritten : List (List ℕ) → Kind → ℤ → Data → Type 0
IsConstantWritten texts Int number value = value ≡ integer number
IsConstantWritten texts Text number value = (text : List ℕ) × (text_of_cell texts number ≡ Some text) × (value ≡ literal text)

-- the data write this expression of this kind, over these columns and texts
abbrev pub IsExprWritten : List NamedKind → List (List ℕ) → ExprTree → Kind → Data → Type 0
IsExprWritten columns texts (Column place) kind value =
    (name : List ℕ) × (slice_get columns place ≡ Some (record { name = name; kind = kind })) × (value ≡ string name)
IsExprWritten columns texts (Number number) kind value = IsConstantWritten texts kind number value
IsExprWritten columns texts (Add a b) kind value =
    (left : Data) × (right : Data) × (kind ≡ Int) × (value ≡ under (codes "+") (left ∷ right ∷ []))
    × IsExprWritten columns texts a Int left × IsExprWritten columns texts b Int right
IsExprWritten columns texts (Sub a b) kind value =
    (left : Data) × (right : Data) × (kind ≡ Int) × (value ≡ under (codes "-") (left ∷ right ∷ []))
    × IsExprWritten columns texts a Int left × IsExprWritten columns texts b Int right
IsExprWritten columns texts (Mul a b) kind value =
    (left : Data) × (right : Data) × (kind ≡ Int) × (value ≡ under (codes "*") (left ∷ right ∷ []))
    × IsExprWritten columns texts a Int left × IsExprWritten columns texts b Int right

-- Predicates.

-- a kind may be compared so: whole numbers by any comparison, texts by = and <> alone
abbrev pub IsComparable : Kind → Comparison → Type 0
IsComparable Int comparison = Unit {0}
IsComparable Text Equal = Unit {0}
IsComparable Text NotEqual = Unit {0}
IsComparable Text _ = ⊥

abbrev mutual
  -- the data write this predicate, over these columns and texts
  pub IsPredWritten : List NamedKind → List (List ℕ) → PredTree → Data → Type 0
  IsPredWritten columns texts True value = value ≡ boolean true
  IsPredWritten columns texts (Cmp comparison a b) value =
      (kind : Kind) × (left : Data) × (right : Data) × IsComparable kind comparison × (value ≡ under (word_of comparison) (left ∷ right ∷ []))
      × IsExprWritten columns texts a kind left × IsExprWritten columns texts b kind right
  IsPredWritten columns texts (AllOf tests) value =
      (parts : List Data) × (value ≡ under (codes "all") parts) × ArePredsWritten columns texts tests parts
  IsPredWritten columns texts (AnyOf tests) value =
      (parts : List Data) × (value ≡ under (codes "any") parts) × ArePredsWritten columns texts tests parts
  IsPredWritten columns texts (Not test) value =
      (part : Data) × (value ≡ under (codes "not") (part ∷ [])) × IsPredWritten columns texts test part

  -- the data write these predicates, one each
  pub ArePredsWritten : List NamedKind → List (List ℕ) → PredTrees → List Data → Type 0
  ArePredsWritten columns texts no_more [] = Unit {0}
  ArePredsWritten columns texts no_more (part ∷ parts) = ⊥
  ArePredsWritten columns texts (one_more test tests) [] = ⊥
  ArePredsWritten columns texts (one_more test tests) (part ∷ parts) = IsPredWritten columns texts test part × ArePredsWritten columns texts tests parts
