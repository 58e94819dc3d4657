-- A test's tree as a list of items, by which proofs tell two trees apart.
use Rattle.std.specs.Prelude.{◌≡◌, ℕ, zero, suc, List, [], ◌∷◌, ◌++◌, pos, refl}
use Rattle.std.proofs.Common.{ap, ◌∙◌}
use Rattle.std.specs.Coded.{Coded, code_by, coded_list, coded×, coded_ℕ}
use Rattle.wh_formula.specs.declared.comparison.Comparison.{Comparison}
use Rattle.wh_formula.specs.declared.comparison.Comparison.TheVariants.{Equal, NotEqual, Less, LessOrEqual, Greater, GreaterOrEqual}
use Rattle.wh_formula.specs.Expr.{ExprTree, Number}
use Rattle.wh_formula.specs.Inner.ExprCode.{expr_code}
use Rattle.wh_formula.specs.Pred.{PredTree, PredTrees, True, Cmp, AllOf, AnyOf, Not, no_more, one_more}

-- an item: which form, and of a comparison which one and its two sides
abbrev Item : Type 0
Item = ℕ × (ℕ × (ExprTree × ExprTree))

-- what was read: tests, and parts
abbrev Read : Type 0
Read = List PredTree × List PredTrees

-- the comparison's number
abbrev number_of : Comparison → ℕ
number_of Equal = 0
number_of NotEqual = 1
number_of Less = 2
number_of LessOrEqual = 3
number_of Greater = 4
number_of GreaterOrEqual = 5

-- the comparison of a number
abbrev comparison_of : ℕ → Comparison
comparison_of zero = Equal
comparison_of (suc zero) = NotEqual
comparison_of (suc (suc zero)) = Less
comparison_of (suc (suc (suc zero))) = LessOrEqual
comparison_of (suc (suc (suc (suc zero)))) = Greater
comparison_of (suc (suc (suc (suc (suc k))))) = GreaterOrEqual

comparison_of-number_of : (op : Comparison) → comparison_of (number_of op) ≡ op
comparison_of-number_of Equal = refl
comparison_of-number_of NotEqual = refl
comparison_of-number_of Less = refl
comparison_of-number_of LessOrEqual = refl
comparison_of-number_of Greater = refl
comparison_of-number_of GreaterOrEqual = refl

-- an item that is no comparison
abbrev plain : ℕ → Item
plain form = (form, (0, (Number (pos 0), Number (pos 0))))

abbrev mutual
  -- the parts first, then what joins them
  pub written : PredTree → List Item
  written True = plain 0 ∷ []
  written (Cmp op a b) = (1, (number_of op, (a, b))) ∷ []
  written (Not p) = written p ++ plain 2 ∷ []
  written (AllOf ps) = written_parts ps ++ plain 5 ∷ []
  written (AnyOf ps) = written_parts ps ++ plain 6 ∷ []

  -- the first part, then the others, then what joins them
  pub written_parts : PredTrees → List Item
  written_parts no_more = plain 3 ∷ []
  written_parts (one_more p ps) = written p ++ (written_parts ps ++ plain 4 ∷ [])

-- puts a function of the last test in its place
abbrev on_test : (PredTree → PredTree) → List PredTree → List PredTree
on_test f [] = []
on_test f (p ∷ ps) = f p ∷ ps

-- takes the last parts for a test
abbrev from_parts : (PredTrees → PredTree) → List PredTree → List PredTrees → Read
from_parts f tests [] = (tests, [])
from_parts f tests (ps ∷ parts) = (f ps ∷ tests, parts)

-- puts the last test before the last parts
abbrev one_part : List PredTree → List PredTrees → Read
one_part [] parts = ([], parts)
one_part (p ∷ tests) [] = (p ∷ tests, [])
one_part (p ∷ tests) (ps ∷ parts) = (tests, one_more p ps ∷ parts)

-- reads one item
abbrev pub read_one : ℕ → ℕ → ExprTree → ExprTree → Read → Read
read_one zero op a b read = (True ∷ read.0, read.1)
read_one (suc zero) op a b read = (Cmp (comparison_of op) a b ∷ read.0, read.1)
read_one (suc (suc zero)) op a b read = (on_test Not read.0, read.1)
read_one (suc (suc (suc zero))) op a b read = (read.0, no_more ∷ read.1)
read_one (suc (suc (suc (suc zero)))) op a b read = one_part read.0 read.1
read_one (suc (suc (suc (suc (suc zero))))) op a b read = from_parts AllOf read.0 read.1
read_one (suc (suc (suc (suc (suc (suc k)))))) op a b read = from_parts AnyOf read.0 read.1

-- reads all items
abbrev pub read_all : List Item → Read → Read
read_all [] read = read
read_all (t ∷ ts) read = read_all ts (read_one t.0 t.1.0 t.1.1.0 t.1.1.1 read)

-- the test that was read last
abbrev pub last_read : List PredTree → PredTree
last_read [] = True
last_read (p ∷ tests) = p

-- a list is read part by part
pub read_all-append : (xs ys : List Item) (read : Read) → read_all (xs ++ ys) read ≡ read_all ys (read_all xs read)
read_all-append [] ys read = refl
read_all-append (x ∷ xs) ys read = read_all-append xs ys (read_one x.0 x.1.0 x.1.1.0 x.1.1.1 read)

mutual
  -- what is written of a tree is read as the tree, and of parts as the parts
  pub read_all-written : (p : PredTree) (read : Read) → read_all (written p) read ≡ (p ∷ read.0, read.1)
  read_all-written True read = refl
  read_all-written (Cmp op a b) read = ap (λ o. (Cmp o a b ∷ read.0, read.1)) (comparison_of-number_of op)
  read_all-written (Not p) read =
      read_all-append (written p) (plain 2 ∷ []) read ∙ ap (read_all (plain 2 ∷ [])) (read_all-written p read)
  read_all-written (AllOf ps) read =
      read_all-append (written_parts ps) (plain 5 ∷ []) read ∙ ap (read_all (plain 5 ∷ [])) (read_all-written_parts ps read)
  read_all-written (AnyOf ps) read =
      read_all-append (written_parts ps) (plain 6 ∷ []) read ∙ ap (read_all (plain 6 ∷ [])) (read_all-written_parts ps read)

  pub read_all-written_parts : (ps : PredTrees) (read : Read) → read_all (written_parts ps) read ≡ (read.0, ps ∷ read.1)
  read_all-written_parts no_more read = refl
  read_all-written_parts (one_more p ps) read =
      read_all-append (written p) (written_parts ps ++ plain 4 ∷ []) read
      ∙ ap (read_all (written_parts ps ++ plain 4 ∷ [])) (read_all-written p read)
      ∙ read_all-append (written_parts ps) (plain 4 ∷ []) (p ∷ read.0, read.1)
      ∙ ap (read_all (plain 4 ∷ [])) (read_all-written_parts ps (p ∷ read.0, read.1))

-- the tree of which this is written
abbrev pub code : List Item → PredTree
code ts = last_read (read_all ts ([], [])).0

pub code-written : (p : PredTree) → code (written p) ≡ p
code-written p = ap (λ (read : Read). last_read read.0) (read_all-written p ([], []))

-- a tree is stored as what is written of it
abbrev pub pred_code : Coded PredTree
pred_code = code_by (List Item) (coded_list (coded× coded_ℕ (coded× coded_ℕ (coded× expr_code expr_code)))) written code code-written
