-- What is made of a formula, to be stored with it. No clause that is seen from outside speaks of it: these are the words of the
-- calls inside `night` that are handed the makers of closures.
use Rattle.std.specs.Prelude.{ℕ, ℤ, List, [], ◌∷◌, Bool, Option, Some, None, IsTrue}
use Rattle.wh_dag.specs.Catalog.{DefinitionOf, IsDefinition}
use Rattle.wh_formula.specs.Combiner.{AnswersExpr}
use Rattle.wh_formula.specs.Expr.{ExprTree}
use Rattle.wh_formula.specs.Expr as expr
use Rattle.wh_formula.specs.Filter.{AnswersPred}
use Rattle.wh_formula.specs.Native.{CallableOnRows}
use Rattle.wh_formula.specs.Pred.{PredTree}
use Rattle.wh_formula.specs.Pred as pred

-- what is made of a test may be asked about each row of a width in which the test's places lie, and answers the test there
abbrev pub AnswersTests : {F : Type 0} → (PredTree → F → Type 0) → (F → List ℤ → Type 0) → (F → List ℤ → Bool → Type 0) → Type 0
AnswersTests {F} makes can_test tests =
    (p : PredTree) (width : ℕ) (f : F) → IsTrue (pred.fits width p) → makes p f → CallableOnRows width (can_test f) × AnswersPred p width (tests f)

-- the same of an expression
abbrev pub AnswersValues : {G : Type 0} → (ExprTree → G → Type 0) → (G → List ℤ → Type 0) → (G → List ℤ → Option ℤ → Type 0) → Type 0
AnswersValues {G} makes can_combine combines =
    (e : ExprTree) (width : ℕ) (g : G) → IsTrue (expr.fits width e) → makes e g → CallableOnRows width (can_combine g) × AnswersExpr e width (combines g)

-- each place that these definitions read lies in their rows
abbrev pub AreSound : List (Option DefinitionOf) → Type 0
AreSound [] = Unit {0}
AreSound (None ∷ definitions) = AreSound definitions
AreSound (Some definition ∷ definitions) = IsDefinition definition × AreSound definitions
