-- A test of a row: whether it holds, its columns, its levels.
use Rattle.std.specs.Prelude.{ℕ, ◌+◌, max, Bool, true, false, not, ◌&&◌, ◌||◌, ◌⊎◌, List, [], ◌∷◌, ℤ}
use Rattle.wh_formula.specs.declared.comparison.Comparison.{Comparison}
use Rattle.wh_formula.specs.Comparison.{compares_values}
use Rattle.wh_formula.specs.Expr.{ExprTree, value}
use Rattle.wh_formula.specs.Expr as expr

mutual
  -- what a `Pred` is seen as
  pub data PredTree : Type 0 where
    True : PredTree
    Cmp : Comparison → ExprTree → ExprTree → PredTree
    AllOf : PredTrees → PredTree
    AnyOf : PredTrees → PredTree
    Not : PredTree → PredTree

  -- the parts of an `AllOf` or an `AnyOf`
  pub data PredTrees : Type 0 where
    no_more : PredTrees
    one_more : PredTree → PredTrees → PredTrees

-- a list of tests as parts
abbrev pub parts_of : List PredTree → PredTrees
parts_of [] = no_more
parts_of (p ∷ ps) = one_more p (parts_of ps)

-- there is a part among these
abbrev pub HaveSome : PredTrees → Type 0
HaveSome no_more = ⊥
HaveSome (one_more p ps) = Unit {0}

-- the test is made of other tests, or compares an expression that is made of others
abbrev pub HasParts : PredTree → Type 0
HasParts True = ⊥
HasParts (Cmp op a b) = expr.HasParts a ⊎ expr.HasParts b
HasParts (AllOf ps) = HaveSome ps
HasParts (AnyOf ps) = HaveSome ps
HasParts (Not p) = Unit {0}

abbrev mutual
  -- whether a row meets the test
  pub holds : List ℤ → PredTree → Bool
  holds row True = true
  holds row (Cmp op a b) = compares_values op (value row a) (value row b)
  holds row (AllOf ps) = all_hold row ps
  holds row (AnyOf ps) = any_holds row ps
  holds row (Not p) = not (holds row p)

  -- whether a row meets all of these tests
  pub all_hold : List ℤ → PredTrees → Bool
  all_hold row no_more = true
  all_hold row (one_more p ps) = holds row p && all_hold row ps

  -- whether a row meets one of these tests
  pub any_holds : List ℤ → PredTrees → Bool
  any_holds row no_more = false
  any_holds row (one_more p ps) = holds row p || any_holds row ps

abbrev mutual
  -- each column lies in a row of that width
  pub fits : ℕ → PredTree → Bool
  fits width True = true
  fits width (Cmp op a b) = expr.fits width a && expr.fits width b
  fits width (AllOf ps) = all_fit width ps
  fits width (AnyOf ps) = all_fit width ps
  fits width (Not p) = fits width p

  -- each column of each of these tests lies in a row of that width
  pub all_fit : ℕ → PredTrees → Bool
  all_fit width no_more = true
  all_fit width (one_more p ps) = fits width p && all_fit width ps

abbrev mutual
  -- how many levels a test has, those of its expressions among them
  pub depth : PredTree → ℕ
  depth True = 1
  depth (Cmp op a b) = max (expr.depth a) (expr.depth b) + 1
  depth (AllOf ps) = most_levels ps + 1
  depth (AnyOf ps) = most_levels ps + 1
  depth (Not p) = depth p + 1

  -- how many levels the deepest of these tests has
  pub most_levels : PredTrees → ℕ
  most_levels no_more = 0
  most_levels (one_more p ps) = max (depth p) (most_levels ps)
