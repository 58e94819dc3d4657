-- What only proofs and private contracts use. The rules once more, as tests of an expression and those that stand before it, which a check runs along the list.
use Rattle.std.specs.Prelude.{◌≡◌, ℕ, ◌<◌, List, slice_get, [], Some}
use Rattle.wh_strategy.specs.declared.expression.Expression.{Expression}
use Rattle.wh_strategy.specs.declared.rule.Rule.{Rule}
use Rattle.wh_strategy.specs.Tests.{place_from, Passes}

-- the list passes each of these rules
abbrev pub PassEach : List Rule → List (List ℕ) → List Expression → Type 0
PassEach rules shape list = (k : ℕ) (rule : Rule) → slice_get rules k ≡ Some rule → Passes shape list rule

-- it is the first of these rules whose tests fail, and this is the first place, counted from 1
pub record IsFirstFailed (rules : List Rule) (shape : List (List ℕ)) (list : List Expression) (rule : Rule) (place : ℕ) : Type 0 where
  pub turn : ℕ
  pub among : slice_get rules turn ≡ Some rule
  pub failed : place_from rule shape [] list ≡ Some place
  pub passed : (k : ℕ) (earlier : Rule) → k < turn → slice_get rules k ≡ Some earlier → Passes shape list earlier
