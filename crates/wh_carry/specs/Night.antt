-- A night that is to be carried out, and where carrying out can be refused.
use Rattle.std.specs.Prelude.{◌≡◌, ◌⊎◌, ℕ, List, [], ◌∷◌, ◌++◌, drop, length}
use Rattle.std.specs.List.{All, range_with_len}
use Rattle.wh_strategy.specs.declared.expression.Expression.{Expression}
use Rattle.wh_strategy.specs.Expression.{At}
use Rattle.wh_row.specs.Bag.{Bag}
use Rattle.wh_dag.specs.Catalog.{CatalogOf}
use Rattle.wh_maint.specs.declared.fault.MaintFault.{MaintFault}
use Rattle.wh_maint.specs.Comp.{bag_at}
use Rattle.wh_maint.specs.Definition.{graph_of}
use Rattle.wh_store.specs.Operations.{Operation, Commits}
use Rattle.wh_carry.specs.Carry.{State, before}
use Rattle.wh_carry.specs.NightList.{IsCutNight, IsNightList}
use Rattle.wh_carry.specs.Refused.{AreAllowedBelow, ArePassedBelow, IsPassed, IsStepFault}

-- the strategy that is carried out, from which tables, with which changes of the base views, and how many rows a page has at most
pub record Night : Type 0 where
  pub catalog : CatalogOf
  pub list : List Expression
  pub tables : ℕ → Bag
  pub changes : ℕ → Bag
  pub keys : ℕ

-- the night of this strategy and these changes over these tables
abbrev pub night_over : CatalogOf → List Expression → List Bag → List Bag → ℕ → Night
night_over catalog list tables changes keys = record { catalog = catalog; list = list; tables = bag_at tables; changes = bag_at changes; keys = keys }

-- these operations are the whole night list, with its commit
pub record IsWhole (n : Night) (ops : List Operation) : Type 0 where
  pub puts : List Operation
  pub night_list : IsNightList n.catalog n.list n.tables n.changes n.keys ops
  pub commits : ops ≡ puts ++ Commits ∷ []

-- what a night has published that ended: its whole list, each of its expressions being passed, or a beginning of it and a give-up
abbrev pub HasEnded : Night → List Operation → Type 0
HasEnded n ops =
    (ArePassedBelow n.catalog n.list n.tables n.changes (length n.list) × IsWhole n ops)
    ⊎ IsCutNight n.catalog n.list n.tables n.changes n.keys ops

-- what the expressions before this place have made of the tables
abbrev pub state_at : Night → ℕ → State
state_at night place = before (graph_of night.catalog) night.changes night.list night.tables place

-- no base change is refused
abbrev pub AreAllowed : Night → Type 0
AreAllowed night = AreAllowedBelow night.catalog night.tables night.changes (length night.catalog.views.children)

-- at this place nothing but memory can be refused
abbrev pub IsPassedAt : Night → ℕ → Type 0
IsPassedAt night place = (e : Expression) → At night.list place e → IsPassed night.catalog night.changes (state_at night place) e

-- at each of these places nothing but memory can be refused
abbrev pub ArePassedAt : Night → List ℕ → Type 0
ArePassedAt night places = All (IsPassedAt night) places

-- the expression at this place is refused, for the first of its reasons
pub record IsFaultAt (night : Night) (place : ℕ) (fault : MaintFault) : Type 0 where
  pub expression : Expression
  pub there : At night.list place expression
  pub refused : IsStepFault night.catalog night.changes (state_at night place) expression fault

-- of the expressions at these places, the first that is refused is refused so
pub record IsFirstFaultOf (night : Night) (places : List ℕ) (fault : MaintFault) : Type 0 where
  pub earlier : List ℕ
  pub place : ℕ
  pub later : List ℕ
  pub split : places ≡ earlier ++ place ∷ later
  pub passed : ArePassedAt night earlier
  pub refused : IsFaultAt night place fault

-- the places from one on, below another: 0, 1 and so on below the end, without those below the first
abbrev pub places_from : ℕ → ℕ → List ℕ
places_from first end = drop first (range_with_len 0 end)
