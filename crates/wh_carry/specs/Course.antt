-- What becomes of a night: of each leg, as far as one can come, whether it can be gone through, and why not.
use Rattle.std.specs.Prelude.{◌≡◌, ℕ, ◌+◌, List, [], ◌∷◌, length, Option, Some, None, is_none, Bool, true, slice_get}
use Rattle.std.specs.List.{list_all}
use Rattle.wh_maint.specs.declared.fault.MaintFault.{MaintFault}
use Rattle.wh_store.specs.Operations.{Writes, operation}
use Rattle.wh_carry.specs.declared.course.Part.{Part}
use Rattle.wh_carry.specs.declared.course.Part.TheVariants as part
use Rattle.wh_carry.specs.Night.{Night, ArePassedAt, IsPassedAt, IsFaultAt, IsFirstFaultOf, places_from}
use Rattle.wh_carry.specs.Legs.{Leg, Wave, Page}
use Rattle.wh_carry.specs.Carry.{tables_after}
use Rattle.wh_carry.specs.NightLaws.{HaveTables}
use Rattle.wh_maint.specs.Definition.{graph_of}
use Rattle.wh_row.specs.Bag.{Bag}
use Rattle.std.specs.Global.{Vec}

-- how many expressions of the list are carried out where a leg is in turn, and where it is over
abbrev pub start_of : Leg → ℕ
start_of (Wave place jobs) = place
start_of (Page place view rows) = place + 1

abbrev pub end_of : Leg → ℕ
end_of (Wave place jobs) = place + jobs
end_of (Page place view rows) = place + 1

-- the expression at this place is passed, or refused for this
abbrev pub IsOutcome : Night → ℕ → Option MaintFault → Type 0
IsOutcome n place None = IsPassedAt n place
IsOutcome n place (Some fault) = IsFaultAt n place fault

-- the part of a leg: of a wave what becomes of each job, of a page the operation that puts it
abbrev pub IsPart : Night → Leg → Part → Type 0
IsPart n (Wave place jobs) (part.Wave outcomes) =
    (length outcomes.items ≡ jobs) × ((j : ℕ) (outcome : Option MaintFault) → slice_get outcomes.items j ≡ Some outcome → IsOutcome n (place + j) outcome)
IsPart n (Page place view rows) (part.Page op) = operation op ≡ Writes view rows
IsPart n (Wave place jobs) (part.Page op) = ⊥
IsPart n (Page place view rows) (part.Wave outcomes) = ⊥

-- the part can be gone through: no job is refused
abbrev pub is_passed : Part → Bool
is_passed (part.Wave outcomes) = list_all is_none outcomes.items
is_passed (part.Page op) = true

-- the expressions at these places are passed, or the first of them that is not is refused for this
abbrev pub IsStop : Night → List ℕ → Option MaintFault → Type 0
IsStop n places None = ArePassedAt n places
IsStop n places (Some fault) = IsFirstFaultOf n places fault

-- The parts of these legs, where the expressions before this place are carried out. What follows a wave with a refused job is not asked
-- for. After the last part either nothing is left, or an expression before the next leg, or before the end, is refused
unfoldable pub AreParts : Night → ℕ → List Leg → List Part → Option MaintFault → Type 0
AreParts n from [] [] stop = IsStop n (places_from from (length n.list)) stop
AreParts n from [] (p ∷ parts) stop = ⊥
AreParts n from (leg ∷ legs) [] stop = (fault : MaintFault) × (stop ≡ Some fault) × IsFirstFaultOf n (places_from from (start_of leg)) fault
AreParts n from (leg ∷ legs) (p ∷ parts) stop =
    ArePassedAt n (places_from from (start_of leg)) × IsPart n leg p × (is_passed p ≡ true → AreParts n (end_of leg) legs parts stop)

-- some expression of the night is refused
pub record HasRefusal (n : Night) : Type 0 where
  pub place : ℕ
  pub fault : MaintFault
  pub refused : IsFaultAt n place fault

-- these are the tables that the whole night ends with; there are none only where some expression of it is refused
abbrev pub IsEnd : Night → Option (Vec Bag) → Type 0
IsEnd n None = HasRefusal n
IsEnd n (Some tables) = HaveTables tables.items (length n.catalog.views.children) (tables_after (graph_of n.catalog) n.changes n.list n.tables)
