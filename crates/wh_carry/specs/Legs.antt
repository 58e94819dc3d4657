-- The course of a night: waves of jobs and pages of changes, one after another.
use Rattle.std.specs.Prelude.{ℕ, ◌+◌, ◌==◌, Bool, false, List, [], ◌∷◌, ◌++◌, map, length, drop, if◌then◌else◌}
use Rattle.wh_row.specs.Bag.{Bag}
use Rattle.wh_row.specs.Weigh.{Counted}
use Rattle.wh_maint.specs.View.{ViewGraph}
use Rattle.wh_maint.specs.Definition.{graph_of}
use Rattle.wh_strategy.specs.declared.expression.Expression.TheVariants.{Inst}
use Rattle.wh_carry.specs.declared.stages.Stage.{Stage}
use Rattle.wh_carry.specs.declared.stages.Stage.TheVariants as stage
use Rattle.wh_carry.specs.Carry.{State, at_first, carried, step}
use Rattle.wh_carry.specs.Waves.{expressions_of, stages_of}
use Rattle.wh_carry.specs.NightList.{inst_pages}
use Rattle.wh_carry.specs.Night.{Night}

-- A wave of so many jobs, of which job n is the Comp at the place with n added. Or a page of new counts of the view that the Inst at the
-- place installs
pub data Leg : Type 0 where
  Wave : (place jobs : ℕ) → Leg
  Page : (place view : ℕ) → (rows : Counted) → Leg

-- the legs of stages, the first of which begins at this place and this state; an Inst without a change has no page
unfoldable pub legs_after : ViewGraph → (ℕ → Bag) → ℕ → ℕ → State → List Stage → List Leg
legs_after g changes keys place s [] = []
legs_after g changes keys place s (stage.Wave jobs ∷ stages) =
    Wave place (length jobs) ∷ legs_after g changes keys (place + length jobs) (carried g changes (expressions_of (stage.Wave jobs)) s) stages
legs_after g changes keys place s (stage.Inst v ∷ stages) =
    map (Page place v) (inst_pages g changes keys s v) ++ legs_after g changes keys (place + 1) (step g changes (Inst v) s) stages

-- the legs of a night
abbrev pub legs_of : Night → List Leg
legs_of night = legs_after (graph_of night.catalog) night.changes night.keys 0 (at_first night.tables) (stages_of night.list)

-- what is in turn in a night: a wave, of whose jobs so many are drawn; a page; or nothing more
pub data Turn : Type 0 where
  In_wave : (place jobs drawn : ℕ) → Turn
  At_page : (place view : ℕ) → (rows : Counted) → Turn
  Over : Turn

-- what is left of a night: the legs that are not over, and how many jobs of the first are drawn and done, where it is a wave
pub record Remaining : Type 0 where
  pub legs : List Leg
  pub drawn : ℕ
  pub done : ℕ

-- these legs, with nothing drawn of the first
abbrev pub untouched : List Leg → Remaining
untouched legs = record { legs = legs; drawn = 0; done = 0 }

-- what is left after a draw, which takes the next job of the wave
abbrev pub after_draw : Remaining → Remaining
after_draw r = record { legs = r.legs; drawn = r.drawn + 1; done = r.done }

-- the first leg is a wave, so many of whose jobs are done, and one job alone is left to do
abbrev pub is_one_left : List Leg → ℕ → Bool
is_one_left (Wave place jobs ∷ legs) done = done + 1 == jobs
is_one_left (Page place view rows ∷ legs) done = false
is_one_left [] done = false

-- the next Done is the last of its wave
abbrev pub is_last : Remaining → Bool
is_last r = is_one_left r.legs r.done

-- what is left after a Done, of which the last takes the wave off the list
abbrev pub after_done : Remaining → Remaining
after_done r = if is_last r then untouched (drop 1 r.legs) else record { legs = r.legs; drawn = r.drawn; done = r.done + 1 }

-- what is left after a page, which takes itself off the list
abbrev pub after_page : Remaining → Remaining
after_page r = untouched (drop 1 r.legs)

-- the first of the legs is in turn
abbrev pub turn_at : List Leg → ℕ → Turn
turn_at (Wave place jobs ∷ legs) drawn = In_wave place jobs drawn
turn_at (Page place view rows ∷ legs) drawn = At_page place view rows
turn_at [] drawn = Over

abbrev pub turn_of : Remaining → Turn
turn_of r = turn_at r.legs r.drawn

-- how many expressions of the list are carried out where this is in turn: those before a wave, and those up to an Inst whose pages are put
abbrev pub carried_up_to : Night → Turn → ℕ
carried_up_to night (In_wave place jobs drawn) = place
carried_up_to night (At_page place view rows) = place + 1
carried_up_to night Over = length night.list
