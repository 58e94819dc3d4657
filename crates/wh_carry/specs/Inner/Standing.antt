-- Where carrying out stands at a place of a night: what only proofs and private contracts use.
use Rattle.std.specs.Prelude.{◌≡◌, ℕ, ◌<◌, Bool, true, false, List, Option, Some, None, slice_get, length, map, take, ◌≤◌, [], ◌∷◌, ◌++◌}
use Rattle.wh_dag.specs.Shape.{has}
use Rattle.wh_maint.specs.declared.fault.MaintFault.{MaintFault}
use Rattle.wh_maint.specs.declared.fault.MaintFault.TheVariants as fault
use Rattle.wh_carry.specs.declared.stages.Job.{Job}
use Rattle.wh_carry.specs.Inner.Reasons.{IsUnfinished}
use Rattle.wh_carry.specs.declared.wave.Refusal.{Refusal}
use Rattle.wh_carry.specs.declared.wave.Refusal.TheVariants as refusal
use Rattle.wh_dag.specs.Catalog.{CatalogOf, IsCatalog}
use Rattle.wh_carry.specs.AnyOrder.{AreSideBySide, expressions_from}
use Rattle.wh_carry.specs.Waves.{comp_of}
use Rattle.wh_row.specs.Weigh.{Counted}
use Rattle.wh_store.specs.Operations.{Writes, operation}
use Rattle.wh_carry.specs.NightList.{pages_of}
use Rattle.wh_carry.specs.declared.stages.Stage.{Stage}
use Rattle.wh_carry.specs.declared.course.Course.{Course}
use Rattle.wh_carry.specs.Course.{AreParts, HasRefusal}
use Rattle.wh_carry.specs.Legs.{Leg, legs_after}
use Rattle.wh_carry.specs.declared.course.Part.{Part}
use Rattle.wh_carry.specs.declared.course.Part.TheVariants as part
use Rattle.wh_carry.specs.Carry.{carried}
use Rattle.wh_maint.specs.Definition.{graph_of}
use Rattle.wh_strategy.specs.Rules.{IsCorrect}
use Rattle.wh_carry.specs.Kept.{Kept}
use Rattle.wh_carry.specs.Inner.Agreeing.{Agrees, AreTold}
use Rattle.wh_carry.specs.Night.{Night, state_at}
use Rattle.wh_carry.specs.Stages.{place_behind}

-- what is kept is what the expressions before this place of a correct list have made, with the changes that are known
pub record StandsAt (n : Night) (place : ℕ) (k : Kept) : Type 0 where
  pub catalogue : IsCatalog n.catalog
  pub correct : IsCorrect n.catalog.views.children n.list
  pub agrees : Agrees n.catalog n.list n.tables n.changes place (state_at n place) k
  pub told : AreTold n.catalog n.list n.tables n.changes k

-- these jobs are the wave of this catalogue's list that begins at this place
pub record IsWaveAt (catalog : CatalogOf) (jobs : List Job) (n : Night) (place : ℕ) : Type 0 where
  pub same : n.catalog ≡ catalog
  pub are : expressions_from n.list place (length jobs) ≡ map comp_of jobs
  pub side : AreSideBySide n.list place (length jobs)

-- the fault that a refusal is
abbrev pub answer_of : Refusal → MaintFault
answer_of (refusal.Large v) = fault.Large v
answer_of (refusal.Range v) = fault.Range v

-- the change of a source is known, or refused for this
abbrev pub IsSourceOutcome : Night → ℕ → Kept → ℕ → Option Refusal → Type 0
IsSourceOutcome n place k u None = k.known u ≡ true
IsSourceOutcome n place k u (Some r) = IsUnfinished n.catalog (state_at n place) u (answer_of r)

-- of these views this is the refusal of the first that has one, by rising number
pub record IsFirstOf (refusals : List (Option Refusal)) (views : List ℕ) (r : Refusal) : Type 0 where
  pub view : ℕ
  pub among : has views view ≡ true
  pub is : slice_get refusals view ≡ Some (Some r)
  pub lower : (u : ℕ) (other : Option Refusal) → u < view → has views u ≡ true → slice_get refusals u ≡ Some other → other ≡ None

-- these are the outcomes of these sources
abbrev pub AreOutcomes : Night → ℕ → Kept → List ℕ → List (Option Refusal) → Type 0
AreOutcomes n place k views refusals = (u : ℕ) (o : Option Refusal) → has views u ≡ true → slice_get refusals u ≡ Some o → IsSourceOutcome n place k u o

-- before this job of a wave: of the jobs so far the first are added, all of them where none was refused
pub record IsAmid (n : Night) (place : ℕ) (jobs : List Job) (j : ℕ) (clean : Bool) (k : Kept) : Type 0 where
  pub added : ℕ
  pub few : added ≤ j
  pub all : clean ≡ true → added ≡ j
  pub agrees : Agrees n.catalog n.list n.tables n.changes place (carried (graph_of n.catalog) n.changes (take added (map comp_of jobs)) (state_at n place)) k
  pub told : AreTold n.catalog n.list n.tables n.changes k

-- these parts put these pages of the view
abbrev pub ArePages : ℕ → List Counted → List Part → Type 0
ArePages view [] [] = Unit {0}
ArePages view (page ∷ pages) (part.Page op ∷ parts) = (operation op ≡ Writes view page) × ArePages view pages parts
ArePages view (page ∷ pages) (part.Wave outcomes ∷ parts) = ⊥
ArePages view [] (p ∷ parts) = ⊥
ArePages view (page ∷ pages) [] = ⊥

-- behind the old parts stand those that put these pages
pub record PutsPages (view : ℕ) (pages : List Counted) (old new : List Part) : Type 0 where
  pub added : List Part
  pub is : new ≡ old ++ added
  pub are : ArePages view pages added

-- some pages are put, and whatever rows follow the open page, with these pages they are cut as they were
pub record PutsSome (view keys : ℕ) (open_before open_after : Counted) (old new : List Part) : Type 0 where
  pub pages : List Counted
  pub puts : PutsPages view pages old new
  pub cut : (rest : Counted) → pages ++ pages_of keys (open_after ++ rest) ≡ pages_of keys (open_before ++ rest)

-- the legs of stages that begin at this place
abbrev pub legs_at : Night → ℕ → List Stage → List Leg
legs_at n place stages = legs_after (graph_of n.catalog) n.changes n.keys place (state_at n place) stages

-- After a stage: where one can go on, carrying out stands behind it, and with parts for what is left its parts are those from it on. Else
-- its parts are all, and some expression is refused
pub record GoesPast (n : Night) (before : List Stage) (stage : Stage) (after : List Stage) (goes : Bool) (old new : Kept) (was is : Course) : Type 0 where
  pub stands : StandsAt n (place_behind before) old → goes ≡ true → StandsAt n (place_behind (before ++ stage ∷ [])) new
  pub added : List Part
  pub parts : is.parts.items ≡ was.parts.items ++ added
  pub stop : goes ≡ true → is.stop ≡ was.stop
  pub going : StandsAt n (place_behind before) old → goes ≡ true → (rest : List Part) (stop : Option MaintFault)
      → AreParts n (place_behind (before ++ stage ∷ [])) (legs_at n (place_behind (before ++ stage ∷ [])) after) rest stop → AreParts n (place_behind before) (legs_at n (place_behind before) (stage ∷ after)) (added ++ rest) stop
  pub ending : StandsAt n (place_behind before) old → goes ≡ false → AreParts n (place_behind before) (legs_at n (place_behind before) (stage ∷ after)) added is.stop
  pub refused : StandsAt n (place_behind before) old → goes ≡ false → HasRefusal n
