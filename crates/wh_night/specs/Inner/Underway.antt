-- Where a night has come to: what is carried out, reported and published: what only proofs and private contracts use.
use Rattle.std.specs.Prelude.{◌≡◌, ◌≢◌, ◌⊎◌, ◌==◌, ℕ, ◌<◌, ◌≤◌, ◌^◌, true, List, [], ◌∷◌, ◌++◌, map, Option, Some, None, option_map, IfSome, length}
use Rattle.std.specs.List.{All}
use Rattle.wh_dag.specs.Catalog.{CatalogOf}
use Rattle.wh_strategy.specs.declared.expression.Expression.{Expression}
use Rattle.wh_strategy.specs.declared.expression.Expression.TheVariants.{Inst}
use Rattle.wh_row.specs.Weigh.{Counted}
use Rattle.wh_row.specs.Bag.{Bag, IsTable, sum_of}
use Rattle.wh_maint.specs.Definition.{graph_of}
use Rattle.wh_maint.specs.declared.fault.MaintFault.{MaintFault}
use Rattle.wh_maint.specs.declared.fault.MaintFault.TheVariants.{Memory}
use Rattle.wh_store.specs.Operations.{Operation, Writes, Commits}
use Rattle.wh_store.specs.Pages.{Contents, is_page}
use Rattle.wh_store.specs.Ledgers.{Ledger, versions_in, with_held}
use Rattle.wh_carry.specs.declared.stages.Job.{Job}
use Rattle.wh_carry.specs.declared.stages.Stage.{Stage}
use Rattle.wh_carry.specs.declared.stages.Stage.TheVariants as stage
use Rattle.wh_carry.specs.Fit.{AreFit}
use Rattle.wh_carry.specs.NightLaws.{HaveTables}
use Rattle.wh_carry.specs.Waves.{stages_of}
use Rattle.wh_carry.specs.Kept.{Kept, finished}
use Rattle.wh_carry.specs.NightList.{new_counts, pages_of}
use Rattle.wh_carry.specs.Refused.{ArePassedBelow, HaveValuesBelow}
use Rattle.wh_carry.specs.Inner.Refused.{IsPassedIn, IsStepFaultIn}
use Rattle.wh_carry.specs.Inner.Steps.{AreFirstSteps}
use Rattle.wh_carry.specs.Night.{Night, state_at}
use Rattle.wh_carry.specs.Inner.Reasons.{CanBeFinished}
use Rattle.wh_carry.specs.Standing.{is_source}
use Rattle.wh_carry.specs.Inner.Standing.{StandsAt}
use Rattle.wh_night.specs.Tonight.{IsRefusedThere, goes_out, made_by, newest_in, out_below}
use Rattle.wh_night.specs.Refusals.{IsFirstStageFault}
use Rattle.wh_night.specs.Causes.{cause_of}
use Rattle.wh_night.specs.declared.left.NightFault.{NightFault}
use Rattle.wh_night.specs.declared.left.Aftermath.TheVariants.{Untouched}

-- what a night is made of, beside its catalogue and the rows of a page: its strategy, the tables and changes, and what was published before
-- it, if it is published
pub record Given : Type 0 where
  pub list : List Expression
  pub tables : ℕ → Bag
  pub changes : ℕ → Bag
  pub before : Option Ledger

abbrev pub night_given : CatalogOf → ℕ → Given → Night
night_given catalog keys t = record { catalog = catalog; list = t.list; tables = t.tables; changes = t.changes; keys = keys }

-- the expressions before this place are carried out and reported
pub record HasCome (n : Night) (place : ℕ) (k : Kept) (steps : List (Expression × ℕ)) : Type 0 where
  pub stands : StandsAt n place k
  pub passed : ArePassedBelow n.catalog n.list n.tables n.changes place
  pub reported : AreFirstSteps n.catalog.views.children n.list n.tables (made_by n) place steps

-- these operations have gone out or are held, and those come next, if any
pub record IsPartly (l : Ledger) (ops : List Operation) (m : Ledger) : Type 0 where
  pub out : List Operation
  pub held : Option Operation
  pub rest : List Operation
  pub now : m ≡ goes_out l out held
  pub split : ops ≡ with_held out held ++ rest

-- what is published once these operations have gone out behind it, if anything is published
abbrev pub behind : Option Ledger → List Operation → Option Ledger
behind l ops = option_map (λ l. goes_out l ops None) l

-- some of these operations have gone out or are held; where nothing is published none is lost
abbrev pub ArePartlyOut : Option Ledger → List Operation → Option Ledger → Type 0
ArePartlyOut None ops m = ⊥
ArePartlyOut (Some l) ops None = ⊥
ArePartlyOut (Some l) ops (Some m) = IsPartly l ops m

-- a night that has begun and cannot go on for this: a beginning of what it publishes up to a place has gone out or is held, where each
-- expression before the place is passed; memory aside, that is all of it, and the stage at the place is refused
pub record IsStopped (n : Night) (l : Ledger) (fault : MaintFault) (m : Ledger) : Type 0 where
  pub ops : List Operation
  pub held : Option Operation
  pub now : m ≡ goes_out l ops held
  pub begun : with_held ops held ≢ []
  pub place : ℕ
  pub within : place ≤ length n.list
  pub passed : ArePassedBelow n.catalog n.list n.tables n.changes place
  pub rest : List Operation
  pub begins : out_below n place ≡ with_held ops held ++ rest
  pub why : (fault ≡ Memory) ⊎ ((held ≡ None) × (rest ≡ []) × IsRefusedThere n place fault)

-- a night that cannot go on for this: it stands so in what is published, or nothing is published and a stage is refused
abbrev pub IsHalted : Night → Option Ledger → MaintFault → Option Ledger → Type 0
IsHalted n None fault None = (fault ≡ Memory) ⊎ IsFirstStageFault n fault
IsHalted n None fault (Some m) = ⊥
IsHalted n (Some l) fault None = ⊥
IsHalted n (Some l) fault (Some m) = IsStopped n l fault m

-- the change of each of their sources can be made, by the definition
abbrev pub SourcesFinish : Night → ℕ → List Job → Type 0
SourcesFinish n place jobs = (u : ℕ) → is_source jobs u ≡ true → CanBeFinished n.catalog (state_at n place) u

-- one step more is reported, with these rows
pub record Reports (rows : ℕ) (e : Expression) (old new : List (Expression × ℕ)) : Type 0 where
  pub told : ℕ
  pub is : told ≡ rows
  pub few : told < 2 ^ 128
  pub steps : new ≡ old ++ (e, told) ∷ []

-- nothing is held, a night is open, and what it writes has this view
pub record TakesPages (l : Ledger) (view : ℕ) : Type 0 where
  pub free : l.held ≡ None
  pub draft : Contents
  pub open_night : (versions_in l.of l.list).draft ≡ Some draft
  pub has : view < length draft

-- cut into pages, these rows are pages that an operation may write
abbrev pub AreGoodPages : ℕ → Counted → Type 0
AreGoodPages keys rows = All (λ page. is_page page ≡ true) (pages_of keys rows)

-- these rows may be put: the view takes pages, and cut into pages the rows are such
pub record TakesRows (keys view : ℕ) (rows : Counted) (l : Ledger) : Type 0 where
  pub takes : TakesPages l view
  pub good : AreGoodPages keys rows

-- the new counts of a view, by pages, as its Inst publishes them
abbrev pub puts_in : CatalogOf → ℕ → ℕ → Kept → List Operation
puts_in catalog keys view k = map (Writes view) (pages_of keys (new_counts (k.tables view) ((finished catalog (λ u. view == u) k).changes view)))

-- some pages have gone out, and whatever rows follow the open page, with these pages they are cut as they were
pub record GoesOut (view keys : ℕ) (open_before open_after : Counted) (l m : Ledger) : Type 0 where
  pub pages : List Counted
  pub out : m ≡ goes_out l (map (Writes view) pages) None
  pub cut : (rest : Counted) → pages ++ pages_of keys (open_after ++ rest) ≡ pages_of keys (open_before ++ rest)

-- an Inst is refused before any of its pages; or it is passed, and for want of memory some of them have gone out
pub data IsInstStopped (catalog : CatalogOf) (keys view : ℕ) (k : Kept) (fault : MaintFault) (l m : Option Ledger) : Type 0 where
  is_refused : m ≡ l → IsStepFaultIn catalog k (Inst view) fault → IsInstStopped catalog keys view k fault l m
  is_cut : fault ≡ Memory → IsPassedIn catalog k (Inst view) → ArePartlyOut l (puts_in catalog keys view k) m → IsInstStopped catalog keys view k fault l m

-- what an Inst puts may be published: its pages are taken, and where it is passed the new table counts no row below zero
abbrev pub CanPublish : CatalogOf → Stage → Kept → Ledger → Type 0
CanPublish catalog (stage.Wave jobs) k l = Unit {0}
CanPublish catalog (stage.Inst v) k l = TakesPages l v × (IsPassedIn catalog k (Inst v) → IsTable (sum_of (k.tables v) ((finished catalog (λ u. v == u) k).changes v)))

-- the night has come to this place, and what it publishes up to there has gone out, if it is published
pub record IsAt (n : Night) (l : Option Ledger) (place : ℕ) (k : Kept) (steps : List (Expression × ℕ)) (m : Option Ledger) : Type 0 where
  pub come : HasCome n place k steps
  pub out : m ≡ behind l (out_below n place)

-- of what is published the newest contents are the tables of the night, which are fit, and stay so as far as expressions have values
pub record IsFitBehind (catalog : CatalogOf) (keys : ℕ) (t : Given) (l : Ledger) : Type 0 where
  pub tables : HaveTables (newest_in l) (length catalog.views.children) t.tables
  pub fit : (place : ℕ) → HaveValuesBelow catalog t.list t.tables t.changes place → AreFit (graph_of catalog) (state_at (night_given catalog keys t) place).tables

-- these are the stages of a night that may be published behind what is published before it, if it is published
pub record AreFitStages (catalog : CatalogOf) (keys : ℕ) (t : Given) (stages : List Stage) : Type 0 where
  pub are : stages ≡ stages_of t.list
  pub fit : IfSome t.before (IsFitBehind catalog keys t)

-- the night of these stages can begin from what is kept, and what is reported
pub record CanStart (catalog : CatalogOf) (keys : ℕ) (stages : List Stage) (k : Kept) (steps : List (Expression × ℕ)) (l : Ledger) : Type 0 where
  pub given : Given
  pub fit : AreFitStages catalog keys given stages
  pub before : given.before ≡ Some l
  pub come : HasCome (night_given catalog keys given) 0 k steps

-- it has begun
pub record HasBegun (catalog : CatalogOf) (keys : ℕ) (stages : List Stage) (k : Kept) (steps : List (Expression × ℕ)) (m : Option Ledger) : Type 0 where
  pub given : Given
  pub fit : AreFitStages catalog keys given stages
  pub at : IsAt (night_given catalog keys given) given.before 0 k steps m

-- all but the commit has gone out, each expression being passed
pub record IsPut (n : Night) (l m : Ledger) : Type 0 where
  pub passed : ArePassedBelow n.catalog n.list n.tables n.changes (length n.list)
  pub out : m ≡ goes_out l (out_below n (length n.list)) None

-- and the commit is held
pub record WaitsToCommit (n : Night) (l m : Ledger) : Type 0 where
  pub passed : ArePassedBelow n.catalog n.list n.tables n.changes (length n.list)
  pub out : m ≡ goes_out l (out_below n (length n.list)) (Some Commits)

-- a night is refused once its base changes are allowed: for want of memory, or by a stage once it has begun
pub record IsRefusedLater (n : Night) (f : NightFault) : Type 0 where
  pub fault : MaintFault
  pub told : f.cause ≡ cause_of fault
  pub why : (fault ≡ Memory) ⊎ (IsFirstStageFault n fault × (f.left ≢ Untouched))
