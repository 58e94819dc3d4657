-- What a night publishes behind what stood published before, and what a refused one leaves.
use Rattle.std.specs.Prelude.{◌≡◌, ◌≢◌, ◌⊎◌, ℕ, ◌+◌, ◌≤◌, List, [], ◌∷◌, ◌++◌, Option, Some, None, IsTrue, MatchResult, Result, length}
use Rattle.wh_row.specs.Bag.{Bag}
use Rattle.wh_dag.specs.Catalog.{CatalogOf}
use Rattle.wh_strategy.specs.declared.expression.Expression.{Expression}
use Rattle.wh_maint.specs.Comp.{bag_at}
use Rattle.wh_maint.specs.Contents.{AreContents}
use Rattle.wh_maint.specs.Definition.{graph_of}
use Rattle.wh_maint.specs.declared.fault.MaintFault.{MaintFault}
use Rattle.wh_maint.specs.declared.fault.MaintFault.TheVariants.{Memory}
use Rattle.wh_store.specs.Operations.{Operation, Commits, Gives_up}
use Rattle.wh_store.specs.Pages.{Contents}
use Rattle.wh_store.specs.Versions.{is_well_formed, number, version}
use Rattle.wh_store.specs.Ledgers.{Ledger, is_busy, ledger, versions_in}
use Rattle.wh_carry.specs.Carry.{tables_after}
use Rattle.wh_carry.specs.NightList.{IsBeginning, IsCutNight, night_below}
use Rattle.wh_carry.specs.Refused.{ArePassedBelow}
use Rattle.wh_carry.specs.Waves.{stages_of}
use Rattle.wh_carry.specs.declared.stages.Stage.{Stage}
use Rattle.wh_carry.specs.Night.{Night, AreAllowed, IsWhole, night_over}
use Rattle.wh_carry.specs.Stages.{place_behind}
use Rattle.wh_night.specs.Causes.{cause_of}
use Rattle.wh_night.specs.Refusals.{IsStageFault}
use Rattle.wh_night.specs.declared.cause.NightCause.{NightCause}
use Rattle.wh_night.specs.declared.left.Aftermath.{Aftermath}
use Rattle.wh_night.specs.declared.left.NightFault.{NightFault}
use Rattle.wh_night.specs.declared.left.Aftermath.TheVariants.{Untouched, GivenUp, StillOpen}

-- the contents of the current version
abbrev pub newest_in : Ledger → Contents
newest_in l = (versions_in l.of l.list).newest

-- the night of this strategy and these changes over the contents of the current version
abbrev pub tonight : CatalogOf → List Expression → Ledger → List Bag → ℕ → Night
tonight catalog list l changes keys = night_over catalog list (newest_in l) changes keys

-- the tables that a night makes
abbrev pub made_by : Night → ℕ → Bag
made_by n = tables_after (graph_of n.catalog) n.changes n.list n.tables

-- these operations have gone out behind what was published, and this is held
abbrev pub goes_out : Ledger → List Operation → Option Operation → Ledger
goes_out l ops held = ledger l.of (l.list ++ ops) held

-- these operations begin the night list, and its commit is not among them
abbrev pub Begin_it : Night → List Operation → Type 0
Begin_it n ops = IsBeginning n.catalog n.list n.tables n.changes n.keys ops

-- the whole night list has gone out, and nothing is held
pub record IsDone (n : Night) (l m : Ledger) : Type 0 where
  pub ops : List Operation
  pub whole : IsWhole n ops
  pub now : m ≡ goes_out l ops None

-- what a night has published where the expressions before this place are carried out
abbrev pub out_below : Night → ℕ → List Operation
out_below n place = night_below (graph_of n.catalog) n.changes n.keys n.list n.tables place

-- the stage that begins at this place is refused for this
pub record IsRefusedThere (n : Night) (place : ℕ) (fault : MaintFault) : Type 0 where
  pub before : List Stage
  pub refused : Stage
  pub after : List Stage
  pub split : stages_of n.list ≡ before ++ refused ∷ after
  pub here : place ≡ place_behind before
  pub is : IsStageFault n place refused fault

-- How far a refused night came that has published these operations, and why no further. No base change is refused, each expression before a
-- place is passed, and what is published up to there begins with the operations. For want of memory the rest of it is still to come; else
-- there is none, and the stage at the place is refused
pub record HasStopped (n : Night) (cause : NightCause) (ops : List Operation) : Type 0 where
  pub allowed : AreAllowed n
  pub place : ℕ
  pub within : place ≤ length n.list
  pub passed : ArePassedBelow n.catalog n.list n.tables n.changes place
  pub rest : List Operation
  pub begins : out_below n place ≡ ops ++ rest
  pub fault : MaintFault
  pub told : cause ≡ cause_of fault
  pub why : (fault ≡ Memory) ⊎ ((rest ≡ []) × IsRefusedThere n place fault)

-- the night was cut: it has stopped, and a give-up has gone out behind its operations; nothing is held
pub record IsCut (n : Night) (cause : NightCause) (l m : Ledger) : Type 0 where
  pub ops : List Operation
  pub stopped : HasStopped n cause ops
  pub cut : IsCutNight n.catalog n.list n.tables n.changes n.keys (ops ++ Gives_up ∷ [])
  pub now : m ≡ goes_out l (ops ++ Gives_up ∷ []) None

-- what is held is the first of what is still to come, the commit of a night whose expressions are all passed, or the give-up of one that has begun
pub data IsNext (n : Night) (ops rest : List Operation) : Option Operation → Type 0 where
  nothing : IsNext n ops rest None
  put : (op : Operation) (more : List Operation) → rest ≡ op ∷ more → IsNext n ops rest (Some op)
  commit : ArePassedBelow n.catalog n.list n.tables n.changes (length n.list) → IsWhole n (ops ++ Commits ∷ []) → IsNext n ops rest (Some Commits)
  give_up : ops ≢ [] → IsNext n ops rest (Some Gives_up)

-- the night has stopped, and no commit has gone out; what is held comes next. A night is open, or something is held
pub record IsOpen (n : Night) (cause : NightCause) (l m : Ledger) : Type 0 where
  pub ops : List Operation
  pub held : Option Operation
  pub stopped : HasStopped n cause ops
  pub beginning : Begin_it n ops
  pub next : IsNext n ops stopped.rest held
  pub now : m ≡ goes_out l ops held
  pub busy : IsTrue (is_busy m)

-- the night leaves what a night leaves that is refused for this cause
abbrev pub Leaves : Night → NightCause → Ledger → Aftermath → Ledger → Type 0
Leaves n cause l Untouched m = m ≡ l
Leaves n cause l GivenUp m = IsCut n cause l m
Leaves n cause l StillOpen m = IsOpen n cause l m

-- what a refused night leaves says how many give-ups of its writer were refused: one where it is open still, or its commit is held, and
-- else none
abbrev pub CountsEnd : Aftermath → ℕ → ℕ → Type 0
CountsEnd Untouched before after = after ≡ before
CountsEnd GivenUp before after = after ≡ before
CountsEnd StillOpen before after = after ≡ before + 1

-- the answer of a night says how many give-ups of its writer were refused; of a night that is done none was
abbrev pub TellsEnd : {T : Type 0} → Result T NightFault → ℕ → ℕ → Type 0
TellsEnd answer before after = MatchResult answer (λ _. after ≡ before) (λ f. CountsEnd f.left before after)

-- the published list is sound: each operation may come where it stands, and each version is the contents of a base
pub record IsSound (catalog : CatalogOf) (l : Ledger) : Type 0 where
  pub well_formed : IsTrue (is_well_formed (length l.of.opening) l.list)
  pub contents : (k : ℕ) → k ≤ number (versions_in l.of l.list) → AreContents (graph_of catalog) (bag_at (version (versions_in l.of l.list) k))
