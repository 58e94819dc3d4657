-- The contents of a base, worked out view by view, and why a base has none.
use Rattle.std.specs.Prelude.{◌≡◌, ◌<◌, ℕ, [], map}
use Rattle.wh_row.specs.Bag.{Bag}
use Rattle.wh_maint.specs.View.{ViewGraph}
use Rattle.wh_maint.specs.Contents.{contents}
use Rattle.wh_maint.specs.Size.{HaveRows, HaveTooMany}
use Rattle.wh_maint.specs.Value.{HasValue}
use Rattle.wh_maint.specs.declared.fault.MaintFault.{MaintFault}
use Rattle.wh_maint.specs.declared.fault.MaintFault.TheVariants.{Absent, Large, Memory, Range}

-- a view can be evaluated over these tables of its children: they have at most 2^56 combined rows, and it has a value there
pub record CanBeEvaluated (g : ViewGraph) (tables : ℕ → Bag) (view : ℕ) : Type 0 where
  pub few : ¬ (HaveTooMany (g.children view) tables)
  pub valued : HasValue (g.views view) (map tables (g.children view))

-- each derived view below this number can be evaluated over the contents of this base: the views below it have contents, and they can be
-- worked out
abbrev pub HaveContentsBelow : ViewGraph → (ℕ → Bag) → ℕ → Type 0
HaveContentsBelow g base n = (view : ℕ) → view < n → ¬ (g.children view ≡ []) → CanBeEvaluated g (contents g base) view

-- why a view cannot be evaluated over these tables: too many combined rows come first
abbrev pub IsEvaluateFault : ViewGraph → (ℕ → Bag) → ℕ → MaintFault → Type 0
IsEvaluateFault g tables view (Large v) = (v ≡ view) × HaveTooMany (g.children view) tables
IsEvaluateFault g tables view (Range v) = (v ≡ view) × (¬ (HaveTooMany (g.children view) tables)) × (¬ (HasValue (g.views view) (map tables (g.children view))))
IsEvaluateFault g tables view (Absent v row) = ⊥
IsEvaluateFault g tables view Memory = ⊥

-- the first derived view that cannot be evaluated, and why: the base has no contents, or too many combined rows for them to be worked out
pub record HasNoContents (g : ViewGraph) (base : ℕ → Bag) (fault : MaintFault) : Type 0 where
  pub view : ℕ
  pub derived : ¬ (g.children view ≡ [])
  pub before : HaveContentsBelow g base view
  pub why : IsEvaluateFault g (contents g base) view fault

-- a derived view whose children all have rows in the contents of this base, after views that can be evaluated
pub record HasRowsToMeet (g : ViewGraph) (base : ℕ → Bag) : Type 0 where
  pub view : ℕ
  pub derived : ¬ (g.children view ≡ [])
  pub before : HaveContentsBelow g base view
  pub rows : HaveRows (g.children view) (contents g base)
