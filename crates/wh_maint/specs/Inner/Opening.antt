-- The contents of a base, worked out view by view, and why a base has none: what only proofs and private contracts use.
use Rattle.std.specs.Prelude.{◌≡◌, ◌<◌, ◌≤◌, ◌+◌, ℕ, List, [], ◌∷◌, length, true, false, Result}
use Rattle.wh_dag.specs.Shape.{has, children_of}
use Rattle.wh_dag.specs.Catalog.{CatalogOf, is_base, definition_of}
use Rattle.wh_row.specs.Bag.{Bag}
use Rattle.wh_maint.specs.Answers.{IsEvaluateAnswer}
use Rattle.wh_maint.specs.Asked.{AreBags}
use Rattle.wh_maint.specs.Comp.{bag_at}
use Rattle.wh_maint.specs.View.{ViewGraph}
use Rattle.wh_maint.specs.Contents.{contents}
use Rattle.wh_maint.specs.Definition.{graph_of, view_of}
use Rattle.wh_maint.specs.Opening.{HaveContentsBelow}
use Rattle.wh_maint.specs.declared.fault.MaintFault.{MaintFault}

-- the tables of the views below this number are the contents of this base, and the others those of the base
pub record AreOpenedTo (g : ViewGraph) (base : ℕ → Bag) (n : ℕ) (tables : ℕ → Bag) : Type 0 where
  pub done : (v : ℕ) → v < n → tables v ≡ contents g base v
  pub rest : (v : ℕ) → n ≤ v → tables v ≡ base v
  pub valued : HaveContentsBelow g base n

-- the view may be evaluated over these tables, if it is derived
abbrev pub CanBeAsked : CatalogOf → List Bag → ℕ → Type 0
CanBeAsked c tables view = (view < length c.views.children) × AreBags c tables

-- what evaluating the view over these tables answers, where it is derived; of a base view it may be anything
abbrev pub IsAnswerOf : CatalogOf → (ℕ → Bag) → ℕ → Result Bag MaintFault → Type 0
IsAnswerOf c tables view answer =
    is_base c view ≡ false → IsEvaluateAnswer (view_of (definition_of c view)) (children_of c.views.children view) tables view answer

-- the answers of the views from this one on, in their order
abbrev pub AreAnswersFrom : CatalogOf → (ℕ → Bag) → ℕ → List (Result Bag MaintFault) → Type 0
AreAnswersFrom c tables view [] = Unit {0}
AreAnswersFrom c tables view (answer ∷ answers) = IsAnswerOf c tables view answer × AreAnswersFrom c tables (view + 1) answers

-- no view below the end has a child from the first view on: those from the first to the end do not wait for each other
pub record IsRun (c : CatalogOf) (first end : ℕ) : Type 0 where
  pub few : end ≤ length c.views.children
  pub apart : (view child : ℕ) → view < end → has (children_of c.views.children view) child ≡ true → child < first

-- the tables below this view are opened, and the answers ahead are of the views from it on over the contents
pub record StandsAt (c : CatalogOf) (base : ℕ → Bag) (view : ℕ) (tables : List Bag) (answers : List (Result Bag MaintFault)) : Type 0 where
  pub bags : AreBags c tables
  pub opened : AreOpenedTo (graph_of c) base view (bag_at tables)
  pub ahead : AreAnswersFrom c (contents (graph_of c) base) view answers
