-- What `night` prints for the bytes of a bundle, and the status that it ends with: what only proofs and private contracts use.
use Rattle.std.specs.Prelude.{◌≡◌, ◌≢◌, ◌<◌, ℕ, List, None, IfSome, length, slice_get}
use Rattle.wh_dag.specs.Shape.{Views}
use Rattle.wh_text_catalogue.specs.Definitions.{ViewOf}
use Rattle.whview.specs.declared.night.Outcome.{Outcome}
use Rattle.whview.specs.declared.night.Outcome.TheVariants.{Carried}
use Rattle.whview.specs.declared.night.shown.Shown.{Shown}
use Rattle.whview.specs.declared.night.shown.Shown.TheVariants.{ChangesOf, NewTables}

-- this holds at each derived view of a number below this one
abbrev pub AtDerivedBelow : ℕ → List ViewOf → (ℕ → Type 0) → Type 0
AtDerivedBelow end views P = (number : ℕ) → number < end → IfSome (slice_get views number) (λ view. view.definition ≢ None → P number)

-- where changes are shown there is one of each view
abbrev pub IsShownWhole : Views → Shown → Type 0
IsShownWhole shape NewTables = Unit {0}
IsShownWhole shape (ChangesOf changes) = length changes.items ≡ length shape.children

-- what is to be shown over this shape has its views and a table of each, and is the first that comes after what was read
abbrev pub IsWhole : Views → Outcome → Type 0
IsWhole shape (Carried views texts carried shown) =
    (length views.items ≡ length shape.children) × (length carried.tables.items ≡ length shape.children) × (carried.report.version ≡ 1) × IsShownWhole shape shown
IsWhole shape outcome = Unit {0}
