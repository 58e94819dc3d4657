-- The rule of the published store.
use Rattle.std.specs.Prelude.{◌≡◌, List, [], ◌∷◌, ◌++◌, Option, Some, None}
use Rattle.wh_store.specs.Operations.{operation}
use Rattle.wh_store.specs.Refusals.{refusal}
use Rattle.wh_store.specs.Windows.{Shows, applied}
use Rattle.wh_desk.specs.declared.kept.Kept.{Kept}
use Rattle.wh_desk.specs.declared.kept.Publication.{Publication}
use Rattle.wh_desk.specs.Known.{Known, known, Begins, IsStory}

-- what becomes of a copy at an operation
abbrev pub taken_in : Kept → Publication → Kept
taken_in k p = record { store = applied k.store (operation p.op); front = p.front }

-- the store shows the list that stands beside it
abbrev pub IsCopy : Kept → Type 0
IsCopy x = (x.store.limit ≡ x.front.of.limit) × Shows x.store x.front.of.opening x.front.list × IsStory x.front

-- what a place knows, if anything, is a beginning of f
abbrev pub Fits : Known → Option Known → Type 0
Fits f v = (k : Known) → v ≡ Some k → Begins k f

-- what was known begins what is seen, which the store shows
abbrev pub Sees : Option Known → Kept → Option Known → Type 0
Sees v x w = Fits x.front v × IsCopy x × (w ≡ Some x.front)

-- nothing waits, or one operation that goes on from the published list, and is not refused after it
abbrev pub Follows : Kept → List Publication → Type 0
Follows x [] = Unit {0}
Follows x (p ∷ []) =
    (p.front ≡ known x.front.book x.front.of (x.front.list ++ operation p.op ∷ [])) × (refusal x.store (operation p.op) ≡ None)
Follows x (p ∷ q ∷ ps) = ⊥
