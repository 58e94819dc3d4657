-- Each step at the store keeps its rule.
use Rattle.std.proofs.Common.{◌≡◌, ◌≢◌, ◌≤◌, ℕ, List, [], ◌∷◌, ◌++◌, fold, set, sym, refl, ap, subst, ◌∙◌, ⊎_elim, Option, Some, None}
use mathlib.Core.Option.{some}
use lib.ListN.{get_elem?}
use Rattle.left_right.specs.Register.{Admits, Turns, TurnsAt, Forks, Merges}
use Rattle.atomic_table.proofs.Lists.{at_set, at_snoc}
use Rattle.wh_store.specs.Laws.{WellFormedGoesOn, WindowsFollow}
use Rattle.wh_store.specs.Operations.{Operation, operation, Opens, Writes, Commits, Gives_up}
use Rattle.wh_store.specs.Refusals.{refusal}
use Rattle.wh_store.specs.Windows.{Shows, Window, applied}
use Rattle.wh_desk.specs.declared.kept.Kept.{Kept}
use Rattle.wh_desk.specs.declared.kept.Publication.{Publication}
use Rattle.wh_desk.specs.Known.{Begins, IsStory, Known, known}
use Rattle.wh_desk.specs.Rules.{Fits, Follows, IsCopy, Sees, taken_in}
use Rattle.wh_desk.specs.Inner.Rules.{Holds}
use Rattle.wh_desk.proofs.Prefixes.{prefix_self, prefix_trans}

abbrev Each : Known → List (Option Known) → Type 0
Each f views = (seat : ℕ) (v : Option Known) → get_elem? views seat ≡ some v → Fits f v

begins_self : (f : Known) → Begins f f
begins_self f = (refl, refl, prefix_self f.list)

pub begins_trans : (f g h : Known) → Begins f g → Begins g h → Begins f h
begins_trans f g h a b = (a.0 ∙ b.0, a.1 ∙ b.1, prefix_trans f.list g.list h.list a.2 b.2)

none_fits : (f : Known) → Fits f None
none_fits f k e = absurd (cc e)

self_fits : (f : Known) → Fits f (Some f)
self_fits f k e = let same : f ≡ k = cc e in subst (λ z. Begins z f) same (begins_self f)

snoc_each : (f : Known) (views : List (Option Known)) (w : Option Known) → Each f views → Fits f w → Each f (views ++ w ∷ [])
snoc_each f views w each fits seat v at = ⊎_elim (each seat v) (λ (e : w ≡ v). subst (Fits f) e fits) (at_snoc views w v seat at)

set_each : (f : Known) (views : List (Option Known)) (seat : ℕ) (w : Option Known) → Each f views → Fits f w → Each f (set views seat w)
set_each f views seat w each fits j v at =
    ⊎_elim (λ (t : (j ≡ seat) × (w ≡ v)). subst (Fits f) t.1 fits) (λ (t : (j ≢ seat) × (get_elem? views j ≡ some v)). each j v t.1) (at_set views seat j w v at)

-- what began a list begins each that goes on from it
more_each : (f g : Known) (views : List (Option Known)) → Begins f g → Each f views → Each g views
more_each f g views longer each seat v at k e = begins_trans k f g (each seat v at k e) longer

pub admits : Admits Holds None
admits x views h = record { copy = h.copy; each = snoc_each x.front views None h.each (none_fits x.front) }

-- a copy with one place that knows nothing
pub holds_first : (x : Kept) → IsCopy x → Holds x (None ∷ [])
holds_first x is = record { copy = is; each = snoc_each x.front [] None (λ seat v at. absurd (cc at)) (none_fits x.front) }

pub enters : (seat : ℕ) (v : Option Known) → Turns Holds seat v (λ x. x) (λ v x y w. Sees v x w)
enters seat v x views h at = (
  Some x.front,
  record { copy = h.copy; each = set_each x.front views seat (Some x.front) h.each (self_fits x.front) },
  (h.each seat v at, h.copy, refl),
)

pub forks : (seat : ℕ) (v : Option Known) → Forks Holds seat v v v
forks seat v x views h at = record {
  copy = h.copy;
  each = snoc_each x.front (set views seat v) v (set_each x.front views seat v h.each (h.each seat v at)) (h.each seat v at);
}

pub merges : (seat : ℕ) (v : Option Known) (other : ℕ) (w : Option Known) → Merges Holds seat v other w w None
merges seat v other w x views h at apart there =
    let was : get_elem? views other ≡ some w = ⊎_elim (λ (t : (other ≡ seat) × (w ≡ w)). absurd (apart t.0)) (λ (t : (other ≢ seat) × (get_elem? views other ≡ some w)). t.1) (at_set views seat other w w there) in record {
      copy = h.copy;
      each = set_each x.front (set views seat w) other None (set_each x.front views seat w h.each (h.each other w was)) (none_fits x.front);
    }

limit_stays : (w : Window) (op : Operation) → (applied w op).limit ≡ w.limit
limit_stays w Opens = refl
limit_stays w (Writes view rows) = refl
limit_stays w Commits = refl
limit_stays w Gives_up = refl

shows : (x : Kept) → IsCopy x → Shows x.store x.front.of.opening x.front.list
shows x copy = copy.1

-- a list that is shown, with an operation that is not refused
pub story_next : WellFormedGoesOn → (x : Kept) (op : Operation) → IsCopy x → refusal x.store op ≡ None → IsStory (known x.front.book x.front.of (x.front.list ++ op ∷ []))
story_next goes_on x op copy free = (copy.2.0, goes_on x.store x.front.of.opening x.front.list op copy.2.1 (shows x copy) free)

-- a copy that takes in an operation that is not refused is a copy
pub copy_next : WindowsFollow → WellFormedGoesOn → (x : Kept) (p : Publication) → IsCopy x → p.front ≡ known x.front.book x.front.of (x.front.list ++ (operation p.op) ∷ [])
    → refusal x.store (operation p.op) ≡ None → IsCopy (taken_in x p)
copy_next follow goes_on x p copy next free =
    let opening = x.front.of.opening in
    let op = operation p.op in
    let limit : x.store.limit ≡ x.front.of.limit = copy.0 in
    let enough : 2 ≤ x.store.limit = subst (λ n. 2 ≤ n) (sym limit) copy.2.0 in
    let is = follow x.store opening x.front.list op enough (shows x copy) free in (
      limit_stays x.store op ∙ limit ∙ ap (λ (k : Known). k.of.limit) (sym next),
      subst (λ (k : Known). Shows (applied x.store op) k.of.opening k.list) (sym next) is,
      subst IsStory (sym next) (story_next goes_on x op copy free),
    )

-- the writer shows a copy that goes on from what was shown
shows_next : (seat : ℕ) (v : Option Known) (x y : Kept) → (IsCopy x → IsCopy y) → Begins x.front y.front → TurnsAt Holds seat v x y (λ v x y w. w ≡ Some y.front)
shows_next seat v x y is longer views h at = (
  Some y.front,
  record { copy = is h.copy; each = set_each y.front views seat (Some y.front) (more_each x.front y.front views longer h.each) (self_fits y.front) },
  refl,
)

next_begins : (x : Kept) (p : Publication) → p.front ≡ known x.front.book x.front.of (x.front.list ++ (operation p.op) ∷ []) → Begins x.front p.front
next_begins x p next = subst (Begins x.front) (sym next) (refl, refl, (operation p.op ∷ [], refl))

pub puts : WindowsFollow → WellFormedGoesOn → (seat : ℕ) (v : Option Known) (x y : Kept) (ps : List Publication) → Follows x ps → y ≡ fold taken_in x ps
    → TurnsAt Holds seat v x y (λ v x y w. w ≡ Some y.front)
puts follow goes_on seat v x y [] ok is =
    shows_next seat v x y (subst IsCopy (sym is)) (subst (λ (k : Kept). Begins x.front k.front) (sym is) (begins_self x.front))
puts follow goes_on seat v x y (p ∷ []) ok is =
    shows_next seat v x y (λ copy. subst IsCopy (sym is) (copy_next follow goes_on x p copy ok.0 ok.1))
    (subst (λ (k : Kept). Begins x.front k.front) (sym is) (next_begins x p ok.0))
puts follow goes_on seat v x y (p ∷ q ∷ ps) ok is = absurd ok
