-- Tests of each member of a list, and what they tell.
use Rattle.std.proofs.Common.{◌≡◌, ℕ, ◌<◌, ◌≤◌, ◌↔◌, ◌&&◌, ◌==◌, Bool, true, false, List, [], ◌∷◌, map, refl, arith, Vec, IsTrue, All, nat_lt, nat_le}
use Rattle.std.specs.List.{list_all}
use Rattle.std.specs.declared.alloc.Global.{Global}
use Rattle.std.proofs.lemmas.List.Elements.{All-cons, All-tail, All-map}
use Rattle.std.proofs.lemmas.Bool.{lt-ltb, ltb-true, le-leb, leb-true, both_ways, and_parts, and_from}
use Rattle.std.proofs.lemmas.Bool.Decides.{Decides-eqb}
use Rattle.wh_formula.specs.Expr.{fits}
use Rattle.wh_formula.specs.Filter.{FilterOf}
use Rattle.wh_formula.specs.Pred as pred
use Rattle.wh_formula.specs.Combiner.{CombinerOf}
use Rattle.wh_dag.specs.Output.{exprs_of, IsOver, OfOneWidth}
use Rattle.wh_dag.specs.declared.output.Output.{Output}
use Rattle.wh_dag.specs.declared.output.Output.TheVariants.{Keep, Sums}

-- an answer at the end of `a && b`, where a holds and where it does not
pub when_true : {P : Type 0} (a b : Bool) → a ≡ true → (IsTrue (a && b) ↔ P) → IsTrue b ↔ P
when_true a b e h = (λ t. h.0 (and_from a b e t), λ p. (and_parts a b (h.1 p)).1)

pub when_false : {P : Type 0} (a b : Bool) → a ≡ false → (IsTrue (a && b) ↔ P) → IsTrue a ↔ P
when_false a b e h = (λ t. absurd (both_ways a e t), λ p. (and_parts a b (h.1 p)).0)

-- a test of all members tells what a test of one tells, of each
pub tested : {X : Type 0} (test : X → Bool) (P : X → Type 0) → ((x : X) → IsTrue (test x) ↔ P x) → (xs : List X) →
    IsTrue (list_all test xs) ↔ All P xs
tested test P h [] = (λ t k d l. absurd (omega arith), λ all. refl)
tested test P h (x ∷ xs) = (
  λ t.
      let b = and_parts (test x) (list_all test xs) t in
      All-cons P x xs ((h x).0 b.0) ((tested test P h xs).0 b.1),
  λ all. and_from (test x) (list_all test xs) ((h x).1 (all 0 x (omega arith))) ((tested test P h xs).1 (All-tail P x xs all)),
)

from_map : {X Y : Type 0} (P : Y → Type 0) (f : X → Y) (xs : List X) → All P (map f xs) → All (λ x. P (f x)) xs
from_map P f [] h = λ k d l. absurd (omega arith)
from_map P f (x ∷ xs) h =
    All-cons (λ y. P (f y)) x xs (h 0 (f x) (omega arith)) (from_map P f xs (All-tail P (f x) (map f xs) h))

lower : (width n : ℕ) → IsTrue (nat_lt n width) ↔ (n < width)
lower width n = (ltb-true n width, lt-ltb n width)

both_lower : (width : ℕ) (pair : ℕ × ℕ) →
    IsTrue (nat_lt pair.0 width && nat_lt pair.1 width) ↔ ((pair.0 < width) × (pair.1 < width))
both_lower width pair = (
  λ t.
      let b = and_parts _ _ t in
      (ltb-true pair.0 width b.0, ltb-true pair.1 width b.1),
  λ p. and_from _ _ (lt-ltb pair.0 width p.0) (lt-ltb pair.1 width p.1),
)

of_width : (width : ℕ) (c : CombinerOf) →
    IsTrue ((c.width == width) && fits width c.expr) ↔ ((c.width ≡ width) × IsTrue (fits width c.expr))
of_width width c = (
  λ t.
      let b = and_parts _ _ t in
      ((Decides-eqb c.width width).0 b.0, b.1),
  λ p. and_from _ _ ((Decides-eqb c.width width).1 p.0) p.1,
)

pub places_within : (width : ℕ) (places : List ℕ) →
    IsTrue (list_all (λ place. nat_lt place width) places) ↔ All (λ place. place < width) places
places_within width = tested _ _ (lower width)

pub pairs_within : (width : ℕ) (pairs : List (ℕ × ℕ)) →
    IsTrue (list_all (λ pair. nat_lt pair.0 width && nat_lt pair.1 width) pairs)
    ↔ All (λ pair. (pair.0 < width) × (pair.1 < width)) pairs
pairs_within width = tested _ _ (both_lower width)

pub combiners_over : (width : ℕ) (cs : List CombinerOf) →
    IsTrue (list_all (λ c. (c.width == width) && fits width c.expr) cs)
    ↔ (All (λ c. c.width ≡ width) cs × All (λ e. IsTrue (fits width e)) (exprs_of cs))
combiners_over width cs =
    let each = tested (λ c. (c.width == width) && fits width c.expr) (λ c. (c.width ≡ width) × IsTrue (fits width c.expr)) (of_width width) cs in (
      λ t. (
        λ k d l. (each.0 t k d l).0,
        All-map (λ e. IsTrue (fits width e)) (λ (c : CombinerOf). c.expr) cs (λ k d l. (each.0 t k d l).1),
      ),
      λ p. each.1 (λ k d l. (p.0 k d l, from_map (λ e. IsTrue (fits width e)) (λ (c : CombinerOf). c.expr) cs p.1 k d l)),
    )

pub kept_over : {G : Type 0} (width : ℕ) (kept : Vec CombinerOf Global) →
    IsTrue (list_all (λ c. (c.width == width) && fits width c.expr) kept.items) ↔ IsOver {G = G} width (Keep kept)
kept_over width kept =
    let each = combiners_over width kept.items in
    (λ t. record { combiners = (each.0 t).0; places = (each.0 t).1 }, λ over. each.1 (over.combiners, over.places))

pub summed_over : {G : Type 0} (width : ℕ) (group : Vec ℕ Global) (sums : Vec CombinerOf Global) →
    IsTrue (list_all (λ place. nat_lt place width) group.items && list_all (λ c. (c.width == width) && fits width c.expr) sums.items)
    ↔ IsOver {G = G} width (Sums group sums)
summed_over width group sums =
    let each = combiners_over width sums.items in
    let places = places_within width group.items in (
      λ t.
          let b = and_parts _ _ t in
          record { combiners = (each.0 b.1).0; places = (places.0 b.0, (each.0 b.1).1) },
      λ over. and_from _ _ (places.1 over.places.0) (each.1 (over.combiners, over.places.1)),
    )

-- parts are of one width where the places of the join lie in it and the output is over it
pub of_one_width : {G : Type 0} (join : List (ℕ × ℕ)) (filter : FilterOf) (out : Output G) →
    IsTrue (pred.fits filter.width filter.pred) →
    (IsTrue (list_all (λ pair. nat_lt pair.0 filter.width && nat_lt pair.1 filter.width) join) × IsOver filter.width out)
    ↔ OfOneWidth join filter out
of_one_width join filter out fit =
    let pairs = pairs_within filter.width join in (
      λ p. record { combiners = p.1.combiners; places = record { join = pairs.0 p.0; filter = fit; output = p.1.places } },
      λ one. (pairs.1 one.places.join, record { combiners = one.combiners; places = one.places.output }),
    )

-- no number of the list is over 64
pub small_columns : (xs : List ℕ) → IsTrue (list_all (λ n. nat_le n 64) xs) ↔ All (λ n. n ≤ 64) xs
small_columns xs = tested (λ n. nat_le n 64) (λ n. n ≤ 64) (λ n. (leb-true n 64, le-leb n 64)) xs
