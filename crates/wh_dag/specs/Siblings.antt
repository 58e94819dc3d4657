-- Views with a common parent.
use Rattle.std.specs.Prelude.{◌≡◌, ◌≢◌, ℕ, List, length, filter, map, flat_map, Bool, true, ◌&&◌, nat_lt}
use Rattle.std.specs.List.{list_any, range_with_len}
use Rattle.wh_dag.specs.Shape.{has, children_of}
use Rattle.wh_dag.specs.declared.siblings.Couple.{Couple}
use Rattle.wh_dag.specs.declared.siblings.SiblingPair.{SiblingPair}

-- what is made of the numbers from 0 up to this bound, one after another
unfoldable pub each_below : {A : Type 0} → (ℕ → List A) → ℕ → List A
each_below f n = flat_map f (range_with_len 0 n)

-- both stand among the children of the parent, the first with the lower number
abbrev pub is_sibling_pair : List (List ℕ) → SiblingPair → Bool
is_sibling_pair shape pair =
    nat_lt pair.lower pair.higher && (has (children_of shape pair.parent) pair.lower && has (children_of shape pair.parent) pair.higher)

-- all (parent, lower, higher) of this parent and this lower number, the higher one below n, rising
abbrev pub triples_with : ℕ → ℕ → ℕ → List SiblingPair
triples_with parent lower n = map (λ higher. record { parent = parent; lower = lower; higher = higher }) (range_with_len 0 n)

-- all (parent, lower, higher) of this parent, the others below n, rising by lower, then by higher number
abbrev pub triples_of : ℕ → ℕ → List SiblingPair
triples_of parent n = each_below (λ lower. triples_with parent lower n) n

-- all (parent, lower, higher) of numbers below n, rising by parent, then by lower, then by higher number
abbrev pub triples_below : ℕ → List SiblingPair
triples_below n = each_below (λ parent. triples_of parent n) n

-- the sibling pairs of a shape, rising
unfoldable pub sibling_pairs_of : List (List ℕ) → List SiblingPair
sibling_pairs_of shape = filter (is_sibling_pair shape) (triples_below (length shape))

-- a view is over both of these
unfoldable pub have_parent : List (List ℕ) → ℕ → ℕ → Bool
have_parent shape u w = list_any (λ own. has own u && has own w) shape

-- a couple: two views that have a common parent
abbrev pub IsCouple : List (List ℕ) → ℕ → ℕ → Type 0
IsCouple shape u w = (u ≢ w) × (have_parent shape u w ≡ true)

-- a couple, the lower number first
abbrev pub is_couple : List (List ℕ) → Couple → Bool
is_couple shape couple = nat_lt couple.lower couple.higher && have_parent shape couple.lower couple.higher

-- all (lower, higher) of this lower number, the higher one below n, rising
abbrev pub pairs_with : ℕ → ℕ → List Couple
pairs_with lower n = map (λ higher. record { lower = lower; higher = higher }) (range_with_len 0 n)

-- all (lower, higher) of numbers below n, rising by lower, then by higher number
abbrev pub pairs_below : ℕ → List Couple
pairs_below n = each_below (λ lower. pairs_with lower n) n

-- the couples of a shape, each once, rising
unfoldable pub couples_of : List (List ℕ) → List Couple
couples_of shape = filter (is_couple shape) (pairs_below (length shape))
