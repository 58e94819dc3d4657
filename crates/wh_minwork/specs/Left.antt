-- The nodes that are left while a graph is sorted, with edges that sets of views tell.
use Rattle.std.specs.Prelude.{◌≡◌, ℕ, ◌⊎◌}
use Rattle.wh_dag.specs.declared.siblings.Couple.{Couple}

-- the two views are those of the couple
abbrev pub AreOf : Couple → ℕ → ℕ → Type 0
AreOf couple u w = ((couple.lower ≡ u) × (couple.higher ≡ w)) ⊎ ((couple.lower ≡ w) × (couple.higher ≡ u))
