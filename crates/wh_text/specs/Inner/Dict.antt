-- The numbers of texts: what only proofs and private contracts use.
use Rattle.std.specs.Prelude.{◌≡◌, ℕ, List, ◌++◌}

-- the list begins with these texts
pub record BeginsWith (first : List (List ℕ)) (texts : List (List ℕ)) : Type 0 where
  pub more : List (List ℕ)
  pub parts : texts ≡ first ++ more

-- the texts after begin with all that these begin with: each text keeps its number
abbrev pub Grows : List (List ℕ) → List (List ℕ) → Type 0
Grows texts after = (first : List (List ℕ)) → BeginsWith first texts → BeginsWith first after
