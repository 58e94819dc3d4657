-- Texts that are read one after the other.
use Rattle.std.proofs.Common.{◌≡◌, ℕ, List, [], ◌∷◌, ◌++◌, Option, Some, None, option_map, refl, append_assoc}

-- the texts of what is left, after those found
abbrev pub after_texts : List (List ℕ) → Option (List (List ℕ)) → Option (List (List ℕ))
after_texts found None = None
after_texts found (Some more) = Some (found ++ more)

pub after_texts-none_found : (rest : Option (List (List ℕ))) → after_texts [] rest ≡ rest
after_texts-none_found None = refl
after_texts-none_found (Some more) = refl

pub after_texts-more : (found : List (List ℕ)) (text : List ℕ) (rest : Option (List (List ℕ))) → after_texts found (option_map (λ texts. text ∷ texts) rest) ≡ after_texts (found ++ text ∷ []) rest
after_texts-more found text None = refl
after_texts-more found text (Some more) = rw append_assoc refl
