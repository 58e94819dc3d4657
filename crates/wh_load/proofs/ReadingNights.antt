-- The texts of the strategies of all nights, one after another.
use Rattle.std.proofs.Common.{◌≡◌, ℕ, suc, ◌+◌, ◌-◌, ◌<◌, List, [], ◌∷◌, ◌++◌, length, ◌⊎◌, inl, inr, ap, ◌∙◌, arith}
use Rattle.std.specs.Prelude.{Result, Ok, Err}
use Rattle.wh_text.specs.declared.fault.LoadFault.{LoadFault}
use Rattle.wh_text.specs.declared.fault.LoadFault.TheVariants.{Memory}
use Rattle.wh_text_bundle.specs.declared.bundle.heading.Heading.TheVariants as heading
use Rattle.wh_text_bundle.specs.declared.bundle.part.Part.{Part}
use Rattle.wh_text_catalogue.specs.Catalogue.{◌>>=◌}
use Rattle.wh_load.specs.ReadingParts.{text_in}
use Rattle.wh_load.specs.ReadingReplay.{strategies_after, strategies_in}

one_night_less : (night end : ℕ) → night < end → end - night ≡ suc (end - (night + 1))
one_night_less night end l = omega (arith, l)

-- a night is left
a_night_left : (parts : List Part) (before : List (List ℕ)) (night end : ℕ) (own : Result (List ℕ) LoadFault) → night < end → length before ≡ night → text_in parts heading.Strategy night ≡ own
    → strategies_after parts before (end - night) ≡ (own >>= (λ text. strategies_after parts (before ++ text ∷ []) (end - (night + 1))))
a_night_left parts before night end own l same read =
    ap (strategies_after parts before) (one_night_less night end l)
    ∙ ap (λ (first : Result (List ℕ) LoadFault). first >>= (λ text. strategies_after parts (before ++ text ∷ []) (end - (night + 1)))) (ap (text_in parts heading.Strategy) same ∙ read)

pub next_strategy : (parts : List Part) (before : List (List ℕ)) (night end : ℕ) (own : List ℕ) → night < end → length before ≡ night → text_in parts heading.Strategy night ≡ Ok own
    → strategies_after parts before (end - night) ≡ strategies_after parts (before ++ own ∷ []) (end - (night + 1))
next_strategy parts before night end own l same read = a_night_left parts before night end (Ok own) l same read

pub no_strategy : (parts : List Part) (before : List (List ℕ)) (night end : ℕ) (f : LoadFault) → night < end → length before ≡ night → strategies_in parts ≡ strategies_after parts before (end - night)
    → (f ≡ Memory) ⊎ (text_in parts heading.Strategy night ≡ Err f) → (f ≡ Memory) ⊎ (strategies_in parts ≡ Err f)
no_strategy parts before night end f l same read (inl memory) = inl memory
no_strategy parts before night end f l same read (inr missing) = inr (read ∙ a_night_left parts before night end (Err f) l same missing)
