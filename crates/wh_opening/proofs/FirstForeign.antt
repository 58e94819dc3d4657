-- The first part that no opening has is named by its word.
use Rattle.std.proofs.Common.{◌≡◌, ℕ, List, Some, ap, sym, ◌∙◌}
use Rattle.std.specs.Prelude.{find, option_map}
use Rattle.wh_text.specs.declared.fault.LoadFault.TheVariants as fault
use Rattle.wh_text_bundle.specs.Heading.{word_of}
use Rattle.wh_text_bundle.specs.declared.bundle.part.Part.{Part}
use Rattle.wh_text_catalogue.specs.Definitions.{ViewOf}
use Rattle.wh_opening.specs.OpeningRead.{first_foreign, is_foreign}

pub foreign_named : (names : List (List ℕ)) (views : List ViewOf) (parts : List Part) (part : Part) (word : List ℕ) → Some part ≡ find (λ part. is_foreign names views part.heading) parts → word ≡ word_of part.heading
    → first_foreign names views parts ≡ Some (fault.Part word)
foreign_named names views parts part word found named = ap (option_map (λ part. fault.Part (word_of part.heading))) (sym found) ∙ ap (λ word. Some (fault.Part word)) (sym named)
