-- What the parts of a later night give, over views, texts and a strategy that stand.
use Rattle.std.specs.Prelude.{ℕ, List, Bool, true, false, Option, find, not, ok_or, option_map, Result}
use Rattle.std.specs.Option.{option_or}
use Rattle.wh_text.specs.declared.fault.LoadFault.{LoadFault}
use Rattle.wh_text.specs.declared.fault.LoadFault.TheVariants as fault
use Rattle.wh_text_bundle.specs.Find.{found}
use Rattle.wh_text_bundle.specs.Heading.{word_of}
use Rattle.wh_text_bundle.specs.Text.{text_of}
use Rattle.wh_text_bundle.specs.declared.bundle.fault.Nights.TheVariants as nights
use Rattle.wh_text_bundle.specs.declared.bundle.heading.Heading.{Heading}
use Rattle.wh_text_bundle.specs.declared.bundle.heading.Heading.TheVariants as heading
use Rattle.wh_text_bundle.specs.declared.bundle.part.Part.{Part}
use Rattle.wh_text_catalogue.specs.Catalogue.{◌>>=◌}
use Rattle.wh_text_catalogue.specs.Definitions.{ViewOf}
use Rattle.wh_text_catalogue.specs.FormulaKinds.{Texts}
use Rattle.wh_text_tables.specs.TableText.{or_fault}
use Rattle.wh_load.specs.ReadingNight.{GivenNight, given_of, is_base_name}
use Rattle.wh_load.specs.ReadingParts.{parts_in}

-- a later night has no part with this heading: it has changes of base views, and a strategy
abbrev pub is_foreign : List (List ℕ) → List ViewOf → Heading → Bool
is_foreign names views heading.Strategy = false
is_foreign names views (heading.Changes name) = not (is_base_name names views name)
is_foreign names views _ = true

-- the first part that no later night has is a fault
abbrev pub first_foreign : List (List ℕ) → List ViewOf → List Part → Option LoadFault
first_foreign names views parts = option_map (λ part. fault.Part (word_of part.heading)) (find (λ part. is_foreign names views part.heading) parts)

-- the text of the night's strategy, else of the one that stands, else the part is missing
abbrev pub strategy_in : List Part → Option (List ℕ) → Result (List ℕ) LoadFault
strategy_in parts standing = ok_or (option_or (option_map text_of (found heading.Strategy 0 parts)) standing) (fault.Part (word_of heading.Strategy))

-- what the parts give, and the texts after them; or their first fault: a strategy that is missing, a part that no later night has, then
-- the faults of the changes and of the strategy
abbrev pub later_in : List (List ℕ) → List ViewOf → Option (List ℕ) → Texts → List Part → Result (GivenNight × Texts) LoadFault
later_in names views standing texts parts = do
  strategy ← strategy_in parts standing
  or_fault (first_foreign names views parts) (given_of parts names views 0 strategy texts)

-- what the bytes of a later night give, and the texts after them; or their first fault
abbrev pub later_of : List (List ℕ) → List ViewOf → Option (List ℕ) → Texts → List ℕ → Result (GivenNight × Texts) LoadFault
later_of names views standing texts bytes = parts_in nights.First bytes >>= later_in names views standing texts
