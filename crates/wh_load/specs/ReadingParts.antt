-- The parts of a bundle and their texts, up to the first fault.
use Rattle.std.specs.Prelude.{ℕ, List, Option, Some, None, Result, Ok, Err, ok_or, option_map}
use Rattle.wh_text.specs.declared.fault.LoadFault.{LoadFault}
use Rattle.wh_text.specs.declared.fault.LoadFault.TheVariants as fault
use Rattle.wh_text_bundle.specs.Bundle.{fault_of, parts_of}
use Rattle.wh_text_bundle.specs.Find.{found}
use Rattle.wh_text_bundle.specs.Heading.{word_of}
use Rattle.wh_text_bundle.specs.Text.{text_of}
use Rattle.wh_text_bundle.specs.declared.bundle.fault.Nights.{Nights}
use Rattle.wh_text_bundle.specs.declared.bundle.heading.Heading.{Heading}
use Rattle.wh_text_bundle.specs.declared.bundle.part.Part.{Part}

-- the fault that names this word, else the value
abbrev pub unless_part : {A : Type 0} → Option (List ℕ) → A → Result A LoadFault
unless_part None value = Ok value
unless_part (Some word) value = Err (fault.Part word)

-- the parts of a bundle of which these nights are read, or its first fault from the top
abbrev pub parts_in : Nights → List ℕ → Result (List Part) LoadFault
parts_in read bytes = unless_part (fault_of read bytes) (parts_of bytes)

-- the text of the part with this heading, which counts the nights from 0 where it may stand in each; one that is missing is
-- named by its first word
abbrev pub text_in : List Part → Heading → ℕ → Result (List ℕ) LoadFault
text_in parts heading night = ok_or (option_map text_of (found heading night parts)) (fault.Part (word_of heading))
