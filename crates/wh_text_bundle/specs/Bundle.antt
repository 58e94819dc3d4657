-- The parts of a bundle, and the first fault from the top of its text.
use Rattle.std.specs.Prelude.{◌||◌, ℕ, Bool, true, false, not, List, [], ◌∷◌, ◌++◌, Option, Some, None, option_map, unwrap_or, codes, count_by, if◌then◌else◌}
use Rattle.std.specs.List.{list_any, after_last, cons_option}
use Rattle.std.specs.Str.{bytes_eq}
use Rattle.wh_text_bundle.specs.PartLine.{is_blank_text}
use Rattle.wh_text_bundle.specs.Cut.{RawPart, cut}
use Rattle.wh_text_bundle.specs.Heading.{heading_text, heading_of, fault_word, is_night, scope_of}
use Rattle.wh_text_bundle.specs.declared.bundle.heading.Heading.{Heading}
use Rattle.wh_text_bundle.specs.declared.bundle.heading.Heading.TheVariants.{Night}
use Rattle.wh_text_bundle.specs.declared.bundle.heading.Scope.{Scope}
use Rattle.wh_text_bundle.specs.declared.bundle.heading.Scope.TheVariants as scope
use Rattle.wh_text_bundle.specs.declared.bundle.part.Part.{Part}
use Rattle.wh_text_bundle.specs.declared.bundle.fault.Nights.{Nights}
use Rattle.wh_text_bundle.specs.declared.bundle.fault.Nights.TheVariants.{First, All}

-- the text of a part's heading
abbrev pub text_of_heading : RawPart → List ℕ
text_of_heading part = heading_text part.opening

-- the heading of a part, if it has one
abbrev pub heading_of_part : RawPart → Option Heading
heading_of_part part = heading_of (text_of_heading part)

-- the part opens a night
abbrev pub opens_night : RawPart → Bool
opens_night part = unwrap_or (option_map is_night (heading_of_part part)) false

-- the parts of the night that is open below some parts
abbrev pub tonight : List RawPart → List RawPart
tonight above = after_last opens_night above

-- the parts above among which a heading of this scope may not stand again
abbrev pub within_scope : Scope → List RawPart → List RawPart
within_scope scope.Bundle above = above
within_scope scope.Night above = tonight above
within_scope scope.Any above = []

-- the part has the heading of this text
abbrev pub is_headed : List ℕ → RawPart → Bool
is_headed text part = bytes_eq text (text_of_heading part)

-- the heading of this text stands above, within its scope
abbrev pub is_repeated : Heading → List ℕ → List RawPart → Bool
is_repeated heading text above = list_any (is_headed text) (within_scope (scope_of heading) above)

-- A night that is not read so. That is any further one where one is read, and one with lines that are not blank where all are.
abbrev pub is_bad_night : Nights → Heading → List ℕ → Bool
is_bad_night First Night body = true
is_bad_night All Night body = not (is_blank_text body)
is_bad_night _ _ _ = false

-- a part with this heading, if any, is at fault below others: it is unknown, repeated, or a night that is not read so
abbrev pub is_fault : Nights → List RawPart → RawPart → Option Heading → Bool
is_fault nights above part None = true
is_fault nights above part (Some heading) = is_repeated heading (text_of_heading part) above || is_bad_night nights heading part.body

-- the part is at fault below others
abbrev pub is_at_fault : Nights → List RawPart → RawPart → Bool
is_at_fault nights above part = is_fault nights above part (heading_of_part part)

-- the word of the first part at fault among those below others
abbrev pub first_fault : Nights → List RawPart → List RawPart → Option (List ℕ)
first_fault nights above [] = None
first_fault nights above (part ∷ parts) =
    if is_at_fault nights above part then Some (fault_word (text_of_heading part)) else first_fault nights (above ++ part ∷ []) parts

-- the word of the first fault of a bundle: text above its parts, or the first part at fault
abbrev pub fault_of : Nights → List ℕ → Option (List ℕ)
fault_of nights bytes =
    if is_blank_text (cut bytes).preface then first_fault nights [] (cut bytes).parts else Some (codes "text")

-- a part below others, where its heading is known; its night is how many were opened down to it
abbrev pub part_below : List RawPart → RawPart → Option Part
part_below above part =
    option_map (λ heading. record { heading = heading; night = count_by opens_night (above ++ part ∷ []); body = part.body }) (heading_of_part part)

-- the parts with a heading, among those below others
abbrev pub parts_below : List RawPart → List RawPart → List Part
parts_below above [] = []
parts_below above (part ∷ parts) = cons_option (part_below above part) (parts_below (above ++ part ∷ []) parts)

-- the parts of a bundle
abbrev pub parts_of : List ℕ → List Part
parts_of bytes = parts_below [] (cut bytes).parts
