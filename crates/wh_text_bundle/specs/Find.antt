-- Where a part is looked for.
use Rattle.std.specs.Prelude.{◌+◌, ◌==◌, ℕ, List, Option, find, filter, count_by}
use Rattle.wh_text_bundle.specs.Heading.{scope_of, is_night, same_heading}
use Rattle.wh_text_bundle.specs.declared.bundle.heading.Heading.{Heading}
use Rattle.wh_text_bundle.specs.declared.bundle.heading.Scope.{Scope}
use Rattle.wh_text_bundle.specs.declared.bundle.heading.Scope.TheVariants as scope
use Rattle.wh_text_bundle.specs.declared.bundle.part.Part.{Part}

-- the parts of a night
abbrev pub parts_of_night : ℕ → List Part → List Part
parts_of_night night parts = filter (λ p. p.night == night) parts

-- how many nights there are: one from the start, and one for each `@night`
abbrev pub nights_of : List Part → ℕ
nights_of parts = count_by (λ p. is_night p.heading) parts + 1

-- where a heading of this scope is looked for: in the bundle where it may stand once there, else in the night
abbrev pub searched : Scope → ℕ → List Part → List Part
searched scope.Bundle night parts = parts
searched scope.Night night parts = parts_of_night night parts
searched scope.Any night parts = parts_of_night night parts

-- the part with this heading
abbrev pub found : Heading → ℕ → List Part → Option Part
found heading night parts = find (λ p. same_heading p.heading heading) (searched (scope_of heading) night parts)
