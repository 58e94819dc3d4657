-- What is told of a bundle that is not read.
use Rattle.std.specs.Prelude.{◌≡◌, ℕ, List, Option, Some}
use Rattle.wh_text_bundle.specs.declared.bundle.fault.PartFault.{PartFault}
use Rattle.wh_text_bundle.specs.declared.bundle.fault.PartFault.TheVariants.{Part, Memory}

-- a fault that was answered is the one of this word, unless memory ran out
abbrev pub Names : PartFault → Option (List ℕ) → Type 0
Names (Part word) fault = fault ≡ Some word
Names Memory fault = Unit {0}

-- the fault's number among the faults of an input
abbrev pub number_of_part_fault : PartFault → ℕ
number_of_part_fault (Part word) = 12
number_of_part_fault Memory = 11
