-- A value, or the fault that stands in its place.
use Rattle.std.specs.Prelude.{Option, Some, None, Result, Ok, Err}
use Rattle.wh_text.specs.declared.fault.LoadFault.{LoadFault}

-- what comes of the value, or the fault that stands in its place
infixl 10 ◌>>=◌
abbrev pub ◌>>=◌ : {A B : Type 0} → Result A LoadFault → (A → Result B LoadFault) → Result B LoadFault
Ok value >>= next = next value
Err fault >>= next = Err fault

-- the fault, if there is one, else the answer behind it
abbrev pub or_fault : {A : Type 0} → Option LoadFault → Result A LoadFault → Result A LoadFault
or_fault None other = other
or_fault (Some fault) other = Err fault
