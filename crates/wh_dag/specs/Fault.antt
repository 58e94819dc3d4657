-- The faults of a written shape, and which of them is the first.
use Rattle.std.specs.Prelude.{ℕ, ◌+◌, List, [], ◌∷◌, ◌++◌, length, take, Option, Some, None, if◌then◌else◌, nat_lt, nat_le}
use Rattle.wh_dag.specs.Written.{name_of, is_named, number_of}
use Rattle.wh_dag.specs.declared.fault.ShapeFault.{ShapeFault}
use Rattle.wh_dag.specs.declared.fault.ShapeFault.TheVariants.{Duplicate, Unknown, Forward, Repeated, TooMany, EmptyOver, Memory}

-- the first of two faults
abbrev pub or_else : Option ShapeFault → Option ShapeFault → Option ShapeFault
or_else None next = next
or_else (Some fault) next = Some fault

-- what is wrong with a child of the view, by the number of the first view of its name, after children of these names
abbrev pub place_fault : ℕ → List (List ℕ) → List ℕ → Option ℕ → Option ShapeFault
place_fault view before child None = Some (Unknown view child)
place_fault view before child (Some number) =
    if nat_le view number then Some (Forward view child)
    else (if is_named before child then Some (Repeated view child) else None)

-- what is wrong with a child of the view, after children of these names
abbrev pub child_fault : List (List ℕ) → ℕ → List (List ℕ) → List ℕ → Option ShapeFault
child_fault names view before child = place_fault view before child (number_of names child)

-- the first fault among these children, after children of those names
abbrev pub children_fault : List (List ℕ) → ℕ → List (List ℕ) → List (List ℕ) → Option ShapeFault
children_fault names view before [] = None
children_fault names view before (child ∷ rest) =
    or_else (child_fault names view before child) (children_fault names view (before ++ child ∷ []) rest)

-- the first fault of what the view is over: nothing at all, too many, or a child
abbrev pub over_fault : List (List ℕ) → ℕ → Option (List (List ℕ)) → Option ShapeFault
over_fault names view None = None
over_fault names view (Some []) = Some (EmptyOver view (name_of names view))
over_fault names view (Some (child ∷ rest)) =
    if nat_lt 6 (length (child ∷ rest)) then Some (TooMany view (name_of names view))
    else children_fault names view [] (child ∷ rest)

-- the first fault of a view: it is the 65th, an earlier view has its name, or what it is over
abbrev pub view_fault : List (List ℕ) → ℕ → Option (List (List ℕ)) → Option ShapeFault
view_fault names view over =
    if nat_le 64 view then Some (TooMany view (name_of names view))
    else (if is_named (take view names) (name_of names view) then Some (Duplicate view (name_of names view))
    else over_fault names view over)

-- the first fault among the views from this number on
abbrev pub fault_from : List (List ℕ) → ℕ → List (Option (List (List ℕ))) → Option ShapeFault
fault_from names view [] = None
fault_from names view (own ∷ rest) = or_else (view_fault names view own) (fault_from names (view + 1) rest)

-- the first fault of a written shape, view by view
abbrev pub first_fault : List (List ℕ) → List (Option (List (List ℕ))) → Option ShapeFault
first_fault names over = fault_from names 0 over

-- the number of a refusal, by its kind, from 1
abbrev pub fault_number : ShapeFault → ℕ
fault_number (Duplicate view name) = 1
fault_number (Unknown view child) = 2
fault_number (Forward view child) = 3
fault_number (Repeated view child) = 4
fault_number (TooMany view name) = 5
fault_number (EmptyOver view name) = 6
fault_number Memory = 7
