-- A shape as it is written: names, and for each view the names of those that it is over.
use Rattle.std.specs.Prelude.{ℕ, List, [], map, Option, Some, None, Vec, String, string_bytes, slice_index_or, Bool, position, unwrap_or}
use Rattle.std.specs.List.{list_any}
use Rattle.std.specs.Str.{bytes_eq}
use Rattle.std.specs.declared.alloc.Global.{Global}

-- texts as their bytes
abbrev pub texts : List (String Global) → List (List ℕ)
texts names = map string_bytes names

-- the names of a view's children as bytes, none where it is a base view
abbrev pub written_list : Option (Vec (String Global) Global) → Option (List (List ℕ))
written_list None = None
written_list (Some children) = Some (texts children.items)

-- for each view the names of its children
abbrev pub written : List (Option (Vec (String Global) Global)) → List (Option (List (List ℕ)))
written over = map written_list over

-- the name of the view of this number
abbrev pub name_of : List (List ℕ) → ℕ → List ℕ
name_of names view = slice_index_or names view []

-- the name stands in the list
abbrev pub is_named : List (List ℕ) → List ℕ → Bool
is_named names name = list_any (λ n. bytes_eq n name) names

-- the number of the first view of this name
abbrev pub number_of : List (List ℕ) → List ℕ → Option ℕ
number_of names name = position (λ n. bytes_eq n name) names

-- the numbers of the views of these names
abbrev pub numbers_of : List (List ℕ) → List (List ℕ) → List ℕ
numbers_of names children = map (λ child. unwrap_or (number_of names child) 0) children

-- the children of a view that is written so: none of a base view
abbrev pub children_written : List (List ℕ) → Option (List (List ℕ)) → List ℕ
children_written names None = []
children_written names (Some children) = numbers_of names children
