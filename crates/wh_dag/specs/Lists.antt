-- Lists of numbers in memory.
use Rattle.std.specs.Prelude.{ℕ, List, map, Vec}
use Rattle.std.specs.declared.alloc.Global.{Global}

-- what the inner vectors hold
abbrev pub lists_of : List (Vec ℕ Global) → List (List ℕ)
lists_of lists = map (λ list. list.items) lists
