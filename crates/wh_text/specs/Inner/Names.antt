-- The numbers of views, looked up by name.
use Rattle.std.specs.Prelude.{◌≡◌, ℕ, List, String}
use Rattle.std.specs.declared.alloc.Global.{Global}
use Rattle.wh_dag.specs.Written.{number_of}
use Rattle.indexmap.specs.IndexMap.{IndexMap, get_by_text}

-- the table has each name with the number of the first view of that name, and no other text
abbrev pub IsIndex : {S : Type 0} → IndexMap (String Global) ℕ S → List (List ℕ) → Type 0
IsIndex numbers names = (word : List ℕ) → get_by_text numbers word ≡ number_of names word
