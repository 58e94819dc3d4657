-- The versions that a list of operations makes: the contents of each, the newest first, and in a night what is being written.
use Rattle.std.specs.Prelude.{ℕ, ◌+◌, ◌-◌, List, [], ◌∷◌, length, slice_set, slice_index_or, Option, Some, None, is_some, unwrap_or, option_map, Bool, true, false, not, nat_le, nat_lt, ◌&&◌, if◌then◌else◌}
use Rattle.wh_row.specs.Bag.{Bag, empty}
use Rattle.wh_row.specs.Weigh.{Counted}
use Rattle.wh_store.specs.Operations.{Operation, Opens, Writes, Commits, Gives_up}
use Rattle.wh_store.specs.Pages.{Contents, is_page, with_counts}

-- the contents of the current version and of those before it, the newest first, and those that an open night is writing
pub record Versions : Type 0 where
  pub newest : Contents
  pub older : List Contents
  pub draft : Option Contents

-- the table of a view in contents
abbrev pub table_in : Contents → ℕ → Bag
table_in contents view = slice_index_or contents view empty

-- contents with these counts written over the table of a view
abbrev pub written_over : ℕ → Counted → Contents → Contents
written_over view rows contents = slice_set contents view (with_counts (table_in contents view) rows)

-- what stands after one operation more: a commit makes the contents that were written the newest, and a night that is given up makes the newest again
abbrev pub after : Versions → Operation → Versions
after v Opens = record { newest = v.newest; older = v.older; draft = Some v.newest }
after v (Writes view rows) = record { newest = v.newest; older = v.older; draft = option_map (written_over view rows) v.draft }
after v Commits = record { newest = unwrap_or v.draft v.newest; older = v.newest ∷ v.older; draft = None }
after v Gives_up = record { newest = v.newest; older = v.newest ∷ v.older; draft = None }

-- the opening contents alone, as version 0
abbrev pub opened : Contents → Versions
opened opening = record { newest = opening; older = []; draft = None }

abbrev pub versions_from : Versions → List Operation → Versions
versions_from v [] = v
versions_from v (op ∷ ops) = versions_from (after v op) ops

-- the versions that operations make of the opening contents
abbrev pub versions_of : Contents → List Operation → Versions
versions_of opening ops = versions_from (opened opening) ops

-- the number of the current version, the opening contents being version 0
abbrev pub number : Versions → ℕ
number v = length v.older

-- a night is open
abbrev pub is_active : Versions → Bool
is_active v = is_some v.draft

-- the contents of a version that is there
abbrev pub version : Versions → ℕ → Contents
version v s = slice_index_or (v.newest ∷ v.older) (number v - s) []

-- the table of a view in a version
abbrev pub table_of : Versions → ℕ → ℕ → Bag
table_of v s view = table_in (version v s) view

-- of how many versions sessions can be read, where n are kept: of one less while a night is open
abbrev pub kept_count : ℕ → Bool → ℕ
kept_count n active = if active then n - 1 else n

-- a session of version s can be read, where n versions are kept, and this one is current: s is the current version or one of the kept ones before it
abbrev pub is_unexpired : ℕ → ℕ → Bool → ℕ → Bool
is_unexpired n current active s = nat_le s current && nat_lt current (s + kept_count n active)

-- the operation may come where a night is open, or where none is
abbrev pub may_come : ℕ → Bool → Operation → Bool
may_come views active Opens = not active
may_come views active (Writes view rows) = active && nat_lt view views && is_page rows
may_come views active Commits = active
may_come views active Gives_up = active

-- a night is open after this operation
abbrev pub opens : Bool → Operation → Bool
opens active Opens = true
opens active (Writes view rows) = active
opens active Commits = false
opens active Gives_up = false

-- each operation may come where it stands
abbrev pub is_well_formed_from : ℕ → Bool → List Operation → Bool
is_well_formed_from views active [] = true
is_well_formed_from views active (op ∷ ops) = may_come views active op && is_well_formed_from views (opens active op) ops

-- operations over so many views, of which each may come where it stands: a night begins where none is open, and what else is done is done in one
abbrev pub is_well_formed : ℕ → List Operation → Bool
is_well_formed views ops = is_well_formed_from views false ops
