-- How many rows all tables of the current version have, and which versions can be read.
use Rattle.std.specs.Prelude.{ℕ, ◌-◌, ◌&&◌, nat_le, Bool, List, [], ◌∷◌, ◌++◌, map, cond}
use Rattle.wh_row.specs.Bag.{size}
use Rattle.wh_store.specs.Pages.{Contents}
use Rattle.wh_store.specs.Versions.{is_active, is_unexpired, number}
use Rattle.wh_core.specs.Log.{Log}
use Rattle.wh_core.specs.Nights.{Setup, versions}

-- how many rows the table of each view has, each row as often as it counts
abbrev pub sizes_of : Contents → List ℕ
sizes_of contents = map size contents

-- the version so many before the current one, where there is one and sessions of it can be read
abbrev pub kept_before : ℕ → ℕ → Bool → ℕ → List ℕ
kept_before kept current active back = cond (nat_le back current && is_unexpired kept current active (current - back)) ((current - back) ∷ []) []

-- the versions that sessions can be read of, the current one last: no more than four are kept
abbrev pub readable : ℕ → ℕ → Bool → List ℕ
readable kept current active =
    kept_before kept current active 3 ++ kept_before kept current active 2 ++ kept_before kept current active 1 ++ kept_before kept current active 0

-- after what was done: how many rows the tables of the current version have, and the versions that can be read
abbrev pub sizes_now : Setup → Log → List ℕ
sizes_now s log = sizes_of (versions s log).newest

abbrev pub readable_now : Setup → Log → List ℕ
readable_now s log = readable s.versions (number (versions s log)) (is_active (versions s log))
