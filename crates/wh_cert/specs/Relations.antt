-- Relations between views, as tables that a program looks up.
use Rattle.std.specs.Prelude.{ℕ, ◌+◌, ◌*◌, List, slice_index_or, Bool, false, ◌&&◌, nat_lt}

-- the table has the two views, in this order: the row of u begins at 64 * u
unfoldable pub related : List Bool → ℕ → ℕ → Bool
related cells u w = nat_lt u 64 && (nat_lt w 64 && slice_index_or cells (64 * u + w) false)
