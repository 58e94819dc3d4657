-- A schedule as text: how large the machine is, and its events: what only proofs and private contracts use.
use Rattle.std.specs.Prelude.{◌≤◌, ℕ}

-- desks and workers are 1 to 16, the keys of a page 1 to 256, and the versions 2 to 4
pub record IsSized (desks workers keys versions : ℕ) : Type 0 where
  pub some_desks : 1 ≤ desks
  pub most_desks : desks ≤ 16
  pub some_workers : 1 ≤ workers
  pub most_workers : workers ≤ 16
  pub some_keys : 1 ≤ keys
  pub most_keys : keys ≤ 256
  pub some_versions : 2 ≤ versions
  pub most_versions : versions ≤ 4
