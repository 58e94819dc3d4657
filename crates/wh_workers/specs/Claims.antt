-- The claim word: a number from which workers draw the numbers of jobs, and what each seat at it knows.
use Rattle.std.specs.Prelude.{◌≡◌, ℕ, ◌+◌, ◌-◌, ◌^◌, ◌<◌, ◌≤◌, ◌==◌, Bool, nat_lt, List, [], ◌∷◌, ◌++◌, if◌then◌else◌, length}
use Rattle.atomic_table.specs.Seated.{TableId}
use Rattle.atomic_table.specs.declared.shared.Seat.{Seat}
use Rattle.wh_workers.specs.declared.claim.Hand.{Hand}

abbrev pub hand : ℕ → ℕ → ℕ → List ℕ → Hand
hand jobs parts left drawn = record { jobs = jobs; parts = parts; left = left; drawn = drawn }

abbrev pub one_if : Bool → ℕ
one_if b = if b then 1 else 0

-- how often x stands in the list
abbrev pub times : ℕ → List ℕ → ℕ
times x [] = 0
times x (y ∷ ys) = one_if (x == y) + times x ys

abbrev pub once_below : ℕ → ℕ → ℕ
once_below x n = one_if (nat_lt x n)

-- A number was found that no seat had, so that it is at least as many as this one drew. It is a job's, or one worker more of this seat has
-- found that no job is left.
pub record Draws (v : Hand) (found : ℕ) (w : Hand) : Type 0 where
  pub fresh : length v.drawn ≤ found
  pub under : found < v.jobs → w ≡ hand v.jobs v.parts v.left (v.drawn ++ found ∷ [])
  pub past : v.jobs ≤ found → w ≡ hand v.jobs v.parts (v.left - 1) v.drawn

-- the seat drew the number of each job, once, and no other
abbrev pub Whole : Hand → Type 0
Whole v = (x : ℕ) → times x v.drawn ≡ once_below x v.jobs

-- the seat is at this word, which is for so many jobs
abbrev pub Knows : TableId → ℕ → Seat (Unit {0}) Hand → Type 0
Knows id n seat = (seat.table_id ≡ id) × (id.words ≡ 1) × (seat.me.1 ≡ []) × (seat.me.0.jobs ≡ n) × (n + 16 < 2 ^ 64)
