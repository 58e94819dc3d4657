-- Records in parts: what only proofs and private contracts use.
use Rattle.std.specs.Prelude.{◌≡◌, ℕ, List, Option, IfSome, unsigned_abs}
use Rattle.std.specs.Borrow.{Bor}
use Rattle.std.specs.List.{flat_map, sum_by, AllZip}
use Rattle.wh_row.specs.Weigh.{Counted}
use Rattle.wh_row.specs.Bag.{Bag, bag_of}

-- the sum of the absolute counts
abbrev pub weight : Counted → ℕ
weight es = sum_by (λ e. unsigned_abs e.1) es

-- each is the bag of the records in its place, or none
abbrev pub AreBagsOf : List Counted → List (Option Bag) → Type 0
AreBagsOf lists bags = AllZip (λ records bag. IfSome bag (λ bag. bag ≡ bag_of records)) lists bags

-- the parts of all groups, those of a group behind those of the group before
abbrev pub grouped : List (Bor (List Counted)) → List Counted
grouped groups = flat_map (λ group. group.now) groups
