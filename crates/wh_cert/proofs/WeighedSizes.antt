-- What the limits of rows mean for what views count as.
use Rattle.std.proofs.Common.{ℕ, ◌+◌, ◌*◌, ◌^◌, ◌≤◌, List, sym, subst, ⊎_elim, arith}
use Rattle.std.specs.Prelude.{slice_index_or}
use Rattle.std.proofs.Math.Nat.{add-mul}
use Rattle.std.proofs.lemmas.List.{get_or_past}
use Rattle.std.proofs.lemmas.Nat.{mul-le}
use Rattle.std.proofs.lemmas.Option.{slice_get_cases, get_or_from_slice_get}
use Rattle.wh_strategy.specs.declared.sizes.Size.{Size}
use Rattle.wh_strategy.specs.declared.sizes.SizeRow.{SizeRow}
use Rattle.wh_strategy.specs.Sizes.{IsSizeRow, AreSizeRows, IsLight, size_of, sizes_of}

-- the only thing that is asked of sizes: no view grows by more than its change
abbrev pub GrowWithin : (ℕ → Size) → Type 0
GrowWithin sizes = (u : ℕ) → (sizes u).post ≤ (sizes u).pre + (sizes u).change

abbrev no_rows : SizeRow
no_rows = record { pre = 0; post = 0; change = 0; weight = 1 }

-- what holds of each row within its limits, and of no rows, holds of whatever stands at a number
at_each : (P : SizeRow → Type 0) (rows : List SizeRow) → AreSizeRows rows → ((row : SizeRow) → IsSizeRow row → P row) → P no_rows → (u : ℕ) → P (slice_index_or rows u no_rows)
at_each P rows are each none u =
    ⊎_elim
    (λ there. subst P (sym (get_or_from_slice_get rows u there.0 no_rows there.2)) (each there.0 (are u there.0 there.2)))
    (λ past. subst P (sym (get_or_past rows u no_rows past.0)) none)
    (slice_get_cases rows u).1

light_row : (row : SizeRow) → IsSizeRow row → IsLight (size_of row)
light_row row is =
    record {
      light_before = times row.pre is.few_before;
      light_after = times row.post is.few_after;
      light_change = times row.change is.small_change;
    }
  where
    times : (n : ℕ) → n ≤ 2 ^ 40 → n * row.weight ≤ 2 ^ 50
    times n few = let most = mul-le n row.weight (2 ^ 40) 1000 few is.little_weight in omega arith

row_grows_within : (row : SizeRow) → IsSizeRow row → (size_of row).post ≤ (size_of row).pre + (size_of row).change
row_grows_within row is =
    let most = mul-le row.post row.weight (row.pre + row.change) row.weight is.grows_within (omega arith) in
    let apart = add-mul row.pre row.change row.weight in
    omega arith

pub sizes_are_light : (rows : List SizeRow) → AreSizeRows rows → (u : ℕ) → IsLight (sizes_of rows u)
unfolding sizes_of
sizes_are_light rows are u = at_each (λ row. IsLight (size_of row)) rows are light_row (record { light_before = omega arith; light_after = omega arith; light_change = omega arith }) u

pub sizes_grow_within : (rows : List SizeRow) → AreSizeRows rows → GrowWithin (sizes_of rows)
unfolding sizes_of
sizes_grow_within rows are u = at_each (λ row. (size_of row).post ≤ (size_of row).pre + (size_of row).change) rows are row_grows_within (omega arith) u
