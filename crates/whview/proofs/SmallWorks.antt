-- The work of a correct one-way list has 128 bits.
use Rattle.std.proofs.Common.{◌≡◌, ◌∙◌, ℕ, ◌+◌, ◌*◌, ◌^◌, ◌<◌, ◌≤◌, Bool, true, false, cond, List, length, get_or, refl, ap, zero, suc, arith, Option, Some, None}
use Rattle.std.specs.Prelude.{slice_get}
use Rattle.std.specs.List.{All}
use Rattle.std.proofs.Math.Nat.{add-mul}
use Rattle.std.proofs.lemmas.List.Sums.{sum_by-le}
use Rattle.std.proofs.lemmas.Nat.{mul-le}
use Rattle.wh_dag.specs.Shape.{IsShape, children_of, has}
use Rattle.wh_dag.proofs.PartSums.{length-parts}
use Rattle.wh_cert.proofs.WeighedSizes.{sizes_are_light}
use Rattle.wh_strategy.proofs.FewExpressions.{few_expressions}
use Rattle.wh_strategy.specs.Expression.{is_new}
use Rattle.wh_strategy.specs.Prices.{prices_of}
use Rattle.wh_strategy.specs.Rules.{IsCorrect, IsOneWay}
use Rattle.wh_strategy.specs.Sizes.{AreSizeRows, sizes_of}
use Rattle.wh_strategy.specs.Sums.{parts, sum_below}
use Rattle.wh_strategy.specs.Work.{comp_rows, cost_at, inst_rows, state, term, work_of}
use Rattle.wh_strategy.specs.declared.costs.Costs.{Costs}
use Rattle.wh_strategy.specs.declared.expression.Expression.{Expression}
use Rattle.wh_strategy.specs.declared.expression.Expression.TheVariants.{Comp, Inst}
use Rattle.wh_strategy.specs.declared.sizes.SizeRow.{SizeRow}

-- ---- each expression has few rows

either : (b : Bool) (x y m : ℕ) → x ≤ m → y ≤ m → cond b x y ≤ m
either true x y m l k = l
either false x y m l k = k

small_term : (shape : List (List ℕ)) (rows : List SizeRow) (list : List Expression) (place v : ℕ) (part : List ℕ) → IsShape shape → AreSizeRows rows
    → term (sizes_of rows) list place (children_of shape v) part ≤ 6 * 2 ^ 50
small_term shape rows list place v part sh are =
    let each : All (λ u. cond (has part u) (sizes_of rows u).change (state (sizes_of rows) list place u) ≤ 2 ^ 50) (children_of shape v) =
    λ k d l.
    let u : ℕ = get_or (children_of shape v) k d in
    let is = sizes_are_light rows are u in
    either (has part u) (sizes_of rows u).change (state (sizes_of rows) list place u) (2 ^ 50) is.light_change
    (either (is_new list place u) (sizes_of rows u).post (sizes_of rows u).pre (2 ^ 50) is.light_after is.light_before) in
    let sum = sum_by-le (λ u. cond (has part u) (sizes_of rows u).change (state (sizes_of rows) list place u)) (2 ^ 50) (children_of shape v) each in
    let few = mul-le (length (children_of shape v)) (2 ^ 50) 6 (2 ^ 50) (sh.few_children v) (omega arith) in
    omega arith

few_rows : (shape : List (List ℕ)) (rows : List SizeRow) (list : List Expression) (place : ℕ) → IsShape shape → AreSizeRows rows → IsOneWay list
    → (o : Option Expression) → slice_get list place ≡ o → (comp_rows shape (sizes_of rows) list place o ≤ 6 * 2 ^ 50) × (inst_rows (sizes_of rows) o ≤ 6 * 2 ^ 50)
few_rows shape rows list place sh are one None at = (omega arith, omega arith)
few_rows shape rows list place sh are one (Some (Inst v)) at = let is = (sizes_are_light rows are v).light_change in (omega arith, omega arith)
few_rows shape rows list place sh are one (Some (Comp v ys)) at =
    let single : length (parts ys) + 1 ≡ 2 = length-parts ys ∙ ap (λ n. 2 ^ n) (one place v ys at) in
    let sum = sum_by-le (term (sizes_of rows) list place (children_of shape v)) (6 * 2 ^ 50) (parts ys)
    (λ k d l. small_term shape rows list place v (get_or (parts ys) k d) sh are) in
    let many : length (parts ys) ≡ 1 = omega arith in
    let same = ap (λ n. n * (6 * 2 ^ 50)) many in
    (omega arith, omega arith)

small_cost : (shape : List (List ℕ)) (rows : List SizeRow) (costs : Costs) (list : List Expression) (place : ℕ) → IsShape shape → AreSizeRows rows → IsOneWay list
    → cost_at shape (sizes_of rows) (prices_of costs) list place ≤ 2 * (1000000 * (6 * 2 ^ 50))
small_cost shape rows costs list place sh are one =
    let few = few_rows shape rows list place sh are one (slice_get list place) refl in
    let a = mul-le costs.comp (comp_rows shape (sizes_of rows) list place (slice_get list place)) 1000000 (6 * 2 ^ 50) costs.comp_most few.0 in
    let b = mul-le costs.inst (inst_rows (sizes_of rows) (slice_get list place)) 1000000 (6 * 2 ^ 50) costs.inst_most few.1 in
    omega arith

small_sum : (f : ℕ → ℕ) (m : ℕ) → ((k : ℕ) → f k ≤ m) → (n : ℕ) → sum_below f n ≤ n * m
unfolding sum_below
small_sum f m each zero = omega arith
small_sum f m each (suc n) =
    let rest = small_sum f m each n in
    let last = each n in
    let product = add-mul n 1 m in
    let next : suc n * m ≡ (n + 1) * m = ap (λ k. k * m) (omega arith) in
    omega arith

pub work_fits : (shape : List (List ℕ)) (rows : List SizeRow) (costs : Costs) (list : List Expression) → IsShape shape → AreSizeRows rows → IsCorrect shape list → IsOneWay list
    → work_of shape (sizes_of rows) (prices_of costs) list < 2 ^ 128
work_fits shape rows costs list sh are co one =
    let most : ℕ = 2 * (1000000 * (6 * 2 ^ 50)) in
    let sum = small_sum (cost_at shape (sizes_of rows) (prices_of costs) list) most (λ k. small_cost shape rows costs list k sh are one) (length list) in
    let all = mul-le (length list) most 4160 most (few_expressions shape list sh co) (omega arith) in
    omega arith
