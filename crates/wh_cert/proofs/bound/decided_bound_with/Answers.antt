use Rattle.std.proofs.Common.{◌≡◌, ◌<◌, ◌+◌, ◌-◌, ◌*◌, ◌^◌, ◌++◌, ◌∷◌, [], ℕ, List, length, sym, ap, ◌∙◌, subst, arith}
use Rattle.wh_strategy.specs.Prices.{prices_of}
use Rattle.wh_strategy.specs.Sizes.{sizes_of}
use Rattle.wh_strategy.specs.Sums.{sum_below}
use Rattle.wh_cert.specs.Bound.{in_order, pair_min, decided_bound_of}
use Rattle.wh_cert.specs.Inner.Bound.{more_under}
use Rattle.wh_cert.proofs.Raising.{bound_more, bound_small}
use Rattle.wh_cert.proofs.bound.decided_bound_with.Goals as goal

pub overflow_add-result : goal.overflow_add-result
overflow_add-result c =
    let shape = c.args.shape.now.children in
    let sizes = sizes_of c.args.sizes.now in
    let e : ℕ = c.in_order.result - c.pair_min.result in
    let is : in_order sizes c.args.next.0 c.args.next.1 ≡ pair_min sizes c.args.next.0 c.args.next.1 + e = let x = c.in_order.ensures.value in let y = c.pair_min.ensures.value in omega arith in
    let more : c.more_rows.result ≡ sum_below (more_under shape c.args.next.0 c.args.next.1 e) (length shape) = c.more_rows.ensures.value ∙ ap (λ (z : List (List ℕ)). sum_below (more_under z c.args.next.0 c.args.next.1 e) (length z)) c.child_lists.ensures.lists in
    let all = bound_more shape sizes (prices_of c.args.costs) c.args.decided.now c.args.next.0 c.args.next.1 e c.child_lists.ensures.shape c.requires.two c.requires.open c.requires.open_too is in
    let same : c.args.bound + c.args.costs.comp * c.more_rows.result ≡ decided_bound_of shape sizes (prices_of c.args.costs) (c.args.decided.now ++ (c.args.next.0, c.args.next.1) ∷ []) =
    ap (λ z. z + c.args.costs.comp * c.more_rows.result) c.requires.bound ∙ ap (λ z. decided_bound_of shape sizes (prices_of c.args.costs) c.args.decided.now + c.args.costs.comp * z) more ∙ sym all in
    let fits : c.args.bound + c.args.costs.comp * c.more_rows.result < 2 ^ 128 = subst (λ z. z < 2 ^ 128) (sym same)
    (bound_small shape c.args.sizes.now c.args.costs (c.args.decided.now ++ (c.args.next.0, c.args.next.1) ∷ []) c.child_lists.ensures.shape c.len-views.ensures.within) in
    omega arith

pub returns : goal.returns
returns c =
    let shape = c.args.shape.now.children in
    let sizes = sizes_of c.args.sizes.now in
    let e : ℕ = c.in_order.result - c.pair_min.result in
    let is : in_order sizes c.args.next.0 c.args.next.1 ≡ pair_min sizes c.args.next.0 c.args.next.1 + e = let x = c.in_order.ensures.value in let y = c.pair_min.ensures.value in omega arith in
    let more : c.more_rows.result ≡ sum_below (more_under shape c.args.next.0 c.args.next.1 e) (length shape) = c.more_rows.ensures.value ∙ ap (λ (z : List (List ℕ)). sum_below (more_under z c.args.next.0 c.args.next.1 e) (length z)) c.child_lists.ensures.lists in
    let all = bound_more shape sizes (prices_of c.args.costs) c.args.decided.now c.args.next.0 c.args.next.1 e c.child_lists.ensures.shape c.requires.two c.requires.open c.requires.open_too is in
    ap (λ z. z + c.args.costs.comp * c.more_rows.result) c.requires.bound ∙ ap (λ z. decided_bound_of shape sizes (prices_of c.args.costs) c.args.decided.now + c.args.costs.comp * z) more ∙ sym all
