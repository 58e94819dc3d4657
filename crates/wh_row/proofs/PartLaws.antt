-- Records in parts.
use Rattle.std.proofs.Common.{◌≡◌, refl, sym, ap, subst, ◌∙◌, ℕ, suc, ◌+◌, ◌-◌, ◌*◌, ◌≤◌, ◌<◌, ℤ, pos, ◌+ℤ◌, true, false, cond, List, [], ◌∷◌, ◌++◌, map, length, take, get_or, Option, Some, None, IfSome, IsSome, Result, Ok, Err, IfOk, OnOk, All, Bor, slice_get, ◌/◌, add-one, arith, length-append, FitsSigned}
use Rattle.std.specs.List.{AllZip}
use Rattle.std.specs.Result.{result_ok}
use Rattle.std.proofs.lemmas.Option.{same_Some}
use Rattle.std.specs.Prelude.{unsigned_abs}
use Rattle.std.proofs.lemmas.Int.{ints}
use Rattle.std.proofs.lemmas.List.{append-nil, flat_map_more, take_more}
use Rattle.std.proofs.lemmas.List.Concat.{flat_map-append}
use Rattle.std.proofs.lemmas.List.Sums.{sum_by-cons, sum_by-append, sum_by-take-le}
use Rattle.std.proofs.lemmas.Nat.{div-add-mod'}
use mir.Syntax.{w64}
use Rattle.wh_pieces.proofs.FlatLaws.{mul_add}
use Rattle.wh_row.specs.Row.{Row, is_row}
use Rattle.wh_row.specs.Weigh.{Counted, count_in}
use Rattle.wh_row.specs.Bag.{Bag, bag_of, sum_of}
use Rattle.wh_row.specs.Records.{running_sum, FitsAt, EachSumFits, joined}
use Rattle.wh_row.specs.Inner.Parts.{weight, grouped, AreBagsOf}
use Rattle.wh_row.proofs.CountLaws.{same_bag, count-bag_of, count-sum_of, count_in-append}
use Rattle.wh_row.proofs.OrderLaws.{LeaveRoom, fits_light}
use Rattle.wh_row.proofs.RunningSums.{next_taken}

-- ---- what is told of a result whose value is taken

pub told : {T E : Type 0} {Q : Type 0} (r : Result T E) (x : T) → Some x ≡ result_ok r → OnOk r Q → Q
told (Ok y) x is q = q
told (Err e) x is q = absurd (let bad : Some x ≡ None = is in cc)

pub told_of : {T E : Type 0} (P : T → Type 0) (r : Result T E) (x : T) → Some x ≡ result_ok r → IfOk r P → P x
told_of P (Ok y) x is p = subst P (same_Some y x (sym is)) p
told_of P (Err e) x is p = absurd (let bad : Some x ≡ None = is in cc)

pub if_ok : {T E : Type 0} (P : T → Type 0) (r : Result T E) (o : Option T) → o ≡ result_ok r → IfOk r P → IfSome o P
if_ok P (Ok y) o is p = subst (λ o. IfSome o P) (sym is) p
if_ok P (Err e) o is p = subst (λ o. IfSome o P) (sym is) tt

pub if_some : {T Q : Type 0} (o : Option T) → (IsSome o → Q) → IfSome o (λ _. Q)
if_some None q = tt
if_some (Some x) q = q refl

-- ---- bags behind each other

pub none_listed : (lists : List Counted) → AreBagsOf lists [] → lists ≡ []
none_listed [] are = refl
none_listed (es ∷ lists) are = absurd are

pub both_parts : (a b : Counted) → sum_of (bag_of a) (bag_of b) ≡ bag_of (a ++ b)
both_parts a b = same_bag (sum_of (bag_of a) (bag_of b)) (bag_of (a ++ b)) (λ q.
    count-sum_of (bag_of a) (bag_of b) q
    ∙ (λ i. count-bag_of a q i +ℤ count-bag_of b q i)
    ∙ sym (count_in-append a b q)
    ∙ sym (count-bag_of (a ++ b) q))

pub joined-append : (ps qs : List Counted) → joined (ps ++ qs) ≡ joined ps ++ joined qs
joined-append ps qs = flat_map-append (λ (records : Counted). records) ps qs

pub joined-next : (ps : List Counted) (i : ℕ) (d : Counted) → i < length ps → joined (take i ps) ++ get_or ps i d ≡ joined (take (i + 1) ps)
joined-next ps i d below = flat_map_more (λ (records : Counted). records) [] (take i ps) (get_or ps i d) ∙ ap joined (sym (take_more ps i d below))

-- bags of lists, of which one stands last
last_bag : (lists : List Counted) (bags : List (Option Bag)) (bag : Bag) → AreBagsOf lists (bags ++ Some bag ∷ [])
    → (front : List Counted) × (last : Counted) × (lists ≡ front ++ last ∷ []) × AreBagsOf front bags × (bag ≡ bag_of last)
last_bag [] [] bag are = absurd are
last_bag (es ∷ []) [] bag are = ([], es, refl, tt, are.0)
last_bag (es ∷ fs ∷ lists) [] bag are = absurd are.1
last_bag [] (b ∷ bags) bag are = absurd are
last_bag (es ∷ lists) (b ∷ bags) bag are =
    let rest = last_bag lists bags bag are.1 in
    (es ∷ rest.0, rest.1, ap (λ (ls : List Counted). es ∷ ls) rest.2, (are.0, rest.3), rest.4)

pub bag_next : (bags : List (Option Bag)) (all bag both : Bag) → ((lists : List Counted) → AreBagsOf lists bags → all ≡ bag_of (joined lists)) → both ≡ sum_of all bag
    → (lists : List Counted) → AreBagsOf lists (bags ++ Some bag ∷ []) → both ≡ bag_of (joined lists)
bag_next bags all bag both before is lists are =
    let cut = last_bag lists bags bag are in
    is
    ∙ (λ i. sum_of (before cut.0 cut.3 i) (cut.4 i))
    ∙ both_parts (joined cut.0) cut.1
    ∙ ap bag_of (ap (λ (es : Counted). joined cut.0 ++ es) (sym (append-nil cut.1)) ∙ sym (joined-append cut.0 (cut.1 ∷ [])) ∙ ap joined (sym cut.2))

-- what holds of each list that is made of a part
pub zip_made : {P L B : Type 0} (made : P → L) (R : L → B → Type 0) (parts : List P) (bags : List B) → AllZip (λ part bag. R (made part) bag) parts bags → AllZip R (map made parts) bags
zip_made made R [] [] each = tt
zip_made made R [] (b ∷ bags) each = absurd each
zip_made made R (p ∷ parts) [] each = absurd each
zip_made made R (p ∷ parts) (b ∷ bags) each = (each.0, zip_made made R parts bags each.1)

pub joined_groups : (groups : List (Bor (List Counted))) → joined (map (λ (group : Bor (List Counted)). joined group.now) groups) ≡ joined (grouped groups)
joined_groups [] = refl
joined_groups (group ∷ groups) =
    ap (λ (es : Counted). joined group.now ++ es) (joined_groups groups) ∙ sym (joined-append group.now (grouped groups))

-- ---- small counts

pub weight-append : (a b : Counted) → weight (a ++ b) ≡ weight a + weight b
weight-append a b = sum_by-append (λ (e : Row × ℤ). unsigned_abs e.1) a b

weight-one : (e : Row × ℤ) → weight (e ∷ []) ≡ unsigned_abs e.1
weight-one e = let is : 0 + unsigned_abs e.1 ≡ unsigned_abs e.1 = omega arith in is

pub weight-next : (es : Counted) (p : ℕ) (e : Row × ℤ) → slice_get es p ≡ Some e → weight (take (p + 1) es) ≡ weight (take p es) + unsigned_abs e.1
weight-next es p e is = ap (λ n. weight (take n es)) (add-one p) ∙ ap weight (next_taken es p e is) ∙ weight-append (take p es) (e ∷ []) ∙ ap (λ n. weight (take p es) + n) (weight-one e)

pub weight-joined-next : (ps : List Counted) (i : ℕ) (d : Counted) → i < length ps → weight (joined (take (i + 1) ps)) ≡ weight (joined (take i ps)) + weight (get_or ps i d)
weight-joined-next ps i d below = sym (ap weight (joined-next ps i d below)) ∙ weight-append (joined (take i ps)) (get_or ps i d)

-- what has room weighs no more than it
pub room_held : (left : Option ℕ) (w room : ℕ) → IfSome left (λ left. left + w ≡ room) → IsSome left → w ≤ room
room_held None w room is some = absurd (let bad : false ≡ true = some in cc)
room_held (Some left) w room is some = omega (arith, is)

-- parts that have no more than this each
pub light-next : (ps : List Counted) (i : ℕ) (d : Counted) (room : ℕ) → i < length ps → weight (joined (take i ps)) ≤ room * i → weight (get_or ps i d) ≤ room → weight (joined (take (i + 1) ps)) ≤ room * (i + 1)
light-next ps i d room below before here =
    let both = weight-joined-next ps i d below in
    let more = mul_add room i 1 in
    omega (arith, both, before, here, more)

-- parts in groups
pub light_groups : (groups : List (Bor (List Counted))) (bags : List (Option Bag)) (room : ℕ)
    → AllZip (λ (group : Bor (List Counted)) (bag : Option Bag). IfSome bag (λ _. weight (joined group.now) ≤ room * length group.now)) groups bags → All IsSome bags
    → weight (joined (grouped groups)) ≤ room * length (grouped groups)
light_groups [] [] room each some = omega arith
light_groups [] (bag ∷ bags) room each some = absurd each
light_groups (group ∷ groups) [] room each some = absurd each
light_groups (group ∷ groups) (None ∷ bags) room each some = absurd (let bad : false ≡ true = some 0 None (omega arith) in cc)
light_groups (group ∷ groups) (Some bag ∷ bags) room each some =
    let rest = grouped groups in
    let later = light_groups groups bags room each.1 (λ k d below. some (suc k) d (omega (arith, below))) in
    let here : weight (joined group.now) ≤ room * length group.now = each.0 in
    let both : weight (joined (group.now ++ rest)) ≡ weight (joined group.now) + weight (joined rest) = ap weight (joined-append group.now rest) ∙ weight-append (joined group.now) (joined rest) in
    let rooms : room * length (group.now ++ rest) ≡ room * (length group.now + length rest) = ap (λ k. room * k) (length-append group.now rest) in
    omega (arith, both, here, later, rooms, mul_add room (length group.now) (length rest))

-- all parts have the room that is shared out
pub shared_room : (all room parts : ℕ) → room ≡ all / parts → room * parts ≤ all
shared_room all room parts is =
    let split = div-add-mod' all parts in
    let same : room * parts ≡ all / parts * parts = ap (λ n. n * parts) is in
    omega (arith, split, same)

abs_sum : (a b : ℤ) → unsigned_abs (a +ℤ b) ≤ unsigned_abs a + unsigned_abs b
abs_sum a b = omega (arith, ints)

abs_count : (es : Counted) (q : Row) → unsigned_abs (count_in es q) ≤ weight es
abs_count [] q = omega arith
abs_count (e ∷ es) q =
    let here : ℤ = cond (is_row q e.0) e.1 (pos 0) in
    let small : unsigned_abs here ≤ unsigned_abs e.1 = elim (is_row q e.0) as (λ b. unsigned_abs (cond b e.1 (pos 0)) ≤ unsigned_abs e.1) [ true ↦ omega arith | false ↦ omega arith ] in
    let rest = abs_count es q in
    let sum = abs_sum here (count_in es q) in
    let all = sum_by-cons (λ (x : Row × ℤ). unsigned_abs x.1) e es in
    omega (arith, small, rest, sum, all)

-- no running sum is larger than all absolute counts together
pub light_fits : (es : Counted) → weight es ≤ 9223372036854775807 → EachSumFits es
light_fits es light p = elim (slice_get es p) as (λ o. slice_get es p ≡ o → FitsAt es p) [
  | None ↦ λ is. subst (λ (o : Option (Row × ℤ)). IfSome o (λ x. FitsSigned w64 (running_sum (take p es) x))) (sym is) tt
  | Some e ↦ λ is.
      let w : ℕ = weight (take p es) in
      let n : ℕ = unsigned_abs e.1 in
      let next : weight (take (suc p) es) ≡ w + n = ap weight (next_taken es p e is) ∙ weight-append (take p es) (e ∷ []) ∙ ap (λ n. weight (take p es) + n) (weight-one e) in
      let within : weight (take (suc p) es) ≤ weight es = sum_by-take-le (λ (x : Row × ℤ). unsigned_abs x.1) es (suc p) in
      let room : LeaveRoom (take p es) (9223372036854775807 - w) = λ q. omega (arith, abs_count (take p es) q, next, within, light) in
      let left : 9223372036854775807 - w - n + n ≡ 9223372036854775807 - w = omega (arith, next, within, light) in
      fits_light es p (9223372036854775807 - w) (9223372036854775807 - w - n) e is room left
] refl
