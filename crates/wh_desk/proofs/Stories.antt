-- Histories and what is known of them.
use Rattle.std.proofs.Common.{◌≡◌, refl, sym, ap, ◌∙◌, subst, ℕ, ◌+◌, ◌≤◌, Bool, true, false, List, [], ◌∷◌, ◌++◌, length, length-append, MatchBool, arith}
use Rattle.std.proofs.lemmas.Bool.Decides.{nat_tests}
use mathlib.Core.List.{IsPrefix}
use lib.Dec.{leb}
use Rattle.logbook.specs.Pages.{Book}
use Rattle.wh_store.specs.Operations.{operation}
use Rattle.wh_store.specs.declared.operation.Op.{Op}
use Rattle.wh_desk.specs.declared.history.Chapter.{Chapter}
use Rattle.wh_desk.specs.declared.history.Chapter.TheVariants.{Opened, Done}
use Rattle.wh_desk.specs.Known.{Begins, IsStory, Known, known, operations, told, warehouse_of}
use Rattle.wh_desk.specs.Inner.Known.{IsLog}
use Rattle.wh_desk.proofs.Prefixes.{prefix_shorter}

pub operations-append : (xs ys : List Chapter) → operations (xs ++ ys) ≡ operations xs ++ operations ys
operations-append [] ys = refl
operations-append (Opened store ∷ xs) ys = operations-append xs ys
operations-append (Done op ∷ xs) ys = ap (λ os. operation op ∷ os) (operations-append xs ys)

pub counted_next : (xs : List Chapter) (op : Op) → length (operations (xs ++ Done op ∷ [])) ≡ length (operations xs) + 1
counted_next xs op = ap length (operations-append xs (Done op ∷ [])) ∙ omega (arith, length-append (operations xs) (operation op ∷ []))

-- a history that has begun keeps its beginning
pub warehouse-append : (xs ys : List Chapter) → 1 ≤ length xs → warehouse_of (xs ++ ys) ≡ warehouse_of xs
warehouse-append [] ys h = absurd (omega arith)
warehouse-append (Opened store ∷ xs) ys h = refl
warehouse-append (Done op ∷ xs) ys h = refl

-- a history with one operation more
pub told_more : (b : Book) (xs : List Chapter) (op : Op) → 1 ≤ length xs → told b (xs ++ Done op ∷ []) ≡ known b (warehouse_of xs) (operations xs ++ operation op ∷ [])
told_more b xs op h = (λ i. known b (warehouse-append xs (Done op ∷ []) h i) (operations-append xs (Done op ∷ []) i))

pub begins_of : (b c : Book) (xs ys : List Chapter) → b ≡ c → 1 ≤ length xs → IsPrefix xs ys → Begins (told b xs) (told c ys)
begins_of b c xs ys same some p = (
  same,
  sym (warehouse-append xs p.0 some) ∙ ap warehouse_of p.1,
  (operations p.0, sym (operations-append xs p.0) ∙ ap operations p.1),
)

-- of two beginnings of one history the one with fewer operations begins the other
pub decides : (b c : Book) (xs ys zs : List Chapter) (m n : ℕ) → c ≡ b → length xs ≡ m + 1 → length ys ≡ n + 1 → IsPrefix xs zs → IsPrefix ys zs → (t : Bool) → leb n m ≡ t
    → MatchBool t (Begins (told c ys) (told b xs)) (Begins (told b xs) (told c ys))
decides b c xs ys zs m n same xlen ylen p q true is =
    let less : n ≤ m = grind (arith, nat_tests) in
    begins_of c b ys xs same (omega arith) (prefix_shorter ys xs zs q p (omega arith))
decides b c xs ys zs m n same xlen ylen p q false is =
    let less : m ≤ n = grind (arith, nat_tests) in
    begins_of b c xs ys (sym same) (omega arith) (prefix_shorter xs ys zs p q (omega arith))

pub log_of_story : (b : Book) (xs : List Chapter) (op : Op) (k : Known) → told b xs ≡ k → 1 ≤ length xs → IsStory (known k.book k.of (k.list ++ operation op ∷ [])) → IsLog (xs ++ Done op ∷ [])
log_of_story b xs op k is some story =
    let here : IsStory (known b (warehouse_of xs) (operations xs ++ operation op ∷ [])) = subst (λ (z : Known). IsStory (known z.book z.of (z.list ++ operation op ∷ []))) (sym is) story in
    subst IsStory (sym (told_more b xs op some)) here

pub told_next : (b c : Book) (xs ys : List Chapter) (op : Op) (k : Known) → told b xs ≡ k → 1 ≤ length xs → c ≡ b → ys ≡ xs ++ Done op ∷ [] → told c ys ≡ known k.book k.of (k.list ++ operation op ∷ [])
told_next b c xs ys op k is some same more =
    (λ i. told (same i) (more i)) ∙ (told_more b xs op some ∙ ap (λ (z : Known). known z.book z.of (z.list ++ operation op ∷ [])) is)
