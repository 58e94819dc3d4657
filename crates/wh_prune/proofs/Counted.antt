-- How many couples can be decided.
use Rattle.std.proofs.Common.{◌≡◌, ◌≢◌, ℕ, zero, suc, ◌+◌, ◌<◌, ◌≤◌, ◌⊎◌, List, [], ◌∷◌, ◌++◌, Bool, true, false, cond, map, refl, sym, ap, ◌∙◌, length, slice_get, Some, ⊎_elim, inl, inr, arith}
use Rattle.std.proofs.lemmas.Bool.{cases_Bool}
use Rattle.std.proofs.lemmas.List.{length-append}
use Rattle.wh_dag.specs.Shape.{IsShape}
use Rattle.wh_dag.specs.Siblings.{have_parent, couples_of}
use Rattle.wh_dag.specs.declared.siblings.Couple.{Couple}
use Rattle.wh_dag.proofs.CommonParents.{parent_of_both, both_have_parent}
use Rattle.wh_dag.proofs.FewCouples.{is_of, count_cons}
use Rattle.wh_cert.specs.Search.{IsOpen}
use Rattle.wh_minwork.specs.Decided.{AreDecisions}
use Rattle.wh_minwork.specs.Draft.{DecidesCouples}
use Rattle.wh_minwork.proofs.Decisions.{decisions_more}
use Rattle.wh_minwork.proofs.Drafting.{couples_push, decision_stands}
use Rattle.wh_prune.specs.Inner.Searching.{couple_of}
use Rattle.wh_prune.proofs.CoupleLists.{counted, not_counted, stands, stands-append, stands-this, couple-stands, is_that}
use Rattle.wh_prune.proofs.Deciding.{couple_on, is_lower, open_couple, rises, stands_decided}

-- a list in which a couple stands, taken apart there
parted : (a b : ℕ) (ys : List Couple) → 1 ≤ stands a b ys → (before : List Couple) × (c : Couple) × (after : List Couple) × (ys ≡ before ++ c ∷ after) × (is_of a b c ≡ true)
parted a b [] l = absurd (omega arith)
parted a b (y ∷ ys) l =
    let parts = count_cons (is_of a b) y ys in
    ⊎_elim
    (λ t. ([], y, ys, refl, t))
    (λ f.
    let none = not_counted (is_of a b y) f in
    let r = parted a b ys (omega arith) in
    (y ∷ r.0, r.1, r.2, ap (λ z. y ∷ z) r.3, r.4))
    (cases_Bool (is_of a b y))

same_couple : (x c : Couple) → is_of x.lower x.higher c ≡ true → (a b : ℕ) → is_of a b x ≡ is_of a b c
same_couple x c t a b =
    let e = is_that x.lower x.higher c t in
    ap (λ z. is_of a b (record { lower = z; higher = x.higher })) e.0 ∙ ap (λ z. is_of a b (record { lower = c.lower; higher = z })) e.1

-- without one couple on both sides
less_rest : (a b : ℕ) (x c : Couple) (xs before after ys : List Couple) → stands a b (x ∷ xs) ≤ stands a b ys → ys ≡ before ++ c ∷ after → is_of a b x ≡ is_of a b c → stands a b xs ≤ stands a b (before ++ after)
less_rest a b x c xs before after ys whole e same =
    let m = count_cons (is_of a b) x xs in
    let n : stands a b ys ≡ stands a b before + stands a b (c ∷ after) = ap (stands a b) e ∙ stands-append a b before (c ∷ after) in
    let k = count_cons (is_of a b) c after in
    let s : cond {A = ℕ} (is_of a b x) 1 0 ≡ cond {A = ℕ} (is_of a b c) 1 0 = ap (λ z. cond {A = ℕ} z 1 0) same in
    let j = stands-append a b before after in
    omega arith

-- a list in which each couple stands no more often than in another is no longer
fewer : (xs ys : List Couple) → ((a b : ℕ) → stands a b xs ≤ stands a b ys) → length xs ≤ length ys
fewer [] ys h = omega arith
fewer (x ∷ xs) ys h = without (λ zs k. fewer xs zs k) (parted x.lower x.higher ys (some (h x.lower x.higher)))
  where
    some : stands x.lower x.higher (x ∷ xs) ≤ stands x.lower x.higher ys → 1 ≤ stands x.lower x.higher ys
    some most = let this = stands-this x xs in omega arith

    without : ((zs : List Couple) → ((a b : ℕ) → stands a b xs ≤ stands a b zs) → length xs ≤ length zs) → (before : List Couple) × (c : Couple) × (after : List Couple) × (ys ≡ before ++ c ∷ after) × (is_of x.lower x.higher c ≡ true) → length (x ∷ xs) ≤ length ys
    without again p =
        let rest : length xs ≤ length (p.0 ++ p.2) = again (p.0 ++ p.2) (λ a b. less_rest a b x p.1 xs p.0 p.2 ys (h a b) p.3 (same_couple x p.1 p.4 a b)) in
        let one = length-append p.0 p.2 in
        let two : length ys ≡ length p.0 + length (p.1 ∷ p.2) = ap length p.3 ∙ length-append p.0 (p.1 ∷ p.2) in
        omega arith

mapped_long : (ds : List (ℕ × ℕ)) → length (map couple_of ds) ≡ length ds
mapped_long [] = refl
mapped_long (d ∷ ds) = let r = mapped_long ds in omega arith

decisions_tail : (d : ℕ × ℕ) (ds : List (ℕ × ℕ)) → AreDecisions (d ∷ ds) → AreDecisions ds
decisions_tail d ds h = record {
  two = λ p c at. h.two (suc p) c at;
  once = λ p q c e at at' same. let k : suc p ≡ suc q = h.once (suc p) (suc q) c e at at' same in omega arith;
}

-- each couple is decided once
once_decided : (ds : List (ℕ × ℕ)) (a b : ℕ) → AreDecisions ds → stands a b (map couple_of ds) ≤ 1
once_decided [] a b h = omega arith
once_decided (d ∷ ds) a b h =
    let parts = count_cons (is_of a b) (couple_of d) (map couple_of ds) in
    let rest : stands a b (map couple_of ds) ≤ 1 = once_decided ds a b (decisions_tail d ds h) in
    ⊎_elim
    (λ t.
    let one = counted (is_of a b (couple_of d)) t in
    let most : cond (is_of a b (couple_of d)) 1 0 ≤ 1 = at_most (is_of a b (couple_of d)) in
    ⊎_elim
    (λ (none : stands a b (map couple_of ds) < 1). omega arith)
    (λ (some : 1 ≤ stands a b (map couple_of ds)).
    absurd (⊎_elim
    (λ e. again d ds a b h (couple_on d a b t) (inl (decision_stands ds a b e)))
    (λ e. again d ds a b h (couple_on d a b t) (inr (decision_stands ds b a e)))
    (stands_decided ds a b some)))
    (low_or (stands a b (map couple_of ds))))
    (λ f. let none = not_counted (is_of a b (couple_of d)) f in omega arith)
    (cases_Bool (is_of a b (couple_of d)))
  where
    at_most : (t : Bool) → cond t 1 0 ≤ 1
    at_most true = omega arith
    at_most false = omega arith

    low_or : (n : ℕ) → (n < 1) ⊎ (1 ≤ n)
    low_or zero = inl (omega arith)
    low_or (suc n) = inr (omega arith)

    again : (d : ℕ × ℕ) (ds : List (ℕ × ℕ)) (a b : ℕ) → AreDecisions (d ∷ ds) → ((d.0 ≡ a) × (d.1 ≡ b)) ⊎ ((d.0 ≡ b) × (d.1 ≡ a)) → ((p : ℕ) × (c : ℕ × ℕ) × (slice_get ds p ≡ Some c) × (c.0 ≡ a) × (c.1 ≡ b)) ⊎ ((p : ℕ) × (c : ℕ × ℕ) × (slice_get ds p ≡ Some c) × (c.0 ≡ b) × (c.1 ≡ a)) → ⊥
    again d ds a b h on at =
        ⊎_elim
        (λ s. let k : 0 ≡ suc s.0 = h.once 0 (suc s.0) d s.1 refl s.2 (⊎_elim (λ e. inl (e.0 ∙ sym s.3, e.1 ∙ sym s.4)) (λ e. inr (e.0 ∙ sym s.4, e.1 ∙ sym s.3)) on) in omega arith)
        (λ s. let k : 0 ≡ suc s.0 = h.once 0 (suc s.0) d s.1 refl s.2 (⊎_elim (λ e. inr (e.0 ∙ sym s.4, e.1 ∙ sym s.3)) (λ e. inl (e.0 ∙ sym s.3, e.1 ∙ sym s.4)) on) in omega arith)
        at

-- the couple of a decision on two views has the lower number first
rising : (ds : List (ℕ × ℕ)) (a b : ℕ) → 1 ≤ stands a b (map couple_of ds) → ((d : ℕ × ℕ) (p : ℕ) → slice_get ds p ≡ Some d → d.0 ≢ d.1) → a < b
rising [] a b l two = absurd (omega arith)
rising (d ∷ ds) a b l two =
    let parts = count_cons (is_of a b) (couple_of d) (map couple_of ds) in
    ⊎_elim
    (λ t. rises d a b (two d 0 refl) t)
    (λ f. let none = not_counted (is_of a b (couple_of d)) f in rising ds a b (omega arith) (λ e p at. two e (suc p) at))
    (cases_Bool (is_of a b (couple_of d)))

-- what is decided are couples of the shape
decided_couple : (shape : List (List ℕ)) (ds : List (ℕ × ℕ)) (a b : ℕ) → IsShape shape → AreDecisions ds → DecidesCouples shape ds → stands a b (map couple_of ds) ≤ stands a b (couples_of shape)
decided_couple shape ds a b sh once couples =
    let most : stands a b (map couple_of ds) ≤ 1 = once_decided ds a b once in
    ⊎_elim
    (λ (none : stands a b (map couple_of ds) < 1). omega arith)
    (λ (some : 1 ≤ stands a b (map couple_of ds)).
    let l : a < b = lower ds a b some once in
    let c : have_parent shape a b ≡ true = ⊎_elim (λ t. (couples a b t).1) (λ t. turned shape b a (couples b a t).1) (stands_decided ds a b some) in
    let there : 1 ≤ stands a b (couples_of shape) = couple-stands shape a b sh l c in
    omega arith)
    (low_or (stands a b (map couple_of ds)))
  where
    low_or : (n : ℕ) → (n < 1) ⊎ (1 ≤ n)
    low_or zero = inl (omega arith)
    low_or (suc n) = inr (omega arith)

    turned : (shape : List (List ℕ)) (u w : ℕ) → have_parent shape u w ≡ true → have_parent shape w u ≡ true
    turned shape u w h = let p = parent_of_both shape u w h in both_have_parent shape p.0 w u p.2 p.1

    lower : (ds : List (ℕ × ℕ)) (a b : ℕ) → 1 ≤ stands a b (map couple_of ds) → AreDecisions ds → a < b
    lower ds a b l h = rising ds a b l (λ d p at. h.two p d at)

-- where a couple is open, fewer are decided than the shape has
pub fewer_decided : (shape : List (List ℕ)) (ds : List (ℕ × ℕ)) (c : Couple) → IsShape shape → AreDecisions ds → DecidesCouples shape ds → IsOpen shape ds c → length ds + 1 ≤ length (couples_of shape)
fewer_decided shape ds c sh once couples open_c =
    let l : c.lower < c.higher = is_lower shape ds c open_c in
    let more = decisions_more ds c.lower c.higher once (λ e. omega arith) open_c.not_lower_first open_c.not_higher_first in
    let pushed = couples_push shape ds c.lower c.higher (open_couple shape ds c open_c) couples in
    let few = fewer (map couple_of (ds ++ (c.lower, c.higher) ∷ [])) (couples_of shape) (λ a b. decided_couple shape (ds ++ (c.lower, c.higher) ∷ []) a b sh more pushed) in
    let m = mapped_long (ds ++ (c.lower, c.higher) ∷ []) in
    let n = length-append ds ((c.lower, c.higher) ∷ []) in
    omega arith
