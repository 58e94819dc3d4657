-- The desired order: its two cases, of two views one comes first, and the order that a pair's minimum is of.
use Rattle.std.proofs.Common.{◌≡◌, ℕ, ◌+◌, ◌<◌, sym, ◌⊎◌, inl, inr, ⊎_elim, arith}
use Rattle.std.proofs.lemmas.Bool.{or_left, or_right, or_cases, cases_order, eqb-true, eq-eqb, ltb-true, lt-ltb, and_parts, and_from}
use Rattle.wh_strategy.specs.declared.sizes.Size.{Size}
use Rattle.wh_cert.specs.Bound.{in_order, pair_min}
use Rattle.wh_cert.specs.Order.{comes_first, ComesFirst}

-- it grows less, or they grow the same and it has the lower number
pub comes_cases : (sizes : ℕ → Size) (u w : ℕ) → ComesFirst sizes u w → ((sizes u).post + (sizes w).pre < (sizes w).post + (sizes u).pre) ⊎ (((sizes u).post + (sizes w).pre ≡ (sizes w).post + (sizes u).pre) × (u < w))
unfolding comes_first
comes_cases sizes u w h =
    ⊎_elim
    (λ e. inl (ltb-true _ _ e))
    (λ e. let b = and_parts _ _ e in inr (eqb-true _ _ b.0, ltb-true _ _ b.1))
    (or_cases _ _ h)

pub comes_less : (sizes : ℕ → Size) (u w : ℕ) → (sizes u).post + (sizes w).pre < (sizes w).post + (sizes u).pre → ComesFirst sizes u w
unfolding comes_first
comes_less sizes u w l = or_left _ _ (lt-ltb _ _ l)

pub comes_tie : (sizes : ℕ → Size) (u w : ℕ) → (sizes u).post + (sizes w).pre ≡ (sizes w).post + (sizes u).pre → u < w → ComesFirst sizes u w
unfolding comes_first
comes_tie sizes u w e l = or_right _ _ (and_from _ _ (eq-eqb _ _ e) (lt-ltb u w l))

-- of two views one comes first
pub one_comes : (sizes : ℕ → Size) (u w : ℕ) → (u ≡ w → ⊥) → ComesFirst sizes u w ⊎ ComesFirst sizes w u
one_comes sizes u w n =
    ⊎_elim
    (λ e. ⊎_elim
    (λ same. absurd (n same))
    (λ r. ⊎_elim
    (λ l. inl (comes_tie sizes u w e l))
    (λ l. inr (comes_tie sizes w u (sym e) l))
    r)
    (cases_order u w))
    (λ r. ⊎_elim
    (λ l. inl (comes_less sizes u w l))
    (λ l. inr (comes_less sizes w u l))
    r)
    (cases_order ((sizes u).post + (sizes w).pre) ((sizes w).post + (sizes u).pre))

-- and not the other one too
pub not_both_come : (sizes : ℕ → Size) (u w : ℕ) → ComesFirst sizes u w → ComesFirst sizes w u → ⊥
not_both_come sizes u w a b =
    ⊎_elim
    (λ l. ⊎_elim (λ m. omega arith) (λ m. let e : (sizes w).post + (sizes u).pre ≡ (sizes u).post + (sizes w).pre = m.0 in omega arith) (comes_cases sizes w u b))
    (λ l. let e : (sizes u).post + (sizes w).pre ≡ (sizes w).post + (sizes u).pre = l.0 in
    let f : u < w = l.1 in
    ⊎_elim (λ m. omega arith) (λ m. let g : w < u = m.1 in omega arith) (comes_cases sizes w u b))
    (comes_cases sizes u w a)

-- a pair's minimum is what it costs in the desired order
pub desired_is_least : (sizes : ℕ → Size) (u w : ℕ) → ComesFirst sizes u w → in_order sizes u w ≡ pair_min sizes u w
desired_is_least sizes u w h =
    ⊎_elim
    (λ l. omega arith)
    (λ l. let e : (sizes u).post + (sizes w).pre ≡ (sizes w).post + (sizes u).pre = l.0 in omega arith)
    (comes_cases sizes u w h)

pub pair_min-swap : (sizes : ℕ → Size) (u w : ℕ) → pair_min sizes u w ≡ pair_min sizes w u
pair_min-swap sizes u w = omega arith
