-- Lists of decisions that grow at their end.
use Rattle.std.proofs.Common.{◌≡◌, ◌≢◌, ℕ, ◌⊎◌, zero, suc, List, [], ◌∷◌, ◌++◌, Bool, true, false, ◌&&◌, ◌||◌, eqb, refl, sym, ap, ◌∙◌, subst, length, slice_get, Some, ⊎_elim, inl, inr}
use Rattle.std.proofs.lemmas.Bool.{eqb-true, eq-eqb, and_parts, and_from, or_left, or_right, or_cases, both_ways}
use Rattle.std.proofs.lemmas.Option.{none-some, same_Some}
use Rattle.wh_cert.specs.Graph.{decides}
use Rattle.wh_minwork.specs.Decided.{AreDecisions, AreOfOneCouple}

-- the decision at the end, or one before it
pub decides_push : (ds : List (ℕ × ℕ)) (a b u w : ℕ) → decides (ds ++ (a, b) ∷ []) u w ≡ (decides ds u w || (eqb a u && eqb b w))
unfolding decides
decides_push [] a b u w = or_none (eqb a u && eqb b w)
  where
    or_none : (x : Bool) → (x || false) ≡ x
    or_none true = refl
    or_none false = refl
decides_push (d ∷ ds) a b u w = ap (λ z. (eqb d.0 u && eqb d.1 w) || z) (decides_push ds a b u w) ∙ regroup (eqb d.0 u && eqb d.1 w) _ _
  where
    regroup : (x y z : Bool) → (x || (y || z)) ≡ ((x || y) || z)
    regroup true y z = refl
    regroup false y z = refl

pub decides_kept : (ds : List (ℕ × ℕ)) (a b u w : ℕ) → decides ds u w ≡ true → decides (ds ++ (a, b) ∷ []) u w ≡ true
decides_kept ds a b u w h = decides_push ds a b u w ∙ or_left _ _ h

pub decides_new : (ds : List (ℕ × ℕ)) (a b : ℕ) → decides (ds ++ (a, b) ∷ []) a b ≡ true
decides_new ds a b = decides_push ds a b a b ∙ or_right _ _ (and_from _ _ (eq-eqb a a refl) (eq-eqb b b refl))

pub decides_was : (ds : List (ℕ × ℕ)) (a b u w : ℕ) → decides (ds ++ (a, b) ∷ []) u w ≡ true → (decides ds u w ≡ true) ⊎ ((a ≡ u) × (b ≡ w))
decides_was ds a b u w h =
    ⊎_elim
    (λ e. inl e)
    (λ e. let p = and_parts _ _ e in inr (eqb-true a u p.0, eqb-true b w p.1))
    (or_cases _ _ (sym (decides_push ds a b u w) ∙ h))

-- what stands in the list is decided
pub decides_at : (ds : List (ℕ × ℕ)) (p : ℕ) (c : ℕ × ℕ) → slice_get ds p ≡ Some c → decides ds c.0 c.1 ≡ true
unfolding decides
decides_at [] zero c h = absurd (none-some c h)
decides_at [] (suc p) c h = absurd (none-some c h)
decides_at (d ∷ ds) zero c h =
    let e : d ≡ c = same_Some d c h in
    or_left _ _ (and_from _ _ (eq-eqb d.0 c.0 (ap (λ z. z.0) e)) (eq-eqb d.1 c.1 (ap (λ z. z.1) e)))
decides_at (d ∷ ds) (suc p) c h = or_right _ _ (decides_at ds p c h)

get_pushed : (ds : List (ℕ × ℕ)) (d : ℕ × ℕ) (p : ℕ) (c : ℕ × ℕ) → slice_get (ds ++ d ∷ []) p ≡ Some c → (slice_get ds p ≡ Some c) ⊎ ((p ≡ length ds) × (d ≡ c))
get_pushed [] d zero c h = inr (refl, same_Some d c h)
get_pushed [] d (suc zero) c h = absurd (none-some c h)
get_pushed [] d (suc (suc p)) c h = absurd (none-some c h)
get_pushed (x ∷ xs) d zero c h = inl h
get_pushed (x ∷ xs) d (suc p) c h = ⊎_elim (λ a. inl a) (λ b. inr (ap suc b.0, b.1)) (get_pushed xs d p c h)

-- a couple that is not decided yet, either way
pub decisions_more : (ds : List (ℕ × ℕ)) (a b : ℕ) → AreDecisions ds → a ≢ b → decides ds a b ≡ false → decides ds b a ≡ false → AreDecisions (ds ++ (a, b) ∷ [])
decisions_more ds a b h two o o' = record {
  two = λ p c at. ⊎_elim (λ l. h.two p c l) (λ r e. two (ap (λ z. z.0) r.1 ∙ e ∙ sym (ap (λ z. z.1) r.1))) (get_pushed ds (a, b) p c at);
  once = λ p q c d at at' same.
      ⊎_elim
      (λ l. ⊎_elim (λ l'. h.once p q c d l l' same) (λ r'. absurd (new p c d l r'.1 same)) (get_pushed ds (a, b) q d at'))
      (λ r. ⊎_elim (λ l'. absurd (new q d c l' r.1 (turned c d same))) (λ r'. r.0 ∙ sym r'.0) (get_pushed ds (a, b) q d at'))
      (get_pushed ds (a, b) p c at);
}
  where
    turned : (c d : ℕ × ℕ) → AreOfOneCouple c d → AreOfOneCouple d c
    turned c d s = ⊎_elim (λ e. inl (sym e.0, sym e.1)) (λ e. inr (sym e.1, sym e.0)) s

    new : (p : ℕ) (c d : ℕ × ℕ) → slice_get ds p ≡ Some c → (a, b) ≡ d → AreOfOneCouple c d → ⊥
    new p c d at e same =
        let t = decides_at ds p c at in
        let x : a ≡ d.0 = ap (λ z. z.0) e in
        let y : b ≡ d.1 = ap (λ z. z.1) e in
        ⊎_elim
        (λ s. both_ways _ o (subst (λ z. decides ds a z ≡ true) (s.1 ∙ sym y) (subst (λ z. decides ds z c.1 ≡ true) (s.0 ∙ sym x) t)))
        (λ s. both_ways _ o' (subst (λ z. decides ds b z ≡ true) (s.1 ∙ sym x) (subst (λ z. decides ds z c.1 ≡ true) (s.0 ∙ sym y) t)))
        same
