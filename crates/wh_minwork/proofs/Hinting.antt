-- Where to look for a node that is ready, while one after another is placed.
use Rattle.std.proofs.Common.{◌≡◌, ℕ, zero, suc, ◌+◌, ◌<◌, List, [], ◌∷◌, ◌++◌, Bool, true, false, not, ◌&&◌, ◌||◌, eqb, refl, sym, ap, ◌∙◌, subst, length, slice_get, Some, ⊎_elim, ◌⊎◌, inl, inr, arith}
use Rattle.std.proofs.lemmas.Bool.{cases_Bool, false≢true, both_ways, and_parts, and_from, or_left, or_right, or_cases, eqb-true}
use Rattle.std.proofs.lemmas.Option.{none-some}
use Rattle.wh_minwork.specs.Inner.Nodes.{one_if, one, same_node, times}
use Rattle.wh_minwork.specs.Inner.Left.{AreHints, AreNodesLeft, ArePlaced, AreTurned, IsFree, IsLed, is_hinted, is_left, is_node_by, leads_by}
use Rattle.wh_minwork.specs.Inner.Sets.{in_set, in_rows}
use Rattle.wh_minwork.specs.declared.node.Node.{Node}
use Rattle.wh_minwork.specs.declared.node.Node.TheVariants.{Comp, Inst}
use Rattle.wh_minwork.proofs.Counting.{is_one, is_none, times_push, found, get_within, get_left, get_pushed, same_is}

-- where no Comp of a view and no Inst is ready, no node is
pub none_led : (over before comps : List ℕ) (insts : ℕ) → ((v u : ℕ) → in_rows comps v u ≡ true → IsLed over before comps insts (Comp v u)) → ((w : ℕ) → in_set insts w ≡ true → IsLed over before comps insts (Inst w)) → (y : Node) → is_left comps insts y ≡ true → IsLed over before comps insts y
none_led over before comps insts c i (Comp v u) h = c v u h
none_led over before comps insts c i (Inst w) h = i w h

-- where no view is hinted at, each of its Comps that is left is led to
pub led_comps : (over before comps : List ℕ) (insts hint_comps hint_insts : ℕ) → AreHints over before comps insts hint_comps hint_insts → ((v : ℕ) → in_set hint_comps v ≡ false) → (v u : ℕ) → in_rows comps v u ≡ true → IsLed over before comps insts (Comp v u)
led_comps over before comps insts hc hi h none v u l = ⊎_elim (λ t. absurd (both_ways _ (none v) t)) (λ x. x) (h.each (Comp v u) l)

pub led_insts : (over before comps : List ℕ) (insts hint_comps hint_insts : ℕ) → AreHints over before comps insts hint_comps hint_insts → ((w : ℕ) → in_set hint_insts w ≡ false) → (w : ℕ) → in_set insts w ≡ true → IsLed over before comps insts (Inst w)
led_insts over before comps insts hc hi h none w l = ⊎_elim (λ t. absurd (both_ways _ (none w) t)) (λ x. x) (h.each (Inst w) l)

-- nothing is placed
pub hinted_all : (views : ℕ) (over before : List ℕ) → ((v u : ℕ) → in_rows over v u ≡ true → in_set views v ≡ true) → AreHints over before over views views views
hinted_all views over before h = record { each = each }
  where
    each : (y : Node) → is_left over views y ≡ true → (is_hinted views views y ≡ true) ⊎ IsLed over before over views y
    each (Comp v u) l = inl (h v u l)
    each (Inst w) l = inl l

nothing : (p : ℕ) (y : Node) → slice_get [] p ≡ Some y → ⊥
nothing zero y h = none-some y h
nothing (suc p) y h = none-some y h

left_is_node : (views : ℕ) (over : List ℕ) (e : Node) → one_if (is_left over views e) ≡ one_if (is_node_by over views e)
left_is_node views over (Comp v u) = refl
left_is_node views over (Inst w) = refl

pub placed_none : (views : ℕ) (over before : List ℕ) → ArePlaced views over before over views []
unfolding times
placed_none views over before = record {
  each = λ e. let k = left_is_node views over e in omega arith;
  forward = λ q x y at. absurd (nothing q y at);
}

-- a node that leads here is left, or it was placed just now
pub hinted_taken : (over before comps comps' : List ℕ) (insts insts' hc hi : ℕ) (node : Node) → AreHints over before comps insts hc hi → ((e : Node) → is_left comps' insts' e ≡ (not (same_node node e) && is_left comps insts e)) → (y : Node) → is_left comps' insts' y ≡ true → (is_hinted hc hi y ≡ true) ⊎ (IsLed over before comps' insts' y ⊎ (leads_by over before node y ≡ true))
hinted_taken over before comps comps' insts insts' hc hi node h taken y l =
    let was = and_parts _ _ (sym (taken y) ∙ l) in
    ⊎_elim
    (λ t. inl t)
    (λ x.
    ⊎_elim
    (λ s. inr (inr (subst (λ z. leads_by over before z y ≡ true) (sym (same_is node x.0 s)) x.2)))
    (λ n. inr (inl (x.0, taken x.0 ∙ and_from _ _ (ap not n) x.1, x.2)))
    (cases_Bool (same_node node x.0)))
    (h.each y was.1)

one_same : (x e : Node) (b : Bool) → b ≡ true → same_node x e ≡ true → one_if (not (same_node x e) && b) ≡ 0
one_same x e b t s = ap (λ z. one_if (not z && b)) s

one_other : (x e : Node) (b : Bool) → same_node x e ≡ false → one_if (not (same_node x e) && b) ≡ one_if b
one_other x e b n = ap (λ z. one_if (not z && b)) n

-- one ready node more
pub placed_more : (views : ℕ) (over before comps comps' : List ℕ) (insts insts' : ℕ) (placed : List Node) (node : Node) → ArePlaced views over before comps insts placed → is_left comps insts node ≡ true → IsFree over before comps insts node → ((e : Node) → is_left comps' insts' e ≡ (not (same_node node e) && is_left comps insts e)) → ArePlaced views over before comps' insts' (placed ++ node ∷ [])
placed_more views over before comps comps' insts insts' placed node h there free taken = record {
  each = λ e.
      let k = h.each e in
      let m = times_push e placed node in
      let t = ap one_if (taken e) in
      ⊎_elim
      (λ s.
      let same : node ≡ e = same_is node e s in
      let l : is_left comps insts e ≡ true = subst (λ z. is_left comps insts z ≡ true) same there in
      let a : one_if (is_left comps insts e) ≡ 1 = is_one (is_left comps insts e) _ refl l in
      let b : one node e ≡ 1 = is_one (same_node node e) _ (one_is node e) s in
      let d : one_if (not (same_node node e) && is_left comps insts e) ≡ 0 = one_same node e (is_left comps insts e) l s in
      let p = one_turn e node in
      omega arith)
      (λ n.
      let b : one node e ≡ 0 = is_none (same_node node e) _ (one_is node e) n in
      let d : one_if (not (same_node node e) && is_left comps insts e) ≡ one_if (is_left comps insts e) = one_other node e (is_left comps insts e) n in
      let p = one_turn e node in
      omega arith)
      (cases_Bool (same_node node e));
  forward = λ q x z at e is.
      ⊎_elim
      (λ a. let f = h.forward q x z a e is in (f.0, f.1, get_left placed (node ∷ []) f.0 x f.2))
      (λ n.
      let goes : leads_by over before x node ≡ true = subst (λ w. leads_by over before x w ≡ true) (sym n.1) e in
      let f = early x goes is in
      let k : f.0 < length placed = get_within placed f.0 x f.1 in
      (f.0, omega arith, get_left placed (node ∷ []) f.0 x f.1))
      (get_pushed placed node q z at);
}
  where
    one_is : (x e : Node) → one x e ≡ one_if (same_node x e)
    one_is x e = refl

    one_turn : (e x : Node) → one x e ≡ one x e
    one_turn e x = refl

    early : (x : Node) → leads_by over before x node ≡ true → is_node_by over views x ≡ true → (p : ℕ) × (slice_get placed p ≡ Some x)
    early x e is =
        let k : times x placed + one_if (is_left comps insts x) ≡ 1 = is_one (is_node_by over views x) _ (h.each x) is in
        ⊎_elim
        (λ l. absurd (both_ways _ (free x l) e))
        (λ n. let z : one_if (is_left comps insts x) ≡ 0 = is_none (is_left comps insts x) _ refl n in found x placed (omega arith))
        (cases_Bool (is_left comps insts x))

-- what is hinted at stays so where more views are
more_hinted : (hc hi hc' hi' : ℕ) → ((v : ℕ) → in_set hc v ≡ true → in_set hc' v ≡ true) → ((w : ℕ) → in_set hi w ≡ true → in_set hi' w ≡ true) → (y : Node) → is_hinted hc hi y ≡ true → is_hinted hc' hi' y ≡ true
more_hinted hc hi hc' hi' c i (Comp v u) h = c v h
more_hinted hc hi hc' hi' c i (Inst w) h = i w h

-- a Comp was placed, the last one of its view or not
pub noted_comp : (views : ℕ) (over under before comps : List ℕ) (insts hc hi hc' hi' v u : ℕ) → AreTurned over under → AreNodesLeft views over comps insts → ((y : Node) → is_left comps insts y ≡ true → (is_hinted hc hi y ≡ true) ⊎ (IsLed over before comps insts y ⊎ (leads_by over before (Comp v u) y ≡ true))) → ((a : ℕ) → in_set hc a ≡ true → in_set hc' a ≡ true) → ((a : ℕ) → in_set hi' a ≡ ((eqb u a) || (eqb v a || in_set hi a))) → ((x : ℕ) × (in_rows comps v x ≡ true)) ⊎ ((a : ℕ) → in_rows under v a ≡ true → in_set hc' a ≡ true) → AreHints over before comps insts hc' hi'
noted_comp views over under before comps insts hc hi hc' hi' v u turned nodes h more insts_are done = record { each = each }
  where
    led : (y : Node) → is_left comps insts y ≡ true → leads_by over before (Comp v u) y ≡ true → (is_hinted hc' hi' y ≡ true) ⊎ IsLed over before comps insts y
    led (Inst w) l e =
        ⊎_elim
        (λ a. inl (insts_are w ∙ or_left (eqb u w) (eqb v w || in_set hi w) a))
        (λ a. inl (insts_are w ∙ or_right (eqb u w) (eqb v w || in_set hi w) (or_left (eqb v w) (in_set hi w) a)))
        (or_cases (eqb u w) (eqb v w) e)
    led (Comp a b) l e =
        let same : b ≡ v = eqb-true b v e in
        ⊎_elim
        (λ x. inr (Comp v x.0, x.1, e))
        (λ d. inl (d a (turned.each a v ∙ subst (λ z. in_rows over a z ≡ true) same (nodes.each (Comp a b) l))))
        done

    each : (y : Node) → is_left comps insts y ≡ true → (is_hinted hc' hi' y ≡ true) ⊎ IsLed over before comps insts y
    each y l =
        ⊎_elim
        (λ t. inl (more_hinted hc hi hc' hi' more (λ w s. insts_are w ∙ or_right (eqb u w) (eqb v w || in_set hi w) (or_right (eqb v w) (in_set hi w) s)) y t))
        (λ x. ⊎_elim (λ i. inr i) (λ e. led y l e) x)
        (h y l)

-- an Inst was placed
pub noted_inst : (views : ℕ) (over under before comps : List ℕ) (insts hc hi hc' u : ℕ) → AreTurned over under → ((y : Node) → is_left comps insts y ≡ true → (is_hinted hc hi y ≡ true) ⊎ (IsLed over before comps insts y ⊎ (leads_by over before (Inst u) y ≡ true))) → ((a : ℕ) → in_set hc' a ≡ (in_set hc a || in_rows under u a)) → AreHints over before comps insts hc' hi
noted_inst views over under before comps insts hc hi hc' u turned h comps_are = record { each = each }
  where
    led : (y : Node) → leads_by over before (Inst u) y ≡ true → (is_hinted hc' hi y ≡ true) ⊎ IsLed over before comps insts y
    led (Inst w) e = absurd (false≢true e)
    led (Comp a b) e = inl (comps_are a ∙ or_right _ _ (turned.each a u ∙ (and_parts _ _ e).0))

    each : (y : Node) → is_left comps insts y ≡ true → (is_hinted hc' hi y ≡ true) ⊎ IsLed over before comps insts y
    each y l =
        ⊎_elim
        (λ t. inl (more_hinted hc hi hc' hi (λ v s. comps_are v ∙ or_left _ _ s) (λ w s. s) y t))
        (λ x. ⊎_elim (λ i. inr i) (λ e. led y e) x)
        (h y l)
