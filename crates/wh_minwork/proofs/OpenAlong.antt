-- The first couple along a cycle that is not decided, in the cycle's expressions.
use Rattle.std.proofs.Common.{◌≡◌, ℕ, zero, suc, ◌+◌, ◌-◌, ◌<◌, ◌≤◌, List, [], ◌∷◌, ◌++◌, Bool, true, refl, sym, subst, length, map, drop, take, get_or, Some, Option, None, ⊎_elim, inl, inr, arith}
use Rattle.std.specs.Option.{MatchOption}
use Rattle.std.proofs.lemmas.List.{drop_more, drop_all, take_all}
use Rattle.std.proofs.lemmas.Option.{same_Some}
use Rattle.wh_dag.specs.declared.siblings.Couple.{Couple}
use Rattle.wh_strategy.specs.declared.expression.Expression.{Expression}
use Rattle.wh_strategy.specs.declared.expression.Expression.TheVariants.{Comp as comp, Inst as inst}
use Rattle.wh_strategy.specs.Expression.{At}
use Rattle.wh_cert.specs.Graph.{HasEdge}
use Rattle.wh_cert.specs.Search.{IsOpen}
use Rattle.wh_minwork.specs.Draft.{IsFirstOpen}
use Rattle.wh_minwork.specs.Left.{AreOf}
use Rattle.wh_minwork.specs.Inner.Left.{IsBetween, IsRound, IsRoundTo, Passes, PassesTo}
use Rattle.wh_minwork.specs.Inner.Nodes.{expression_of, leads}
use Rattle.wh_minwork.specs.declared.node.Node.{Node}
use Rattle.wh_minwork.specs.declared.node.Node.TheVariants.{Comp, Inst}
use Rattle.wh_minwork.proofs.Edges.{leads_edge}

-- in these expressions the couple's edge leads on from this place, and each edge before it is there by decisions
record Meets (shape : List (List ℕ)) (ds : List (ℕ × ℕ)) (couple : Couple) (list : List Expression) : Type 0 where
  pub place : ℕ
  pub u : ℕ
  pub w : ℕ
  pub v : ℕ
  pub views : AreOf couple u w
  pub from : At list place (inst u)
  pub to : At list (place + 1) (comp v (w ∷ []))
  pub earlier : (p : ℕ) (x y : Expression) → p < place → At list p x → At list (p + 1) y → HasEdge shape ds x y

here : (shape : List (List ℕ)) (ds : List (ℕ × ℕ)) (couple : Couple) (x y : Node) (rest : List Expression) → IsBetween couple x y → Meets shape ds couple (expression_of x ∷ expression_of y ∷ rest)
here shape ds couple (Inst u) (Comp v w) rest h = record {
  place = 0;
  u = u;
  w = w;
  v = v;
  views = h;
  from = refl;
  to = refl;
  earlier = λ p x y l a b. absurd (omega arith);
}
here shape ds couple (Inst u) (Inst w) rest h = absurd h
here shape ds couple (Comp v u) y rest h = absurd h

there : (shape : List (List ℕ)) (ds : List (ℕ × ℕ)) (couple : Couple) (a b : Expression) (rest : List Expression) → HasEdge shape ds a b → Meets shape ds couple (b ∷ rest) → Meets shape ds couple (a ∷ b ∷ rest)
there shape ds couple a b rest e m = record {
  place = suc m.place;
  u = m.u;
  w = m.w;
  v = m.v;
  views = m.views;
  from = m.from;
  to = subst (λ z. At (a ∷ b ∷ rest) z (comp m.v (m.w ∷ []))) (next m.place) m.to;
  earlier = early;
}
  where
    next : (k : ℕ) → suc (k + 1) ≡ suc k + 1
    next k = omega arith

    early : (p : ℕ) (x y : Expression) → p < suc m.place → At (a ∷ b ∷ rest) p x → At (a ∷ b ∷ rest) (p + 1) y → HasEdge shape ds x y
    early zero x y l at at' = subst (λ z. HasEdge shape ds z y) (same_Some a x at) (subst (λ z. HasEdge shape ds a z) (same_Some b y at') e)
    early (suc p) x y l at at' = m.earlier p x y (omega arith) at (subst (λ z. At (a ∷ b ∷ rest) z y) (sym (next p)) at')

along : (shape : List (List ℕ)) (ds : List (ℕ × ℕ)) (couple : Couple) (x : Node) (ys : List Node) (z : Node) → PassesTo (leads shape ds) couple x ys z → Meets shape ds couple (expression_of x ∷ (map expression_of ys ++ expression_of z ∷ []))
along shape ds couple x [] z h = here shape ds couple x z [] h
along shape ds couple x (y ∷ ys) z h =
    ⊎_elim
    (λ t. here shape ds couple x y (map expression_of ys ++ expression_of z ∷ []) t)
    (λ t. there shape ds couple (expression_of x) (expression_of y) (map expression_of ys ++ expression_of z ∷ []) (leads_edge shape ds x y t.0) (along shape ds couple y ys z t.1))
    h

pub round_to_first : (shape : List (List ℕ)) (ds : List (ℕ × ℕ)) (couple : Couple) (xs : List Node) → IsOpen shape ds couple → IsRoundTo (leads shape ds) couple xs → IsFirstOpen shape ds (map expression_of xs) couple
round_to_first shape ds couple [] o h = absurd h
round_to_first shape ds couple (x ∷ xs) o h =
    let m = along shape ds couple x xs x h in
    record {
      undecided = o;
      first = m.u;
      second = m.w;
      parent = m.v;
      views = m.views;
      place = m.place;
      from = m.from;
      to = m.to;
      earlier = m.earlier;
    }

-- ---- a list that is gone along

-- the next edge is the couple's
pub next_is : (edge : Node → Node → Bool) (couple : Couple) (last first none : Node) (rest : List Node) (k : ℕ) → k < length rest → IsBetween couple last (get_or rest k none) → PassesTo edge couple last (drop k rest) first
next_is edge couple last first none rest k l h = subst (λ z. PassesTo edge couple last z first) (sym (drop_more rest k none l)) (inl h)

-- the next edge is there, and a later one is the couple's
pub later_is : (edge : Node → Node → Bool) (couple : Couple) (last first none : Node) (rest : List Node) (k : ℕ) → k < length rest → edge last (get_or rest k none) ≡ true → PassesTo edge couple (get_or rest k none) (drop (k + 1) rest) first → PassesTo edge couple last (drop k rest) first
later_is edge couple last first none rest k l e h = subst (λ z. PassesTo edge couple last z first) (sym (drop_more rest k none l)) (inr (e, h))

-- the edge back to the first one is the couple's
pub last_is : (edge : Node → Node → Bool) (couple : Couple) (last first : Node) (rest : List Node) (k : ℕ) → length rest ≤ k → IsBetween couple last first → PassesTo edge couple last (drop k rest) first
last_is edge couple last first rest k l h = subst (λ z. PassesTo edge couple last z first) (sym (drop_all k rest l)) h

-- the next node, and what lies ahead of it
pub next_pass : (edge : Node → Node → Bool) (node : Node → Bool) (last first none : Node) (rest : List Node) (k : ℕ) → k < length rest → Passes edge node last (drop k rest) first → (node (get_or rest k none) ≡ true) × (edge last (get_or rest k none) ≡ true) × Passes edge node (get_or rest k none) (drop (k + 1) rest) first
next_pass edge node last first none rest k l h = subst (λ z. Passes edge node last z first) (drop_more rest k none l) h

pub pass_next : (edge : Node → Node → Bool) (node : Node → Bool) (last first none : Node) (rest : List Node) (k : ℕ) → k < length rest → (node (get_or rest k none) ≡ true) × (edge last (get_or rest k none) ≡ true) × Passes edge node (get_or rest k none) (drop (k + 1) rest) first → Passes edge node last (drop k rest) first
pass_next edge node last first none rest k l h = subst (λ z. Passes edge node last z first) (sym (drop_more rest k none l)) h

pub pass_end : (edge : Node → Node → Bool) (node : Node → Bool) (last first : Node) (rest : List Node) (k : ℕ) → length rest ≤ k → edge last first ≡ true → Passes edge node last (drop k rest) first
pass_end edge node last first rest k l h = subst (λ z. Passes edge node last z first) (sym (drop_all k rest l)) h

-- from the first one of a cycle
pub round_from : (edge : Node → Node → Bool) (couple : Couple) (none : Node) (cycle : List Node) → 1 ≤ length cycle → PassesTo edge couple (get_or cycle 0 none) (take (length cycle - 1) (drop 1 cycle)) (get_or cycle 0 none) → IsRoundTo edge couple cycle
round_from edge couple none [] l h = absurd (omega arith)
round_from edge couple none (x ∷ xs) l h = subst (λ z. PassesTo edge couple x z x) (take_all (length (x ∷ xs) - 1) xs (omega arith)) h

pub round_whole : (edge : Node → Node → Bool) (node : Node → Bool) (none : Node) (cycle : List Node) → 1 ≤ length cycle → node (get_or cycle 0 none) ≡ true → Passes edge node (get_or cycle 0 none) (take (length cycle - 1) (drop 1 cycle)) (get_or cycle 0 none) → IsRound edge node cycle
round_whole edge node none [] l is h = absurd (omega arith)
round_whole edge node none (x ∷ xs) l is h = (is, subst (λ z. Passes edge node x z x) (take_all (length (x ∷ xs) - 1) xs (omega arith)) h)

pub first_node : (edge : Node → Node → Bool) (node : Node → Bool) (none : Node) (cycle : List Node) → IsRound edge node cycle → node (get_or cycle 0 none) ≡ true
first_node edge node none [] h = absurd h
first_node edge node none (x ∷ xs) h = h.0

pub told_more : {A : Type 0} (o : Option A) (P P' : Type 0) (Q Q' : A → Type 0) → (P → P') → ((x : A) → Q x → Q' x) → MatchOption o P Q → MatchOption o P' Q'
told_more None P P' Q Q' f g h = f h
told_more (Some x) P P' Q Q' f g h = g x h
