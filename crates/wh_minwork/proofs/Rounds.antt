-- A walk back along edges between nodes, and the cycle that it closes.
use Rattle.std.proofs.Common.{◌≡◌, ◌≢◌, ℕ, zero, suc, ◌+◌, ◌<◌, ◌≤◌, List, [], ◌∷◌, Bool, true, false, not, ◌&&◌, refl, sym, ap, ◌∙◌, subst, length, map, take, get_or, slice_get, Some, add-one, ⊎_elim, arith}
use Rattle.std.specs.List.{All}
use Rattle.std.proofs.lemmas.Option.{none-some, same_Some}
use Rattle.std.proofs.lemmas.Bool.{cases_Bool}
use Rattle.wh_cert.specs.Graph.{Leads, IsCycle}
use Rattle.wh_minwork.specs.Inner.Nodes.{expression_of, is_node, leads, one, one_if, same_node, times}
use Rattle.wh_minwork.specs.Inner.Left.{IsRound, Passes, is_left}
use Rattle.wh_minwork.specs.declared.node.Node.{Node}
use Rattle.wh_minwork.specs.Inner.Sorting.{IsSimpleRound}
use Rattle.wh_minwork.proofs.Counting.{at_most_one, same_is, times_none, twice, get_mapped, get_value, get_some}
use Rattle.wh_minwork.proofs.Edges.{expression_same, node_is, leads_edge}

-- a walk back along edges, the last node first
abbrev pub IsBackwards : (Node → Node → Bool) → (Node → Bool) → Node → List Node → Type 0
IsBackwards edge node x [] = node x ≡ true
IsBackwards edge node x (y ∷ ys) = (node x ≡ true) × (edge x y ≡ true) × IsBackwards edge node y ys

-- a walk back among nodes that are left, of which it has not met the fresh ones, and the node to go to next
pub record IsWalking (edge : Node → Node → Bool) (node : Node → Bool) (comps : List ℕ) (insts : ℕ) (fresh_comps : List ℕ) (fresh_insts : ℕ) (next : Node) (walk : List Node) : Type 0 where
  pub last : Node
  pub behind : List Node
  pub front : walk ≡ last ∷ behind
  pub walked : IsBackwards edge node last behind
  pub parted : (e : Node) → times e walk + one_if (is_left fresh_comps fresh_insts e) ≡ one_if (is_left comps insts e)
  pub back : edge next last ≡ true

-- the node that is met now is fresh no more
parted_more : (fresh fresh' : List ℕ) (f f' : ℕ) (x : Node) (walk : List Node) (all : Node → ℕ) → is_left fresh f x ≡ true → ((e : Node) → is_left fresh' f' e ≡ (not (same_node x e) && is_left fresh f e)) → ((e : Node) → times e walk + one_if (is_left fresh f e) ≡ all e) → (e : Node) → times e (x ∷ walk) + one_if (is_left fresh' f' e) ≡ all e
unfolding times
parted_more fresh fresh' f f' x walk all l taken h e =
    let k : times e walk + one_if (is_left fresh f e) ≡ all e = h e in
    ⊎_elim
    (λ (s : same_node x e ≡ true).
    let here : is_left fresh f e ≡ true = subst (λ z. is_left fresh f z ≡ true) (same_is x e s) l in
    let a : one_if (is_left fresh f e) ≡ 1 = ap one_if here in
    let b : one_if (is_left fresh' f' e) ≡ 0 = ap one_if (taken e ∙ ap (λ z. not z && is_left fresh f e) s) in
    let m : one x e ≡ 1 = ap one_if s in
    omega arith)
    (λ (n : same_node x e ≡ false).
    let b : one_if (is_left fresh' f' e) ≡ one_if (is_left fresh f e) = ap one_if (taken e ∙ ap (λ z. not z && is_left fresh f e) n) in
    let m : one x e ≡ 0 = ap one_if n in
    omega arith)
    (cases_Bool (same_node x e))

pub walking_start : (edge : Node → Node → Bool) (node : Node → Bool) (comps fresh : List ℕ) (insts f : ℕ) (x next : Node) → node x ≡ true → is_left comps insts x ≡ true → edge next x ≡ true → ((e : Node) → is_left fresh f e ≡ (not (same_node x e) && is_left comps insts e)) → IsWalking edge node comps insts fresh f next (x ∷ [])
unfolding times
walking_start edge node comps fresh insts f x next n l e taken = record {
  last = x;
  behind = [];
  front = refl;
  walked = n;
  parted = parted_more comps fresh insts f x [] (λ y. one_if (is_left comps insts y)) l taken (λ y. omega arith);
  back = e;
}

pub walking_more : (edge : Node → Node → Bool) (node : Node → Bool) (comps fresh fresh' : List ℕ) (insts f f' : ℕ) (x next : Node) (walk : List Node) → IsWalking edge node comps insts fresh f x walk → node x ≡ true → is_left fresh f x ≡ true → edge next x ≡ true → ((e : Node) → is_left fresh' f' e ≡ (not (same_node x e) && is_left fresh f e)) → IsWalking edge node comps insts fresh' f' next (x ∷ walk)
walking_more edge node comps fresh fresh' insts f f' x next walk h n l e taken = record {
  last = x;
  behind = walk;
  front = refl;
  walked = subst (IsBackwards edge node x) (sym h.front) (n, h.back, h.walked);
  parted = parted_more fresh fresh' f f' x walk (λ y. one_if (is_left comps insts y)) l taken h.parted;
  back = e;
}

-- the next node is fresh, or the walk has met it
pub walking_meets : (edge : Node → Node → Bool) (node : Node → Bool) (comps fresh : List ℕ) (insts f : ℕ) (next : Node) (walk : List Node) → IsWalking edge node comps insts fresh f next walk → is_left comps insts next ≡ true → is_left fresh f next ≡ false → All (λ e. e ≢ next) walk → ⊥
walking_meets edge node comps fresh insts f next walk h l n none =
    let k = h.parted next in
    let a : one_if (is_left comps insts next) ≡ 1 = ap one_if l in
    let b : one_if (is_left fresh f next) ≡ 0 = ap one_if n in
    let m = times_none next walk none in
    omega arith

times_take : (e : Node) (xs : List Node) (k : ℕ) → times e (take k xs) ≤ times e xs
unfolding times
times_take e [] zero = omega arith
times_take e [] (suc k) = omega arith
times_take e (x ∷ xs) zero = omega arith
times_take e (x ∷ xs) (suc k) = let l : times e (take k xs) ≤ times e xs = times_take e xs k in omega arith

-- no node stands twice in a walk, nor in a part of it
pub walking_once : (edge : Node → Node → Bool) (node : Node → Bool) (comps fresh : List ℕ) (insts f : ℕ) (next : Node) (walk : List Node) (k : ℕ) (e : Node) → IsWalking edge node comps insts fresh f next walk → times e (take k walk) ≤ 1
walking_once edge node comps fresh insts f next walk k e h =
    let p = h.parted e in
    let few : one_if (is_left comps insts e) ≤ 1 = at_most_one (is_left comps insts e) _ refl in
    let t = times_take e walk k in
    omega arith

take_front : (x : Node) (xs : List Node) (j : ℕ) → take (j + 1) (x ∷ xs) ≡ x ∷ take j xs
take_front x xs j = rw add-one refl

backwards_node : (edge : Node → Node → Bool) (node : Node → Bool) (x : Node) (ys : List Node) → IsBackwards edge node x ys → node x ≡ true
backwards_node edge node x [] h = h
backwards_node edge node x (y ∷ ys) h = h.0

backwards_pass : (edge : Node → Node → Bool) (node : Node → Bool) (x : Node) (ys : List Node) (j : ℕ) (y z : Node) → IsBackwards edge node x ys → slice_get (x ∷ ys) j ≡ Some y → edge y z ≡ true → Passes edge node x (take j ys) z
backwards_pass edge node x ys zero y z h at e = subst (λ w. edge w z ≡ true) (sym (same_Some x y at)) e
backwards_pass edge node x [] (suc j) y z h at e = absurd (none-some y at)
backwards_pass edge node x (w ∷ ws) (suc j) y z h at e = (backwards_node edge node w ws h.2, h.1, backwards_pass edge node w ws j y z h.2 at e)

pub walking_closes : (edge : Node → Node → Bool) (node : Node → Bool) (comps fresh : List ℕ) (insts f : ℕ) (next : Node) (walk : List Node) (j : ℕ) → IsWalking edge node comps insts fresh f next walk → j < length walk → get_or walk j next ≡ next → IsRound edge node (take (j + 1) walk)
walking_closes edge node comps fresh insts f next walk j h l is =
    let y = get_some walk j l in
    let same : y.0 ≡ next = sym (get_value walk j y.0 next y.1) ∙ is in
    let at : slice_get (h.last ∷ h.behind) j ≡ Some next = subst (λ z. slice_get z j ≡ Some next) h.front (subst (λ z. slice_get walk j ≡ Some z) same y.1) in
    subst (IsRound edge node) (sym (ap (λ z. take (j + 1) z) h.front ∙ take_front h.last h.behind j))
    (backwards_node edge node h.last h.behind h.walked, backwards_pass edge node h.last h.behind j next h.last h.walked at h.back)

-- the same edges and nodes told otherwise
pub passes_move : (edge edge' : Node → Node → Bool) (node node' : Node → Bool) → ((x y : Node) → edge x y ≡ true → edge' x y ≡ true) → ((x : Node) → node x ≡ true → node' x ≡ true) → (x : Node) (ys : List Node) (z : Node) → Passes edge node x ys z → Passes edge' node' x ys z
passes_move edge edge' node node' s t x [] z h = s x z h
passes_move edge edge' node node' s t x (y ∷ ys) z h = (t y h.0, s x y h.1, passes_move edge edge' node node' s t y ys z h.2)

pub round_moves : (edge edge' : Node → Node → Bool) (node node' : Node → Bool) → ((x y : Node) → edge x y ≡ true → edge' x y ≡ true) → ((x : Node) → node x ≡ true → node' x ≡ true) → (xs : List Node) → IsRound edge node xs → IsRound edge' node' xs
round_moves edge edge' node node' s t [] h = h
round_moves edge edge' node node' s t (x ∷ xs) h = (t x h.0, passes_move edge edge' node node' s t x xs x h.1)

-- a cycle of expressions
passes_leads : (shape : List (List ℕ)) (decided : List (ℕ × ℕ)) (x : Node) (ys : List Node) (z : Node) → Passes (leads shape decided) (is_node shape) x ys z → Leads shape decided (expression_of x) (map expression_of ys) (expression_of z)
passes_leads shape decided x [] z h = leads_edge shape decided x z h
passes_leads shape decided x (y ∷ ys) z h = (node_is shape y h.0, leads_edge shape decided x y h.1, passes_leads shape decided y ys z h.2)

pub round_is_cycle : (shape : List (List ℕ)) (decided : List (ℕ × ℕ)) (xs : List Node) → IsRound (leads shape decided) (is_node shape) xs → IsCycle shape decided (map expression_of xs)
round_is_cycle shape decided [] h = h
round_is_cycle shape decided (x ∷ xs) h = (node_is shape x h.0, passes_leads shape decided x xs x h.1)

-- a cycle of nodes, none of which stands twice in it
pub simple_round : (shape : List (List ℕ)) (decided : List (ℕ × ℕ)) (xs : List Node) → IsRound (leads shape decided) (is_node shape) xs → ((e : Node) → times e xs ≤ 1) → IsSimpleRound shape decided xs
simple_round shape decided xs h few = record {
  round = h;
  simple = record {
    cycle = round_is_cycle shape decided xs h;
    once = λ p q e a b.
        let n = get_mapped expression_of xs p e a in
        let m = get_mapped expression_of xs q e b in
        let same : m.0 ≡ n.0 = expression_same m.0 n.0 (m.2 ∙ sym n.2) in
        twice n.0 xs p q n.1 (subst (λ z. slice_get xs q ≡ Some z) same m.1) (few n.0);
  };
}
