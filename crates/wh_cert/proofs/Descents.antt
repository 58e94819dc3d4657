-- A walk over the nodes of a tree in preorder.
use Rattle.std.proofs.Common.{◌≡◌, ℕ, zero, suc, ◌+◌, ◌<◌, ◌≤◌, List, [], ◌∷◌, ◌++◌, true, false, cond, nat_lt, Some, refl, sym, ap, ◌∙◌, subst, length, map, take, drop, get_or, ⊎_elim, arith}
use Rattle.std.specs.List.{All}
use Rattle.std.proofs.lemmas.List.{append_assoc, map-append, length-map, drop_more, take_more, take_all, append-nil, get_or-map}
use Rattle.std.proofs.lemmas.List.Elements.{All-append}
use Rattle.std.proofs.lemmas.Option.{slice_get-get_or}
use Rattle.std.proofs.lemmas.Bool.{and_parts, cases_Bool, cond-true, cond-false, le-ltb, ltb-true}
use Rattle.wh_strategy.specs.Prices.{Prices}
use Rattle.wh_strategy.specs.declared.sizes.Size.{Size}
use Rattle.wh_cert.specs.Inner.Descent.{turned, past}
use Rattle.wh_cert.specs.Search.{Placed, IsGood, IsGoodNode, IsFirstBad, lower_first, higher_first, nodes_below, nodes_of}
use Rattle.wh_cert.specs.Tree.{CaseTree, Bound, Cycle, Branch, preorder, depth, IsTreeOf}
use Rattle.wh_cert.specs.declared.tree.TreeNode.{TreeNode}
use Rattle.wh_cert.specs.declared.tree.TreeNode.TheVariants as node

-- ---- the nodes where they stand are the nodes

pub nodes_alone : (above : List (ℕ × ℕ)) (tree : CaseTree) → map (λ p. p.node) (nodes_below above tree) ≡ preorder tree
nodes_alone above Bound = refl
nodes_alone above (Cycle list) = refl
nodes_alone above (Branch couple left right) =
    ap (λ nodes. node.Branch couple ∷ nodes)
    (map-append (λ p. p.node) (nodes_below (lower_first couple ∷ above) left) (nodes_below (higher_first couple ∷ above) right)
    ∙ ap (λ nodes. nodes ++ map (λ p. p.node) (nodes_below (higher_first couple ∷ above) right)) (nodes_alone (lower_first couple ∷ above) left)
    ∙ ap (λ nodes. preorder left ++ nodes) (nodes_alone (higher_first couple ∷ above) right))

-- fewer decisions than this are above
abbrev pub IsBelow : ℕ → Placed → Type 0
IsBelow n p = length p.above < n

one_holds : (P : Placed → Type 0) (p : Placed) → P p → All P (p ∷ [])
one_holds P p h zero d l = h
one_holds P p h (suc k) d l = absurd (omega arith)

-- no node is deeper than the tree
pub above_within : (n : ℕ) (above : List (ℕ × ℕ)) (tree : CaseTree) → length above + depth tree ≤ n → All (IsBelow n) (nodes_below above tree)
above_within n above Bound l = one_holds (IsBelow n) (record { above = above; node = node.Bound }) (omega arith)
above_within n above (Cycle list) l = one_holds (IsBelow n) (record { above = above; node = node.Cycle list }) (omega arith)
above_within n above (Branch couple left right) l =
    All-append (IsBelow n) (record { above = above; node = node.Branch couple } ∷ []) (nodes_below (lower_first couple ∷ above) left ++ nodes_below (higher_first couple ∷ above) right)
    (one_holds (IsBelow n) (record { above = above; node = node.Branch couple }) (omega arith))
    (All-append (IsBelow n) (nodes_below (lower_first couple ∷ above) left) (nodes_below (higher_first couple ∷ above) right)
    (above_within n (lower_first couple ∷ above) left (omega arith))
    (above_within n (higher_first couple ∷ above) right (omega arith)))

-- ---- what is still ahead

-- the first of these trees stands below these decisions, and the rest of the nodes follow
abbrev pub next_below : List (ℕ × ℕ) → (List CaseTree → List Placed) → List CaseTree → List Placed
next_below above later [] = []
next_below above later (tree ∷ trees) = nodes_below above tree ++ later trees

-- the nodes after a subtree that is below these decisions, where these trees are still to come
abbrev pub later : List (ℕ × ℕ) → List CaseTree → List Placed
later [] trees = []
later (d ∷ above) trees = cond (nat_lt d.0 d.1) (next_below ((d.1, d.0) ∷ above) (later above) trees) (later above trees)

abbrev pub ahead : List (ℕ × ℕ) → List CaseTree → List Placed
ahead above trees = next_below above (later above) trees

turned_first : (d : ℕ × ℕ) (above : List (ℕ × ℕ)) → nat_lt d.0 d.1 ≡ true → turned (d ∷ above) ≡ (d.1, d.0) ∷ above
turned_first d above e = cond-true (nat_lt d.0 d.1) ((d.1, d.0) ∷ above) (turned above) e

turned_over : (d : ℕ × ℕ) (above : List (ℕ × ℕ)) → nat_lt d.0 d.1 ≡ false → turned (d ∷ above) ≡ turned above
turned_over d above e = cond-false (nat_lt d.0 d.1) ((d.1, d.0) ∷ above) (turned above) e

later_first : (d : ℕ × ℕ) (above : List (ℕ × ℕ)) (trees : List CaseTree) → nat_lt d.0 d.1 ≡ true → later (d ∷ above) trees ≡ next_below ((d.1, d.0) ∷ above) (later above) trees
later_first d above trees e = cond-true (nat_lt d.0 d.1) (next_below ((d.1, d.0) ∷ above) (later above) trees) (later above trees) e

later_over : (d : ℕ × ℕ) (above : List (ℕ × ℕ)) (trees : List CaseTree) → nat_lt d.0 d.1 ≡ false → later (d ∷ above) trees ≡ later above trees
later_over d above trees e = cond-false (nat_lt d.0 d.1) (next_below ((d.1, d.0) ∷ above) (later above) trees) (later above trees) e

not_both : (a b : ℕ) → nat_lt a b ≡ true → nat_lt b a ≡ false
not_both a b e = let l = ltb-true a b e in le-ltb b a (omega arith)

next_swapped : (d : ℕ × ℕ) (above : List (ℕ × ℕ)) (trees : List CaseTree) → nat_lt d.0 d.1 ≡ true → next_below ((d.1, d.0) ∷ above) (later above) trees ≡ ahead ((d.1, d.0) ∷ above) trees
next_swapped d above [] e = refl
next_swapped d above (tree ∷ trees) e = ap (λ z. nodes_below ((d.1, d.0) ∷ above) tree ++ z) (sym (later_over (d.1, d.0) above trees (not_both d.0 d.1 e)))

-- from the end of a subtree the walk goes on to the next one
ahead_turned : (above : List (ℕ × ℕ)) (trees : List CaseTree) → (others : List CaseTree) × (later above trees ≡ ahead (turned above) others)
ahead_turned [] trees = ([], refl)
ahead_turned (d ∷ above) trees =
    ⊎_elim
    (λ e. (trees, later_first d above trees e ∙ next_swapped d above trees e ∙ ap (λ z. ahead z trees) (sym (turned_first d above e))))
    (λ e. let r = ahead_turned above trees in (r.0, later_over d above trees e ∙ r.1 ∙ ap (λ z. ahead z r.0) (sym (turned_over d above e))))
    (cases_Bool (nat_lt d.0 d.1))

same_head : (p q : Placed) (ps qs : List Placed) → p ∷ ps ≡ q ∷ qs → p ≡ q
same_head p q ps qs e = cc

same_tail : (p q : Placed) (ps qs : List Placed) → p ∷ ps ≡ q ∷ qs → ps ≡ qs
same_tail p q ps qs e = cc

nothing_first : (p : Placed) (ps : List Placed) → ◌≡◌ {A = List Placed} [] (p ∷ ps) → ⊥
nothing_first p ps e = cc

-- the first node ahead stands below these decisions
head_above : (above : List (ℕ × ℕ)) (trees : List CaseTree) (p : Placed) (rest : List Placed) → ahead above trees ≡ p ∷ rest → p.above ≡ above
head_above above [] p rest e = absurd (nothing_first p rest e)
head_above above (Bound ∷ trees) p rest e = ap (λ z. z.above) (sym (same_head (record { above = above; node = node.Bound }) p (later above trees) rest e))
head_above above (Cycle list ∷ trees) p rest e = ap (λ z. z.above) (sym (same_head (record { above = above; node = node.Cycle list }) p (later above trees) rest e))
head_above above (Branch couple left right ∷ trees) p rest e =
    ap (λ z. z.above) (sym (same_head (record { above = above; node = node.Branch couple }) p ((nodes_below (lower_first couple ∷ above) left ++ nodes_below (higher_first couple ∷ above) right) ++ later above trees) rest e))

-- a branch names its lower view first
abbrev pub Rises : TreeNode → Type 0
Rises node.Bound = Unit {0}
Rises (node.Cycle list) = Unit {0}
Rises (node.Branch couple) = nat_lt couple.lower couple.higher ≡ true

pub good_rises : (shape : List (List ℕ)) (sizes : ℕ → Size) (prices : Prices) (work : ℕ) (above : List (ℕ × ℕ)) (x : TreeNode) → IsGood shape sizes prices work above x → Rises x
good_rises shape sizes prices work above node.Bound good = tt
good_rises shape sizes prices work above (node.Cycle list) good = tt
good_rises shape sizes prices work above (node.Branch couple) good = (and_parts _ _ good.couple).0

after_leaf : (above : List (ℕ × ℕ)) (trees : List CaseTree) (leaf x : TreeNode) (rest : List Placed) → past leaf above ≡ turned above → record { above = above; node = leaf } ∷ later above trees ≡ record { above = above; node = x } ∷ rest → (others : List CaseTree) × (rest ≡ ahead (past x above) others)
after_leaf above trees leaf x rest is e =
    let r = ahead_turned above trees in
    let h : leaf ≡ x = ap (λ p. p.node) (same_head (record { above = above; node = leaf }) (record { above = above; node = x }) (later above trees) rest e) in
    (r.0, sym (same_tail (record { above = above; node = leaf }) (record { above = above; node = x }) (later above trees) rest e) ∙ r.1 ∙ ap (λ z. ahead z r.0) (sym is ∙ ap (λ z. past z above) h))

-- past a node the walk is at the next one
pub goes_on : (above : List (ℕ × ℕ)) (trees : List CaseTree) (x : TreeNode) (rest : List Placed) → Rises x → ahead above trees ≡ record { above = above; node = x } ∷ rest → (others : List CaseTree) × (rest ≡ ahead (past x above) others)
goes_on above [] x rest rises e = absurd (nothing_first (record { above = above; node = x }) rest e)
goes_on above (Bound ∷ trees) x rest rises e = after_leaf above trees node.Bound x rest refl e
goes_on above (Cycle list ∷ trees) x rest rises e = after_leaf above trees (node.Cycle list) x rest refl e
goes_on above (Branch couple left right ∷ trees) x rest rises e =
    let lefts = nodes_below (lower_first couple ∷ above) left in
    let rights = nodes_below (higher_first couple ∷ above) right in
    let h : node.Branch couple ≡ x = ap (λ p. p.node) (same_head (record { above = above; node = node.Branch couple }) (record { above = above; node = x }) ((lefts ++ rights) ++ later above trees) rest e) in
    let up : nat_lt couple.lower couple.higher ≡ true = subst Rises (sym h) rises in (
      left ∷ right ∷ trees,
      sym (same_tail (record { above = above; node = node.Branch couple }) (record { above = above; node = x }) ((lefts ++ rights) ++ later above trees) rest e)
          ∙ append_assoc lefts rights (later above trees)
          ∙ ap (λ z. lefts ++ z) (sym (later_first (lower_first couple) above (right ∷ trees) up))
          ∙ ap (λ z. ahead (past z above) (left ∷ right ∷ trees)) h,
    )

-- ---- the walk at a node

pub begins : (tree : CaseTree) → nodes_of tree ≡ ahead [] (tree ∷ [])
begins tree = sym (append-nil (nodes_of tree))

pub as_many : (tree : CaseTree) (nodes : List TreeNode) → IsTreeOf nodes tree → length (nodes_of tree) ≡ length nodes
as_many tree nodes h = sym (length-map (nodes_of tree) (λ p. p.node)) ∙ ap length (nodes_alone [] tree ∙ h.0)

-- the node of the list stands where the walk is
pub stands_here : (tree : CaseTree) (nodes : List TreeNode) → IsTreeOf nodes tree → (i : ℕ) (x : TreeNode) → i < length nodes → x ≡ get_or nodes i x → (above : List (ℕ × ℕ)) (trees : List CaseTree) → drop i (nodes_of tree) ≡ ahead above trees
    → get_or (nodes_of tree) i (record { above = above; node = x }) ≡ record { above = above; node = x }
stands_here tree nodes h i x l is above trees e =
    let here : Placed = record { above = above; node = x } in
    let placed = nodes_of tree in
    let p : Placed = get_or placed i here in
    let many = as_many tree nodes h in
    let lt : i < length placed = omega arith in
    let a : p.above ≡ above = head_above above trees p (drop (i + 1) placed) (sym e ∙ drop_more placed i here lt) in
    let n : p.node ≡ x = sym (get_or-map (λ q. q.node) placed i here x lt) ∙ ap (λ z. get_or z i x) (nodes_alone [] tree ∙ h.0) ∙ sym is in
    ap (λ z. record { above = z; node = p.node }) a ∙ ap (λ z. record { above = above; node = z }) n

pub ahead_here : (tree : CaseTree) (nodes : List TreeNode) → IsTreeOf nodes tree → (i : ℕ) (x : TreeNode) → i < length nodes → x ≡ get_or nodes i x → (above : List (ℕ × ℕ)) (trees : List CaseTree) → drop i (nodes_of tree) ≡ ahead above trees
    → ahead above trees ≡ record { above = above; node = x } ∷ drop (i + 1) (nodes_of tree)
ahead_here tree nodes h i x l is above trees e =
    let here : Placed = record { above = above; node = x } in
    let many = as_many tree nodes h in
    let lt : i < length (nodes_of tree) = omega arith in
    sym e ∙ drop_more (nodes_of tree) i here lt ∙ ap (λ p. p ∷ drop (i + 1) (nodes_of tree)) (stands_here tree nodes h i x l is above trees e)

pub has_room : (tree : CaseTree) (nodes : List TreeNode) → IsTreeOf nodes tree → (i : ℕ) (x : TreeNode) → i < length nodes → x ≡ get_or nodes i x → (above : List (ℕ × ℕ)) (trees : List CaseTree) → drop i (nodes_of tree) ≡ ahead above trees → length above < 1000
has_room tree nodes h i x l is above trees e =
    let here : Placed = record { above = above; node = x } in
    let many = as_many tree nodes h in
    let deep : depth tree ≤ 1000 = h.1 in
    let all : All (IsBelow 1000) (nodes_of tree) = above_within 1000 [] tree (omega arith) in
    subst (IsBelow 1000) (stands_here tree nodes h i x l is above trees e) (all i here (omega arith))

pub all_so_far : (P : Placed → Type 0) (tree : CaseTree) (nodes : List TreeNode) → IsTreeOf nodes tree → (i : ℕ) (x : TreeNode) → i < length nodes → x ≡ get_or nodes i x → (above : List (ℕ × ℕ)) (trees : List CaseTree) → drop i (nodes_of tree) ≡ ahead above trees
    → All P (take i (nodes_of tree)) → P (record { above = above; node = x }) → All P (take (i + 1) (nodes_of tree))
all_so_far P tree nodes h i x l is above trees e before good =
    let here : Placed = record { above = above; node = x } in
    let many = as_many tree nodes h in
    let lt : i < length (nodes_of tree) = omega arith in
    subst (All P) (sym (take_more (nodes_of tree) i here lt ∙ ap (λ p. take i (nodes_of tree) ++ p ∷ []) (stands_here tree nodes h i x l is above trees e)))
    (All-append P (take i (nodes_of tree)) (here ∷ []) before (one_holds P here good))

pub first_bad_here : (shape : List (List ℕ)) (sizes : ℕ → Size) (prices : Prices) (work : ℕ) (tree : CaseTree) (nodes : List TreeNode) → IsTreeOf nodes tree → (i : ℕ) (x : TreeNode) → i < length nodes → x ≡ get_or nodes i x → (above : List (ℕ × ℕ)) (trees : List CaseTree) → drop i (nodes_of tree) ≡ ahead above trees
    → All (IsGoodNode shape sizes prices work) (take i (nodes_of tree)) → (IsGood shape sizes prices work above x → ⊥) → IsFirstBad shape sizes prices work tree (i + 1)
first_bad_here shape sizes prices work tree nodes h i x l is above trees e before bad =
    let here : Placed = record { above = above; node = x } in
    let many = as_many tree nodes h in
    record {
      index = i;
      counted = refl;
      placed = here;
      there = slice_get-get_or (nodes_of tree) i here (omega arith) ∙ ap Some (stands_here tree nodes h i x l is above trees e);
      bad = bad;
      earlier = before;
    }

pub all_of_them : (P : Placed → Type 0) (tree : CaseTree) (nodes : List TreeNode) → IsTreeOf nodes tree → (i : ℕ) → length nodes ≤ i → All P (take i (nodes_of tree)) → All P (nodes_of tree)
all_of_them P tree nodes h i l all = let many = as_many tree nodes h in subst (All P) (take_all i (nodes_of tree) (omega arith)) all
