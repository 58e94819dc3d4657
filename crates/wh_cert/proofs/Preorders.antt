-- A list of nodes is that of one tree at most.
use Rattle.std.proofs.Common.{◌≡◌, ℕ, ◌-◌, ◌<◌, ◌≤◌, List, [], ◌∷◌, ◌++◌, Option, Some, None, MatchOption, refl, sym, ap, ◌∙◌, subst, length, take, drop, get_or, arith}
use Rattle.std.proofs.lemmas.List.{append-nil, append_assoc, append_cancel_left, take_rest}
use Rattle.wh_strategy.specs.declared.expression.Expression.{Expression}
use Rattle.wh_dag.specs.declared.siblings.Couple.{Couple}
use Rattle.wh_cert.specs.Tree.{CaseTree, Bound, Cycle, Branch, preorder, depth, joined, forest_of, first_tree, tree_of, IsTreeOf}
use Rattle.wh_cert.specs.Inner.Preorder.{IsTreeFirst, NoTreeFirst}
use Rattle.wh_cert.specs.declared.tree.TreeNode.{TreeNode}
use Rattle.wh_cert.specs.declared.tree.TreeNode.TheVariants as node

-- the first tree is read from its nodes, whatever follows
pub forest_of-tree : (tree : CaseTree) (rest : List TreeNode) → forest_of (preorder tree ++ rest) ≡ tree ∷ forest_of rest
unfolding forest_of
forest_of-tree Bound rest = refl
forest_of-tree (Cycle list) rest = refl
forest_of-tree (Branch couple left right) rest =
    ap (λ nodes. joined couple (forest_of nodes)) (append_assoc (preorder left) (preorder right) rest)
    ∙ ap (joined couple) (forest_of-tree left (preorder right ++ rest) ∙ ap (λ trees. left ∷ trees) (forest_of-tree right rest))

-- so no two trees have the same nodes
pub tree_of-preorder : (tree : CaseTree) → tree_of (preorder tree) ≡ tree
tree_of-preorder tree = ap (λ nodes. first_tree (forest_of nodes)) (sym (append-nil (preorder tree))) ∙ ap first_tree (forest_of-tree tree [])

pub tree_is : (nodes : List TreeNode) (tree : CaseTree) → IsTreeOf nodes tree → tree ≡ tree_of nodes
tree_is nodes tree h = sym (tree_of-preorder tree) ∙ ap tree_of h.0

pub whole : (nodes : List TreeNode) (tree : CaseTree) → IsTreeOf nodes tree → IsTreeOf nodes (tree_of nodes)
whole nodes tree h = subst (IsTreeOf nodes) (tree_is nodes tree h) h

-- ---- the first tree of a list

not_empty : (tree : CaseTree) (rest : List TreeNode) → preorder tree ++ rest ≡ [] → ⊥
not_empty Bound rest e = cc
not_empty (Cycle list) rest e = cc
not_empty (Branch couple left right) rest e = cc

is_deep : (tree : CaseTree) → 1 ≤ depth tree
is_deep Bound = omega arith
is_deep (Cycle list) = omega arith
is_deep (Branch couple left right) = omega arith

pub none_at_end : (deep : ℕ) (nodes : List TreeNode) → length nodes < 1 → NoTreeFirst deep nodes
none_at_end deep [] l rest h = not_empty h.tree rest h.first
none_at_end deep (x ∷ xs) l rest h = absurd (omega arith)

pub none_in_depth_0 : (deep : ℕ) (nodes : List TreeNode) → deep ≡ 0 → NoTreeFirst deep nodes
none_in_depth_0 deep nodes e rest h =
    let d = is_deep h.tree in
    let w : depth h.tree ≤ deep = h.within in
    omega arith

-- the first node and the others
pub first_node : (nodes : List TreeNode) (x : TreeNode) → 1 ≤ length nodes → x ≡ get_or nodes 0 x → x ∷ take (length nodes - 1) (drop 1 nodes) ≡ nodes
first_node [] x l e = absurd (omega arith)
first_node (y ∷ ys) x l e = ap (λ z. z ∷ take (length (y ∷ ys) - 1) (drop 1 (y ∷ ys))) e ∙ ap (λ zs. y ∷ zs) (take_rest (y ∷ ys) 1)

pub leaf_first : (deep : ℕ) (tree : CaseTree) (x : TreeNode) (nodes rest : List TreeNode) → depth tree ≡ 1 → preorder tree ≡ x ∷ [] → 0 < deep → x ∷ rest ≡ nodes → IsTreeFirst deep nodes rest
leaf_first deep tree x nodes rest one p l e = record { tree = tree; first = ap (λ z. z ++ rest) p ∙ e; within = omega arith }

pub branch_first : (deep : ℕ) (couple : Couple) (nodes rest right after : List TreeNode) → 0 < deep → node.Branch couple ∷ rest ≡ nodes → IsTreeFirst (deep - 1) rest right → IsTreeFirst (deep - 1) right after → IsTreeFirst deep nodes after
branch_first deep couple nodes rest right after l e a b =
    let da : depth a.tree ≤ deep - 1 = a.within in
    let db : depth b.tree ≤ deep - 1 = b.within in
    record {
      tree = Branch couple a.tree b.tree;
      first = ap (λ z. node.Branch couple ∷ z) (append_assoc (preorder a.tree) (preorder b.tree) after ∙ ap (λ z. preorder a.tree ++ z) b.first ∙ a.first) ∙ e;
      within = omega arith;
    }

other_leaf : (couple : Couple) (rest after nodes : List TreeNode) → node.Branch couple ∷ rest ≡ nodes → node.Bound ∷ after ≡ nodes → ⊥
other_leaf couple rest after nodes e f = cc

other_cycle : (couple : Couple) (list : List Expression) (rest after nodes : List TreeNode) → node.Branch couple ∷ rest ≡ nodes → node.Cycle list ∷ after ≡ nodes → ⊥
other_cycle couple list rest after nodes e f = cc

same_rest : (x y : TreeNode) (rest after nodes : List TreeNode) → x ∷ rest ≡ nodes → y ∷ after ≡ nodes → after ≡ rest
same_rest x y rest after nodes e f = cc

-- a list that begins with a branch and then with the nodes of its left tree
branch_left : (deep : ℕ) (couple : Couple) (nodes rest after : List TreeNode) → node.Branch couple ∷ rest ≡ nodes → IsTreeFirst deep nodes after → (middle : List TreeNode) × IsTreeFirst (deep - 1) rest middle × IsTreeFirst (deep - 1) middle after
branch_left deep couple nodes rest after e h = of h.tree h.first h.within
  where
    of : (tree : CaseTree) → preorder tree ++ after ≡ nodes → depth tree ≤ deep → (middle : List TreeNode) × IsTreeFirst (deep - 1) rest middle × IsTreeFirst (deep - 1) middle after
    of Bound f w = absurd (other_leaf couple rest after nodes e f)
    of (Cycle list) f w = absurd (other_cycle couple list rest after nodes e f)
    of (Branch other left right) f w =
        let g : (preorder left ++ preorder right) ++ after ≡ rest = same_rest (node.Branch couple) (node.Branch other) rest ((preorder left ++ preorder right) ++ after) nodes e f in (
          preorder right ++ after,
          record { tree = left; first = sym (append_assoc (preorder left) (preorder right) after) ∙ g; within = omega arith },
          record { tree = right; first = refl; within = omega arith },
        )

pub none_on_left : (deep : ℕ) (couple : Couple) (nodes rest : List TreeNode) → node.Branch couple ∷ rest ≡ nodes → NoTreeFirst (deep - 1) rest → NoTreeFirst deep nodes
none_on_left deep couple nodes rest e none after h = let m = branch_left deep couple nodes rest after e h in none m.0 m.1

same_head : (a b : CaseTree) (xs ys : List CaseTree) → a ∷ xs ≡ b ∷ ys → a ≡ b
same_head a b xs ys e = cc

-- a list has one first tree only, however deep
one_rest : (deep : ℕ) (nodes a b : List TreeNode) → IsTreeFirst deep nodes a → IsTreeFirst deep nodes b → a ≡ b
one_rest deep nodes a b f g =
    let same : f.tree ≡ g.tree = same_head f.tree g.tree (forest_of a) (forest_of b) (sym (forest_of-tree f.tree a) ∙ ap forest_of (f.first ∙ sym g.first) ∙ forest_of-tree g.tree b) in
    append_cancel_left (preorder f.tree) a b (f.first ∙ sym g.first ∙ ap (λ t. preorder t ++ b) (sym same))

pub none_on_right : (deep : ℕ) (couple : Couple) (nodes rest right : List TreeNode) → node.Branch couple ∷ rest ≡ nodes → IsTreeFirst (deep - 1) rest right → NoTreeFirst (deep - 1) right → NoTreeFirst deep nodes
none_on_right deep couple nodes rest right e found none after h =
    let m = branch_left deep couple nodes rest after e h in
    none after (subst (λ z. IsTreeFirst (deep - 1) z after) (one_rest (deep - 1) rest m.0 right m.1 found) m.2)

-- ---- a whole list

pub whole_is : (nodes rest : List TreeNode) → IsTreeFirst 1000 nodes rest → length rest ≡ 0 → IsTreeOf nodes (tree_of nodes)
whole_is nodes [] h e = whole nodes h.tree (sym (append-nil (preorder h.tree)) ∙ h.first, h.within)
whole_is nodes (x ∷ xs) h e = absurd (omega arith)

pub is_first : (nodes : List TreeNode) (tree : CaseTree) → IsTreeOf nodes tree → IsTreeFirst 1000 nodes []
is_first nodes tree h = record { tree = tree; first = append-nil (preorder tree) ∙ h.0; within = h.1 }

pub nothing_after : (nodes rest : List TreeNode) → IsTreeFirst 1000 nodes rest → IsTreeOf nodes (tree_of nodes) → length rest ≡ 0
nothing_after nodes rest h w = ap length (one_rest 1000 nodes rest [] h (is_first nodes (tree_of nodes) w))

-- what is known of an answer, carried on to what is to be known of it
pub carried : {A : Type 0} (answer : Option A) (P P' : Type 0) (Q Q' : A → Type 0) → (P → P') → ((a : A) → Q a → Q' a) → MatchOption answer P Q → MatchOption answer P' Q'
carried None P P' Q Q' f g h = f h
carried (Some a) P P' Q Q' f g h = g a h
