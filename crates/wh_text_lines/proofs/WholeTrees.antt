-- Nodes that leave no place are those of a tree, and the other way round.
use Rattle.std.proofs.Common.{◌≡◌, ℕ, ◌+◌, ◌≤◌, Bool, true, false, List, [], ◌∷◌, ◌++◌, length, Option, Some, None, refl, ap, sym, ◌∙◌, arith}
use Rattle.std.specs.Prelude.{nat_le, option_and_then, if◌then◌else◌}
use Rattle.std.specs.List.{flat_map}
use Rattle.std.proofs.lemmas.Bool.{eqb-true, le-leb, leb-true}
use Rattle.std.proofs.lemmas.List.{append-nil, append_assoc}
use Rattle.wh_cert.specs.Tree.{CaseTree, Bound, Cycle, Branch, preorder, depth, IsTreeOf}
use Rattle.wh_cert.specs.declared.tree.TreeNode.{TreeNode}
use Rattle.wh_cert.specs.declared.tree.TreeNode.TheVariants as node
use Rattle.wh_text_lines.specs.TreeGrowth.{WholeTrees, after_nodes, are_taken, is_tree, places_after}

-- each tree ends within 1,000 where it stands at the place beside it
abbrev FitAt : List ℕ → List CaseTree → Type 0
FitAt [] [] = Unit {0}
FitAt [] (tree ∷ trees) = ⊥
FitAt (deep ∷ places) [] = ⊥
FitAt (deep ∷ places) (tree ∷ trees) = (deep + depth tree ≤ 1001) × FitAt places trees

-- the nodes are those of trees at these places
record AreTreesAt (places : List ℕ) (nodes : List TreeNode) : Type 0 where
  pub trees : List CaseTree
  pub same : flat_map preorder trees ≡ nodes
  pub fit : FitAt places trees

leaf_at : (deep : ℕ) (places : List ℕ) (tree : CaseTree) (own : TreeNode) (nodes : List TreeNode) → preorder tree ≡ own ∷ [] → depth tree ≡ 1 → deep ≤ 1000 → AreTreesAt places nodes
    → AreTreesAt (deep ∷ places) (own ∷ nodes)
leaf_at deep places tree own nodes one shallow within h =
    record { trees = tree ∷ h.trees; same = ap (λ first. first ++ flat_map preorder h.trees) one ∙ ap (λ more. own ∷ more) h.same; fit = (omega (arith, shallow, within), h.fit) }

branch_of : (deep : ℕ) (places : List ℕ) (couple : _) (nodes : List TreeNode) (trees : List CaseTree) → flat_map preorder trees ≡ nodes → FitAt ((deep + 1) ∷ (deep + 1) ∷ places) trees
    → AreTreesAt (deep ∷ places) (node.Branch couple ∷ nodes)
branch_of deep places couple nodes [] same fit = absurd fit
branch_of deep places couple nodes (left ∷ []) same fit = absurd fit.1
branch_of deep places couple nodes (left ∷ right ∷ trees) same fit =
    record {
      trees = Branch couple left right ∷ trees;
      same = ap (λ more. node.Branch couple ∷ more) (append_assoc (preorder left) (preorder right) (flat_map preorder trees) ∙ same);
      fit = (omega (arith, fit.0, fit.1.0), fit.1.1);
    }

-- the node at the first place, which is not too deep
pub taken : (deep : ℕ) (own places left : List ℕ) (nodes : List TreeNode) (b : Bool) → nat_le deep 1000 ≡ b
    → option_and_then (after_nodes nodes) (if b then Some (own ++ places) else None) ≡ Some left → (deep ≤ 1000) × (after_nodes nodes (own ++ places) ≡ Some left)
taken deep own places left nodes true e h = (leb-true deep 1000 e, h)
taken deep own places left nodes false e h = cc

trees_at : (nodes : List TreeNode) (places : List ℕ) → after_nodes nodes places ≡ Some [] → AreTreesAt places nodes
trees_at [] [] h = record { trees = []; same = refl; fit = tt }
trees_at [] (deep ∷ places) h = cc
trees_at (own ∷ nodes) [] h = cc
trees_at (node.Bound ∷ nodes) (deep ∷ places) h =
    let here = taken deep [] places [] nodes (nat_le deep 1000) refl h in
    leaf_at deep places Bound node.Bound nodes refl refl here.0 (trees_at nodes places here.1)
trees_at (node.Cycle list ∷ nodes) (deep ∷ places) h =
    let here = taken deep [] places [] nodes (nat_le deep 1000) refl h in
    leaf_at deep places (Cycle list) (node.Cycle list) nodes refl refl here.0 (trees_at nodes places here.1)
trees_at (node.Branch couple ∷ nodes) (deep ∷ places) h =
    let here = taken deep ((deep + 1) ∷ (deep + 1) ∷ []) places [] nodes (nat_le deep 1000) refl h in
    let below_it = trees_at nodes ((deep + 1) ∷ (deep + 1) ∷ places) here.1 in
    branch_of deep places couple nodes below_it.trees below_it.same below_it.fit

none_left : (places : Option (List ℕ)) → are_taken places ≡ true → places ≡ Some []
none_left None h = cc
none_left (Some []) h = refl
none_left (Some (deep ∷ places)) h = let e : length (deep ∷ places) ≡ 0 = eqb-true (length (deep ∷ places)) 0 h in absurd (omega (arith, e))

single : (nodes : List TreeNode) (trees : List CaseTree) → flat_map preorder trees ≡ nodes → FitAt (1 ∷ []) trees → (tree : CaseTree) × IsTreeOf nodes tree
single nodes [] same fit = absurd fit
single nodes (tree ∷ []) same fit = (tree, (sym (append-nil (preorder tree)) ∙ same, omega (arith, fit.0)))
single nodes (tree ∷ other ∷ trees) same fit = absurd fit.1

-- nodes that leave no place are those of a tree
pub tree_from : (nodes : List TreeNode) → is_tree nodes ≡ true → (tree : CaseTree) × IsTreeOf nodes tree
tree_from nodes h =
    let at = trees_at nodes (1 ∷ []) (none_left (places_after nodes) h) in
    single nodes at.trees at.same at.fit

-- a tree at a place takes it
tree_taken : (tree : CaseTree) (deep : ℕ) (places : List ℕ) (more : List TreeNode) → deep + depth tree ≤ 1001
    → after_nodes (preorder tree ++ more) (deep ∷ places) ≡ after_nodes more places
tree_taken Bound deep places more within = rw (le-leb deep 1000 (omega (arith, within))) refl
tree_taken (Cycle list) deep places more within = rw (le-leb deep 1000 (omega (arith, within))) refl
tree_taken (Branch couple left right) deep places more within =
    rw (le-leb deep 1000 (omega (arith, within)))
    (ap (λ nodes. after_nodes nodes ((deep + 1) ∷ (deep + 1) ∷ places)) (append_assoc (preorder left) (preorder right) more)
    ∙ tree_taken left (deep + 1) ((deep + 1) ∷ places) (preorder right ++ more) (omega (arith, within))
    ∙ tree_taken right (deep + 1) places more (omega (arith, within)))

-- the nodes of a tree leave no place
pub tree_places : (nodes : List TreeNode) (tree : CaseTree) → IsTreeOf nodes tree → places_after nodes ≡ Some []
tree_places nodes tree h =
    ap places_after (sym h.0 ∙ sym (append-nil (preorder tree))) ∙ tree_taken tree 1 [] [] (omega (arith, h.1))

pub whole_trees : WholeTrees
whole_trees nodes = (tree_from nodes, λ h. ap are_taken (tree_places nodes h.0 h.1))
