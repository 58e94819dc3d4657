-- Nodes that leave places begin a tree, and the other way round.
use Rattle.std.proofs.Common.{◌≡◌, ℕ, ◌+◌, ◌≤◌, Bool, true, List, [], ◌∷◌, ◌++◌, length, take, Option, Some, None, refl, ap, sym, subst, ◌∙◌}
use Rattle.std.specs.Prelude.{is_some, nat_le}
use Rattle.std.specs.List.{flat_map, list_all}
use Rattle.std.proofs.lemmas.Bool.{and_parts, le-leb}
use Rattle.std.proofs.lemmas.List.{append-nil, append_assoc}
use Rattle.wh_cert.specs.Tree.{CaseTree, Bound, Cycle, Branch, preorder}
use Rattle.wh_cert.specs.declared.tree.TreeNode.{TreeNode}
use Rattle.wh_cert.specs.declared.tree.TreeNode.TheVariants as node
use Rattle.wh_text_lines.specs.TreeGrowth.{BegunTrees, IsBegun, after_nodes, depths, places_after}
use Rattle.wh_text_lines.proofs.WholeTrees.{taken}

-- a tree for each place
abbrev AreBeside : List ℕ → List CaseTree → Type 0
AreBeside [] [] = Unit {0}
AreBeside [] (tree ∷ trees) = ⊥
AreBeside (deep ∷ places) [] = ⊥
AreBeside (deep ∷ places) (tree ∷ trees) = AreBeside places trees

-- how deep the nodes of trees lie that stand at these places
abbrev depths_at : List ℕ → List CaseTree → List ℕ
depths_at [] trees = []
depths_at (deep ∷ places) [] = []
depths_at (deep ∷ places) (tree ∷ trees) = depths deep tree ++ depths_at places trees

abbrev is_within : ℕ → Bool
is_within deep = nat_le deep 1000

-- the nodes begin those of trees at these places
record AreBegun (places : List ℕ) (nodes : List TreeNode) : Type 0 where
  pub trees : List CaseTree
  pub rest : List TreeNode
  pub begins : flat_map preorder trees ≡ nodes ++ rest
  pub beside : AreBeside places trees
  pub within : list_all is_within (take (length nodes) (depths_at places trees)) ≡ true

-- the bound at each place
bounds : List ℕ → List CaseTree
bounds [] = []
bounds (deep ∷ places) = Bound ∷ bounds places

bounds_beside : (places : List ℕ) → AreBeside places (bounds places)
unfolding bounds
bounds_beside [] = tt
bounds_beside (deep ∷ places) = bounds_beside places

leaf_begun : (deep : ℕ) (places : List ℕ) (tree : CaseTree) (own : TreeNode) (nodes : List TreeNode) → preorder tree ≡ own ∷ [] → depths deep tree ≡ deep ∷ [] → deep ≤ 1000 → AreBegun places nodes
    → AreBegun (deep ∷ places) (own ∷ nodes)
leaf_begun deep places tree own nodes one here within h =
    record {
      trees = tree ∷ h.trees;
      rest = h.rest;
      begins = ap (λ first. first ++ flat_map preorder h.trees) one ∙ ap (λ more. own ∷ more) h.begins;
      beside = h.beside;
      within = ap (λ first. list_all is_within (take (length (own ∷ nodes)) (first ++ depths_at places h.trees))) here ∙ rw (le-leb deep 1000 within) h.within;
    }

branch_begun : (deep : ℕ) (places : List ℕ) (couple : _) (nodes rest : List TreeNode) (trees : List CaseTree) → deep ≤ 1000 → flat_map preorder trees ≡ nodes ++ rest
    → AreBeside ((deep + 1) ∷ (deep + 1) ∷ places) trees → list_all is_within (take (length nodes) (depths_at ((deep + 1) ∷ (deep + 1) ∷ places) trees)) ≡ true
    → AreBegun (deep ∷ places) (node.Branch couple ∷ nodes)
branch_begun deep places couple nodes rest [] here begins beside within = absurd beside
branch_begun deep places couple nodes rest (left ∷ []) here begins beside within = absurd beside
branch_begun deep places couple nodes rest (left ∷ right ∷ trees) here begins beside within =
    record {
      trees = Branch couple left right ∷ trees;
      rest = rest;
      begins = ap (λ more. node.Branch couple ∷ more) (append_assoc (preorder left) (preorder right) (flat_map preorder trees) ∙ begins);
      beside = beside;
      within = rw (le-leb deep 1000 here)
          (ap (λ more. list_all is_within (take (length nodes) more)) (append_assoc (depths (deep + 1) left) (depths (deep + 1) right) (depths_at places trees)) ∙ within);
    }

begun_at : (nodes : List TreeNode) (places left : List ℕ) → after_nodes nodes places ≡ Some left → AreBegun places nodes
begun_at [] places left h = record { trees = bounds places; rest = flat_map preorder (bounds places); begins = refl; beside = bounds_beside places; within = refl }
begun_at (own ∷ nodes) [] left h = cc
begun_at (node.Bound ∷ nodes) (deep ∷ places) left h =
    let here = taken deep [] places left nodes (nat_le deep 1000) refl h in
    leaf_begun deep places Bound node.Bound nodes refl refl here.0 (begun_at nodes places left here.1)
begun_at (node.Cycle list ∷ nodes) (deep ∷ places) left h =
    let here = taken deep [] places left nodes (nat_le deep 1000) refl h in
    leaf_begun deep places (Cycle list) (node.Cycle list) nodes refl refl here.0 (begun_at nodes places left here.1)
begun_at (node.Branch couple ∷ nodes) (deep ∷ places) left h =
    let here = taken deep ((deep + 1) ∷ (deep + 1) ∷ []) places left nodes (nat_le deep 1000) refl h in
    let below_it = begun_at nodes ((deep + 1) ∷ (deep + 1) ∷ places) left here.1 in
    branch_begun deep places couple nodes below_it.rest below_it.trees here.0 below_it.begins below_it.beside below_it.within

root_begun : (nodes rest : List TreeNode) (trees : List CaseTree) → flat_map preorder trees ≡ nodes ++ rest → AreBeside (1 ∷ []) trees
    → list_all is_within (take (length nodes) (depths_at (1 ∷ []) trees)) ≡ true → IsBegun nodes
root_begun nodes rest [] begins beside within = absurd beside
root_begun nodes rest (tree ∷ []) begins beside within =
    record {
      tree = tree;
      rest = rest;
      begins = sym (append-nil (preorder tree)) ∙ begins;
      within = ap (λ more. list_all is_within (take (length nodes) more)) (sym (append-nil (depths 1 tree))) ∙ within;
    }
root_begun nodes rest (tree ∷ other ∷ trees) begins beside within = absurd beside

begun_from : (nodes : List TreeNode) (left : Option (List ℕ)) → places_after nodes ≡ left → is_some left ≡ true → IsBegun nodes
begun_from nodes None e h = cc
begun_from nodes (Some left) e h =
    let at = begun_at nodes (1 ∷ []) left e in
    root_begun nodes at.rest at.trees at.begins at.beside at.within

-- ---- the other way round

-- a node at the first place, which is not too deep
may_take : (deep : ℕ) (own : TreeNode) (first : TreeNode) (nodes : List TreeNode) (places : List ℕ) → first ≡ own → is_some (after_nodes (first ∷ nodes) (deep ∷ places)) ≡ true
    → is_some (after_nodes (own ∷ nodes) (deep ∷ places)) ≡ true
may_take deep own first nodes places e h = subst (λ n. is_some (after_nodes (n ∷ nodes) (deep ∷ places)) ≡ true) e h

leaves_places : (nodes rest : List TreeNode) (places : List ℕ) (trees : List CaseTree) → flat_map preorder trees ≡ nodes ++ rest → AreBeside places trees
    → list_all is_within (take (length nodes) (depths_at places trees)) ≡ true → is_some (after_nodes nodes places) ≡ true
leaves_places [] rest places trees begins beside within = refl
leaves_places (own ∷ nodes) rest [] [] begins beside within = cc
leaves_places (own ∷ nodes) rest [] (tree ∷ trees) begins beside within = absurd beside
leaves_places (own ∷ nodes) rest (deep ∷ places) [] begins beside within = absurd beside
leaves_places (own ∷ nodes) rest (deep ∷ places) (Bound ∷ trees) begins beside within =
    let parts = and_parts (is_within deep) (list_all is_within (take (length nodes) (depths_at places trees))) within in
    let same : node.Bound ≡ own = cc in
    let more : flat_map preorder trees ≡ nodes ++ rest = cc in
    may_take deep own node.Bound nodes places same (rw parts.0 (leaves_places nodes rest places trees more beside parts.1))
leaves_places (own ∷ nodes) rest (deep ∷ places) (Cycle list ∷ trees) begins beside within =
    let parts = and_parts (is_within deep) (list_all is_within (take (length nodes) (depths_at places trees))) within in
    let same : node.Cycle list ≡ own = cc in
    let more : flat_map preorder trees ≡ nodes ++ rest = cc in
    may_take deep own (node.Cycle list) nodes places same (rw parts.0 (leaves_places nodes rest places trees more beside parts.1))
leaves_places (own ∷ nodes) rest (deep ∷ places) (Branch couple left right ∷ trees) begins beside within =
    let both = depths (deep + 1) left ++ depths (deep + 1) right in
    let parts = and_parts (is_within deep) (list_all is_within (take (length nodes) (both ++ depths_at places trees))) within in
    let same : node.Branch couple ≡ own = cc in
    let more : (preorder left ++ preorder right) ++ flat_map preorder trees ≡ nodes ++ rest = cc in
    may_take deep own (node.Branch couple) nodes places same
    (rw parts.0
    (leaves_places nodes rest ((deep + 1) ∷ (deep + 1) ∷ places) (left ∷ right ∷ trees) (sym (append_assoc (preorder left) (preorder right) (flat_map preorder trees)) ∙ more) beside
    (ap (λ own. list_all is_within (take (length nodes) own)) (sym (append_assoc (depths (deep + 1) left) (depths (deep + 1) right) (depths_at places trees))) ∙ parts.1)))

pub begun_trees : BegunTrees
begun_trees nodes = (
  λ h. begun_from nodes (places_after nodes) refl h,
  λ h. leaves_places nodes h.rest (1 ∷ []) (h.tree ∷ []) (append-nil (preorder h.tree) ∙ h.begins) tt
      (ap (λ more. list_all is_within (take (length nodes) more)) (append-nil (depths 1 h.tree)) ∙ h.within),
)
