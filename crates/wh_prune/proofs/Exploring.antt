-- What the nodes of a search show.
use Rattle.std.proofs.Common.{◌≡◌, ℕ, ◌+◌, ◌^◌, ◌<◌, ◌≤◌, List, [], ◌∷◌, ◌++◌, refl, sym, ap, ◌∙◌, subst, length, reverse, arith, append_assoc, append-nil}
use Rattle.std.specs.List.{All}
use Rattle.std.proofs.Math.Pow.{pow_mono}
use Rattle.std.proofs.lemmas.List.{reverse-append}
use Rattle.std.proofs.lemmas.List.Elements.{All-nil, All-cons, All-append}
use Rattle.wh_dag.specs.Shape.{IsShape}
use Rattle.wh_dag.specs.Siblings.{couples_of}
use Rattle.wh_dag.specs.declared.siblings.Couple.{Couple}
use Rattle.wh_dag.proofs.FewCouples.{few_couples}
use Rattle.wh_strategy.specs.declared.expression.Expression.{Expression}
use Rattle.wh_strategy.specs.Prices.{Prices}
use Rattle.wh_strategy.specs.Rules.{IsCorrect, IsOneWay}
use Rattle.wh_strategy.specs.declared.sizes.Size.{Size}
use Rattle.wh_strategy.specs.Work.{work_of}
use Rattle.wh_cert.specs.Bound.{decided_bound_of}
use Rattle.wh_cert.specs.Certificate.{IsJudged}
use Rattle.wh_cert.specs.Graph.{IsCycle, DecidesAll, IsOrdered}
use Rattle.wh_cert.specs.Search.{Placed, IsGood, IsGoodNode, IsAcceptedTree, IsOpen, nodes_below, nodes_of}
use Rattle.wh_cert.specs.Tree.{CaseTree, Bound, Cycle, Branch, preorder, depth, tree_of, IsTreeOf}
use Rattle.wh_cert.specs.declared.certificate.Certificate.{Certificate}
use Rattle.wh_cert.specs.declared.certificate.Certificate.TheVariants.{Pairs, Search}
use Rattle.wh_cert.specs.declared.certificate.Verdict.TheVariants.{All as AllStrategies}
use Rattle.wh_cert.specs.declared.tree.TreeNode.{TreeNode}
use Rattle.wh_cert.specs.declared.tree.TreeNode.TheVariants as node
use Rattle.wh_cert.proofs.Preorders.{tree_of-preorder}
use Rattle.wh_cert.proofs.Trees.{accepted_shows}
use Rattle.wh_minwork.specs.Decided.{AreDecisions}
use Rattle.wh_minwork.specs.Draft.{completed, DecidesCouples}
use Rattle.wh_minwork.specs.Sorted.{IsSorted}
use Rattle.wh_minwork.proofs.Drafting.{decisions_one_way}
use Rattle.wh_minwork.proofs.Ordering.{cycle_moves}
use Rattle.wh_minwork.proofs.Sorting.{sorted_is_correct, sorted_is_one_way, sorted_costs_decided}
use Rattle.wh_prune.specs.declared.fault.PruneFault.{PruneFault}
use Rattle.wh_prune.specs.declared.fault.PruneFault.TheVariants.{Budget, Memory}
use Rattle.wh_prune.specs.Branching.{BranchesOnCycle, IsOnCycle, TakesFromCycle}
use Rattle.wh_prune.specs.Plan.{HasBranchesOnCycles, IsSearchReason, IsWithinBudget}
use Rattle.wh_prune.specs.Inner.Searching.{HasRun, IsExplored, IsHeld, IsStopped}
use Rattle.wh_prune.specs.Opening.{HasOpened}
use Rattle.wh_prune.specs.Spent.{BeginsWith}
use Rattle.wh_prune.proofs.Bounding.{bound-reverse, bound-completed, completed_all}
use Rattle.wh_prune.proofs.Branches.{on_cycle-reverse}
use Rattle.wh_prune.proofs.Deciding.{decides-reverse, open-reverse}

-- a sorted list of all couples' graph
pub held_sorted : (shape : List (List ℕ)) (sizes : ℕ → Size) (prices : Prices) (work : ℕ) (ds : List (ℕ × ℕ)) (list : List Expression) → IsShape shape → DecidesAll shape ds → IsSorted shape ds list → work ≡ decided_bound_of shape sizes prices ds → IsHeld shape sizes prices work list
held_sorted shape sizes prices work ds list sh da so e = record {
  correct = sorted_is_correct shape ds list sh so da;
  one_way = sorted_is_one_way shape ds list so;
  costs = sorted_costs_decided shape sizes prices ds list sh so da ∙ sym e;
}

-- what is sorted where the couples that are not decided stand in the desired order
pub held_completed : (shape : List (List ℕ)) (sizes : ℕ → Size) (prices : Prices) (work : ℕ) (ordered ds : List (ℕ × ℕ)) (list : List Expression) → IsShape shape → IsOrdered shape sizes ordered → AreDecisions ds → DecidesCouples shape ds → IsSorted shape (completed ordered ds) list → work ≡ decided_bound_of shape sizes prices ds → IsHeld shape sizes prices work list
held_completed shape sizes prices work ordered ds list sh o once couples so e =
    held_sorted shape sizes prices work (completed ordered ds) list sh (completed_all shape ordered ds o.0 couples) so
    (e ∙ sym (bound-completed shape sizes prices ordered ds o.1 (decisions_one_way ds once)))

-- the last node of a search
leaf : (shape : List (List ℕ)) (sizes : ℕ → Size) (prices : Prices) (best : ℕ) (ds : List (ℕ × ℕ)) (before after : List TreeNode) (tree : CaseTree) (x : TreeNode) → preorder tree ≡ x ∷ [] → depth tree ≡ 1 → nodes_below (reverse ds) tree ≡ record { above = reverse ds; node = x } ∷ [] → after ≡ before ++ x ∷ [] → IsGood shape sizes prices best (reverse ds) x → TakesFromCycle shape sizes (reverse ds) x → IsExplored shape sizes prices best 1 ds before after
leaf shape sizes prices best ds before after tree x one deep below e good on = record {
  tree = tree;
  nodes = e ∙ ap (λ z. before ++ z) (sym one);
  within = omega arith;
  good = rw below (All-cons (IsGoodNode shape sizes prices best) (record { above = reverse ds; node = x }) [] good (All-nil (IsGoodNode shape sizes prices best)));
  branches = rw below (All-cons (BranchesOnCycle shape sizes) (record { above = reverse ds; node = x }) [] on (All-nil (BranchesOnCycle shape sizes)));
}

pub bound_leaf : (shape : List (List ℕ)) (sizes : ℕ → Size) (prices : Prices) (best : ℕ) (ds : List (ℕ × ℕ)) (before after : List TreeNode) → best ≤ decided_bound_of shape sizes prices ds → after ≡ before ++ node.Bound ∷ [] → IsExplored shape sizes prices best 1 ds before after
bound_leaf shape sizes prices best ds before after l e =
    leaf shape sizes prices best ds before after Bound node.Bound refl refl refl e (let k = bound-reverse shape sizes prices ds in omega arith) tt

pub cycle_leaf : (shape : List (List ℕ)) (sizes : ℕ → Size) (prices : Prices) (best : ℕ) (ds : List (ℕ × ℕ)) (cycle : List Expression) (before after : List TreeNode) → IsCycle shape ds cycle → after ≡ before ++ node.Cycle cycle ∷ [] → IsExplored shape sizes prices best 1 ds before after
cycle_leaf shape sizes prices best ds cycle before after c e =
    leaf shape sizes prices best ds before after (Cycle cycle) (node.Cycle cycle) refl refl refl e (cycle_moves shape ds (reverse ds) (λ u w t. decides-reverse ds u w ∙ t) cycle c) tt

-- what is good for a work is good for a lower one
good_lower : (shape : List (List ℕ)) (sizes : ℕ → Size) (prices : Prices) (work less : ℕ) → less ≤ work → (p : Placed) → IsGoodNode shape sizes prices work p → IsGoodNode shape sizes prices less p
good_lower shape sizes prices work less l p h = of p.node h
  where
    of : (x : TreeNode) → IsGood shape sizes prices work p.above x → IsGood shape sizes prices less p.above x
    of node.Bound g = let k : work ≤ decided_bound_of shape sizes prices p.above = g in let m : less ≤ decided_bound_of shape sizes prices p.above = omega arith in m
    of (node.Cycle list) g = g
    of (node.Branch pair) g = g

-- a branch and the trees below it
pub fork : (shape : List (List ℕ)) (sizes : ℕ → Size) (prices : Prices) (middle best deep : ℕ) (ds : List (ℕ × ℕ)) (c : Couple) (before first second after : List TreeNode) → IsOpen shape ds c → IsOnCycle shape sizes ds c → best ≤ middle → first ≡ before ++ node.Branch c ∷ [] → IsExplored shape sizes prices middle deep (ds ++ (c.lower, c.higher) ∷ []) first second → IsExplored shape sizes prices best deep (ds ++ (c.higher, c.lower) ∷ []) second after → IsExplored shape sizes prices best (deep + 1) ds before after
fork shape sizes prices middle best deep ds c before first second after o on l e left right =
    let dl : depth left.tree ≤ deep = left.within in
    let dr : depth right.tree ≤ deep = right.within in
    let P : Placed → Type 0 = IsGoodNode shape sizes prices best in
    let on_left : All P (nodes_below ((c.lower, c.higher) ∷ reverse ds) left.tree) =
    subst (λ z. All P (nodes_below z left.tree)) (reverse-append ds ((c.lower, c.higher) ∷ [])) (λ k d i. good_lower shape sizes prices middle best l _ (left.good k d i)) in
    let on_right : All P (nodes_below ((c.higher, c.lower) ∷ reverse ds) right.tree) =
    subst (λ z. All P (nodes_below z right.tree)) (reverse-append ds ((c.higher, c.lower) ∷ [])) right.good in
    let Q : Placed → Type 0 = BranchesOnCycle shape sizes in
    let left_on : All Q (nodes_below ((c.lower, c.higher) ∷ reverse ds) left.tree) =
    subst (λ z. All Q (nodes_below z left.tree)) (reverse-append ds ((c.lower, c.higher) ∷ [])) left.branches in
    let right_on : All Q (nodes_below ((c.higher, c.lower) ∷ reverse ds) right.tree) =
    subst (λ z. All Q (nodes_below z right.tree)) (reverse-append ds ((c.higher, c.lower) ∷ [])) right.branches in
    record {
      tree = Branch c left.tree right.tree;
      nodes = right.nodes ∙ ap (λ z. z ++ preorder right.tree) (left.nodes ∙ ap (λ z. z ++ preorder left.tree) e)
          ∙ append_assoc (before ++ node.Branch c ∷ []) (preorder left.tree) (preorder right.tree)
          ∙ append_assoc before (node.Branch c ∷ []) (preorder left.tree ++ preorder right.tree);
      within = omega arith;
      good = All-cons P (record { above = reverse ds; node = node.Branch c }) _ (open-reverse shape ds c o) (All-append P _ _ on_left on_right);
      branches = All-cons Q (record { above = reverse ds; node = node.Branch c }) _ (on_cycle-reverse shape sizes ds c on) (All-append Q _ _ left_on right_on);
    }

-- a search that began with nothing
pub accepted : (shape : List (List ℕ)) (sizes : ℕ → Size) (prices : Prices) (best deep : ℕ) (nodes : List TreeNode) → IsExplored shape sizes prices best deep [] [] nodes → IsAcceptedTree shape sizes prices best (tree_of nodes)
accepted shape sizes prices best deep nodes h =
    subst (λ t. IsAcceptedTree shape sizes prices best t) (sym (tree_of-preorder h.tree) ∙ ap tree_of (sym h.nodes)) h.good

pub branches_on_cycles : (shape : List (List ℕ)) (sizes : ℕ → Size) (prices : Prices) (best deep : ℕ) (nodes : List TreeNode) → IsExplored shape sizes prices best deep [] [] nodes → All (BranchesOnCycle shape sizes) (nodes_of (tree_of nodes))
branches_on_cycles shape sizes prices best deep nodes h =
    subst (λ t. All (BranchesOnCycle shape sizes) (nodes_of t)) (sym (tree_of-preorder h.tree) ∙ ap tree_of (sym h.nodes)) h.branches

pub is_tree : (shape : List (List ℕ)) (sizes : ℕ → Size) (prices : Prices) (best : ℕ) (nodes : List TreeNode) → IsShape shape → IsExplored shape sizes prices best (length (couples_of shape) + 1) [] [] nodes → IsTreeOf nodes (tree_of nodes)
is_tree shape sizes prices best nodes sh h =
    let few = few_couples shape sh in
    let d : depth h.tree ≤ length (couples_of shape) + 1 = h.within in
    subst (IsTreeOf nodes) (sym (tree_of-preorder h.tree) ∙ ap tree_of (sym h.nodes)) (sym h.nodes, omega arith)

pub least_found : (shape : List (List ℕ)) (sizes : ℕ → Size) (prices : Prices) (best deep : ℕ) (nodes : List TreeNode) → IsShape shape → IsExplored shape sizes prices best deep [] [] nodes → (list : List Expression) → IsCorrect shape list → IsOneWay list → best ≤ work_of shape sizes prices list
least_found shape sizes prices best deep nodes sh h list co ow =
    accepted_shows shape sizes prices best (tree_of nodes) list sh (accepted shape sizes prices best deep nodes h) co ow

-- there is a node at least
pub some_power : (n : ℕ) → 2 ≤ 2 ^ (n + 1)
some_power n =
    let a : 2 ^ 1 ≤ 2 ^ (n + 1) = pow_mono {i = 1} {j = n + 1} (omega arith) in
    omega arith

-- a search that stopped, begun at the root
pub why_stopped : (shape : List (List ℕ)) (sizes : ℕ → Size) (prices : Prices) (budget all best first : ℕ) (list : List Expression) (nodes : List TreeNode) (fault : PruneFault) → IsStopped shape sizes prices budget all [] first best [] nodes fault → all ≡ 2 ^ (length (couples_of shape) + 1) → IsHeld shape sizes prices best list → BeginsWith shape sizes prices first → IsSearchReason shape sizes prices budget fault
why_stopped shape sizes prices budget all best first list nodes Memory stopped e held begins = tt
why_stopped shape sizes prices budget all best first list nodes (Budget opened least) stopped e held begins =
    let same : least ≡ best = stopped.1 in
    let more : budget + 1 < all = stopped.2 in
    let waits : List (ℕ × ℕ) = stopped.4 in
    let others : List (List (ℕ × ℕ)) = stopped.5 in
    let run : HasRun shape sizes prices [] first best (waits ∷ others) [] nodes = stopped.6 in
    record {
      all = stopped.0;
      first = first;
      begins = begins;
      nodes = run.opened;
      many = ap length (sym run.nodes) ∙ stopped.3 ∙ sym stopped.0;
      waits = waits;
      others = others;
      searched = subst (λ z. HasOpened shape sizes prices first ([] ∷ []) run.opened z (waits ∷ others)) (sym same)
          (subst (λ z. HasOpened shape sizes prices first ([] ∷ []) run.opened best z) (append-nil (waits ∷ others)) (run.run []));
      known = (list, held.correct, held.one_way, held.costs ∙ sym same);
      few = omega arith;
    }

-- what is accepted for all strategies has no tree
pub all_within : (shape : List (List ℕ)) (sizes : ℕ → Size) (prices : Prices) (work budget : ℕ) (certificate : Certificate) → IsJudged shape sizes prices work certificate AllStrategies → IsWithinBudget budget certificate
all_within shape sizes prices work budget (Pairs lines) judged = tt
all_within shape sizes prices work budget (Search nodes) judged = absurd judged

pub all_branches : (shape : List (List ℕ)) (sizes : ℕ → Size) (prices : Prices) (work : ℕ) (certificate : Certificate) → IsJudged shape sizes prices work certificate AllStrategies → HasBranchesOnCycles shape sizes certificate
all_branches shape sizes prices work (Pairs lines) judged = tt
all_branches shape sizes prices work (Search nodes) judged = absurd judged
