-- How the runs of a search go on from one another.
use Rattle.std.proofs.Common.{◌≡◌, ℕ, ◌+◌, ◌<◌, ◌≤◌, List, [], ◌∷◌, ◌++◌, refl, sym, ap, ◌∙◌, subst, arith, append_assoc, append-nil, suc, ◌-◌, ◌*◌, ◌^◌}
use Rattle.std.proofs.Math.Nat.{pow-succ'}
use Rattle.wh_strategy.specs.declared.expression.Expression.{Expression}
use Rattle.wh_strategy.specs.Prices.{Prices}
use Rattle.wh_strategy.specs.declared.sizes.Size.{Size}
use Rattle.wh_cert.specs.Bound.{decided_bound_of}
use Rattle.wh_cert.specs.Graph.{IsCycle, IsOrdered}
use Rattle.wh_cert.specs.declared.tree.TreeNode.{TreeNode}
use Rattle.wh_cert.specs.declared.tree.TreeNode.TheVariants as node
use Rattle.wh_dag.specs.declared.siblings.Couple.{Couple}
use Rattle.wh_minwork.specs.Draft.{completed}
use Rattle.wh_minwork.specs.Sorted.{IsSorted}
use Rattle.wh_prune.specs.Branching.{IsOnCycle}
use Rattle.wh_prune.specs.Inner.Searching.{HasRun, IsHeld, IsStopped}
use Rattle.wh_prune.specs.Opening.{HasOpened, Opens, below, branch, cut, cycle, found}
use Rattle.wh_prune.specs.declared.fault.PruneFault.{PruneFault}
use Rattle.wh_prune.specs.declared.fault.PruneFault.TheVariants.{Budget, Memory}

-- nodes that were opened, and those that were opened from there on
opened_both : (shape : List (List ℕ)) (sizes : ℕ → Size) (prices : Prices) (least : ℕ) (waiting : List (List (ℕ × ℕ))) (xs : List TreeNode) (middle : ℕ) (between : List (List (ℕ × ℕ))) (ys : List TreeNode) (best : ℕ) (left : List (List (ℕ × ℕ))) → HasOpened shape sizes prices least waiting xs middle between → HasOpened shape sizes prices middle between ys best left → HasOpened shape sizes prices least waiting (xs ++ ys) best left
opened_both shape sizes prices least waiting [] middle between ys best left a b =
    subst (λ z. HasOpened shape sizes prices z waiting ys best left) a.0 (subst (λ z. HasOpened shape sizes prices middle z ys best left) a.1 b)
opened_both shape sizes prices least [] (x ∷ xs) middle between ys best left a b = absurd a
opened_both shape sizes prices least (decided ∷ waiting) (x ∷ xs) middle between ys best left a b =
    (a.0, a.1, opened_both shape sizes prices a.0 (below decided x ++ waiting) xs middle between ys best left a.2 b)

-- no node is opened, and the first one waits
pub no_run : (shape : List (List ℕ)) (sizes : ℕ → Size) (prices : Prices) (decided : List (ℕ × ℕ)) (least : ℕ) (nodes : List TreeNode) → HasRun shape sizes prices decided least least (decided ∷ []) nodes nodes
no_run shape sizes prices decided least nodes = record { opened = []; nodes = sym (append-nil nodes); run = λ rest. (refl, refl) }

-- one node is opened
pub one_run : (shape : List (List ℕ)) (sizes : ℕ → Size) (prices : Prices) (decided : List (ℕ × ℕ)) (least best : ℕ) (x : TreeNode) (before after : List TreeNode) → after ≡ before ++ x ∷ [] → Opens shape sizes prices decided least best x → HasRun shape sizes prices decided least best (below decided x) before after
one_run shape sizes prices decided least best x before after e o = record { opened = x ∷ []; nodes = e; run = λ rest. (best, o, (refl, refl)) }

pub cut_run : (shape : List (List ℕ)) (sizes : ℕ → Size) (prices : Prices) (decided : List (ℕ × ℕ)) (least : ℕ) (before after : List TreeNode) → after ≡ before ++ node.Bound ∷ [] → least ≤ decided_bound_of shape sizes prices decided → HasRun shape sizes prices decided least least [] before after
cut_run shape sizes prices decided least before after e l = one_run shape sizes prices decided least least node.Bound before after e (cut l refl refl)

pub found_run : (shape : List (List ℕ)) (sizes : ℕ → Size) (prices : Prices) (ordered decided : List (ℕ × ℕ)) (least best : ℕ) (list : List Expression) (before after : List TreeNode) → after ≡ before ++ node.Bound ∷ [] → best ≡ decided_bound_of shape sizes prices decided → best < least → IsHeld shape sizes prices best list → IsOrdered shape sizes ordered → IsSorted shape (completed ordered decided) list → HasRun shape sizes prices decided least best [] before after
found_run shape sizes prices ordered decided least best list before after e b l held o so =
    one_run shape sizes prices decided least best node.Bound before after e
    (found list (omega arith) (record { correct = held.correct; one_way = held.one_way; costs = held.costs; sorted = (ordered, o, so) }) l refl)

pub cycle_run : (shape : List (List ℕ)) (sizes : ℕ → Size) (prices : Prices) (decided : List (ℕ × ℕ)) (least : ℕ) (list : List Expression) (before after : List TreeNode) → after ≡ before ++ node.Cycle list ∷ [] → decided_bound_of shape sizes prices decided < least → IsCycle shape decided list → HasRun shape sizes prices decided least least [] before after
cycle_run shape sizes prices decided least list before after e l c = one_run shape sizes prices decided least least (node.Cycle list) before after e (cycle list l c refl refl)

pub branch_run : (shape : List (List ℕ)) (sizes : ℕ → Size) (prices : Prices) (decided : List (ℕ × ℕ)) (least : ℕ) (couple : Couple) (before after : List TreeNode) → after ≡ before ++ node.Branch couple ∷ [] → decided_bound_of shape sizes prices decided < least → IsOnCycle shape sizes decided couple → HasRun shape sizes prices decided least least (below decided (node.Branch couple)) before after
branch_run shape sizes prices decided least couple before after e l on = one_run shape sizes prices decided least least (node.Branch couple) before after e (branch couple l on refl refl)

-- a run goes on below the first node that waits
pub go_on : (shape : List (List ℕ)) (sizes : ℕ → Size) (prices : Prices) (decided first : List (ℕ × ℕ)) (others left : List (List (ℕ × ℕ))) (least middle best : ℕ) (before between after : List TreeNode) → HasRun shape sizes prices decided least middle (first ∷ others) before between → HasRun shape sizes prices first middle best left between after → HasRun shape sizes prices decided least best (left ++ others) before after
go_on shape sizes prices decided first others left least middle best before between after a b = record {
  opened = a.opened ++ b.opened;
  nodes = b.nodes ∙ ap (λ z. z ++ b.opened) a.nodes ∙ append_assoc before a.opened b.opened;
  run = λ rest. subst (λ z. HasOpened shape sizes prices least (decided ∷ rest) (a.opened ++ b.opened) best z) (sym (append_assoc left others rest))
      (opened_both shape sizes prices least (decided ∷ rest) a.opened middle (first ∷ (others ++ rest)) b.opened best (left ++ (others ++ rest)) (a.run rest) (b.run (others ++ rest)));
}

-- so does one that stops
pub stop_on : (shape : List (List ℕ)) (sizes : ℕ → Size) (prices : Prices) (budget few all : ℕ) (decided first : List (ℕ × ℕ)) (others : List (List (ℕ × ℕ))) (least middle best : ℕ) (before between after : List TreeNode) (fault : PruneFault) → HasRun shape sizes prices decided least middle (first ∷ others) before between → IsStopped shape sizes prices budget few first middle best between after fault → few ≤ all → IsStopped shape sizes prices budget all decided least best before after fault
stop_on shape sizes prices budget few all decided first others least middle best before between after Memory a b l = tt
stop_on shape sizes prices budget few all decided first others least middle best before between after (Budget opened work) a b l =
    let more : budget + 1 < few = b.2 in
    (b.0, b.1, omega arith, b.3, b.4, b.5 ++ others, go_on shape sizes prices decided first others (b.4 ∷ b.5) least middle best before between after a b.6)

-- the trees below a branch have as many nodes as its own, but for it
pub power_twice : (left : ℕ) → 1 ≤ left → 2 ^ (left - 1 + 1) + 2 ^ (left - 1 + 1) ≡ 2 ^ (left + 1)
power_twice left l =
    let e : left - 1 + 1 ≡ left = omega arith in
    let d : 2 ^ suc left ≡ 2 * 2 ^ left = pow-succ' 2 left in
    let k : 2 ^ left + 2 ^ left ≡ 2 * 2 ^ left = omega arith in
    let n : suc left ≡ left + 1 = omega arith in
    ap (λ z. 2 ^ z + 2 ^ z) e ∙ k ∙ sym d ∙ ap (λ z. 2 ^ z) n
