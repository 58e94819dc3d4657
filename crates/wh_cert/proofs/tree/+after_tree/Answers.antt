use Rattle.std.proofs.Common.{◌≡◌, ◌∷◌, ◌<◌, ◌-◌, refl, sym, ap, ◌∙◌, take, drop, length, arith}
use Rattle.wh_cert.specs.Inner.Preorder.{IsTreeFirst, NoTreeFirst}
use Rattle.wh_cert.specs.Tree.{Bound, Cycle}
use Rattle.wh_cert.specs.declared.tree.TreeNode.TheVariants as node
use Rattle.wh_cert.proofs.Preorders.{first_node, none_at_end, none_in_depth_0, leaf_first, branch_first, none_on_left, none_on_right, carried}
use Rattle.wh_cert.proofs.tree.+after_tree.Goals as goal

pub returns-in_default : goal.returns-in_default
returns-in_default t c = none_at_end c.args.deep c.args.nodes.now (omega arith)

pub returns-then-deep-eq0 : goal.returns-then-deep-eq0
returns-then-deep-eq0 t c = none_in_depth_0 c.args.deep c.args.nodes.now (omega arith)

pub returns-in-Some : goal.returns-in-Some
returns-in-Some t c =
    let nodes = c.args.nodes.now in
    let rest = take (length nodes - 1) (drop 1 nodes) in
    let l : 0 < c.args.deep = omega (arith, c.if-deep-eq0.false) in
    let e : node.Branch c.in-Branch.field-0 ∷ rest ≡ nodes = ap (λ z. z ∷ rest) (sym c.in-Branch.is) ∙ first_node nodes c.node-item.result c.in-len1-up.len_at_least c.node-item.is in
    carried c.after_tree-in-Some.result (NoTreeFirst (c.args.deep - 1) c.in-Some.right.now) (NoTreeFirst c.args.deep nodes) (λ after. IsTreeFirst (c.args.deep - 1) c.in-Some.right.now after.now) (λ after. IsTreeFirst c.args.deep nodes after.now)
    (λ none. none_on_right c.args.deep c.in-Branch.field-0 nodes rest c.in-Some.right.now e c.in-Some.ensures none)
    (λ after found. branch_first c.args.deep c.in-Branch.field-0 nodes rest c.in-Some.right.now after.now l e c.in-Some.ensures found)
    c.after_tree-in-Some.ensures

pub returns-in-None : goal.returns-in-None
returns-in-None t c =
    let nodes = c.args.nodes.now in
    let rest = take (length nodes - 1) (drop 1 nodes) in
    let e : node.Branch c.in-Branch.field-0 ∷ rest ≡ nodes = ap (λ z. z ∷ rest) (sym c.in-Branch.is) ∙ first_node nodes c.node-item.result c.in-len1-up.len_at_least c.node-item.is in
    none_on_left c.args.deep c.in-Branch.field-0 nodes rest e c.in-None.ensures

pub returns-in-Bound : goal.returns-in-Bound
returns-in-Bound t c =
    let nodes = c.args.nodes.now in
    let rest = take (length nodes - 1) (drop 1 nodes) in
    let l : 0 < c.args.deep = omega (arith, c.if-deep-eq0.false) in
    leaf_first c.args.deep Bound node.Bound nodes rest refl refl l (ap (λ z. z ∷ rest) (sym c.in-Bound.is) ∙ first_node nodes c.node-item.result c.in-len1-up.len_at_least c.node-item.is)

pub returns-in-Cycle : goal.returns-in-Cycle
returns-in-Cycle t c =
    let nodes = c.args.nodes.now in
    let rest = take (length nodes - 1) (drop 1 nodes) in
    let l : 0 < c.args.deep = omega (arith, c.if-deep-eq0.false) in
    leaf_first c.args.deep (Cycle c.in-Cycle.field-0) (node.Cycle c.in-Cycle.field-0) nodes rest refl refl l (ap (λ z. z ∷ rest) (sym c.in-Cycle.is) ∙ first_node nodes c.node-item.result c.in-len1-up.len_at_least c.node-item.is)
