use Rattle.std.proofs.Common.{◌<◌, ◌+◌, [], ◌∷◌, length, sym, ap, ◌∙◌, subst, drop, arith}
use Rattle.std.proofs.lemmas.Bool.{false≢true}
use Rattle.wh_strategy.specs.Prices.{prices_of}
use Rattle.wh_strategy.specs.Sizes.{sizes_of}
use Rattle.wh_cert.specs.Search.{IsGood, IsGoodNode, nodes_of}
use Rattle.wh_cert.specs.Tree.{IsTreeOf, tree_of}
use Rattle.wh_cert.proofs.Descents.{ahead, begins, has_room, goes_on, good_rises, ahead_here, all_so_far, first_bad_here, all_of_them}
use Rattle.wh_cert.proofs.search.first_bad.Goals as goal

pub loop-i-init : goal.loop-i-init
loop-i-init c = record {
  good = λ k d l. absurd (omega arith);
  trees = tree_of c.args.tree.now ∷ [];
  rest = begins (tree_of c.args.tree.now) ∙ ap (λ above. ahead above (tree_of c.args.tree.now ∷ [])) (sym c.new-above.ensures);
}

pub returns-then-not-is_good : goal.returns-then-not-is_good
returns-then-not-is_good c =
    let tree = tree_of c.args.tree.now in
    let nodes = c.as_slice-node-items.result.now in
    let h : IsTreeOf nodes tree = (c.as_slice-node-items.ensures.tree.0 ∙ sym c.as_slice-node-items.ensures.nodes, c.as_slice-node-items.ensures.tree.1) in
    let l : c.loop-i.i < length nodes = omega (arith, c.loop-i-test.true) in
    first_bad_here c.args.shape.now.children (sizes_of c.args.sizes.now) (prices_of c.args.costs) c.args.work tree nodes h c.loop-i.i c.node-item.result l c.node-item.is c.loop-i.above c.loop-i.invariant.trees c.loop-i.invariant.rest c.loop-i.invariant.good
    (λ g. false≢true (sym c.if-not-is_good.true ∙ c.is_good.ensures.1 (subst (λ above. IsGood c.args.shape.now.children (sizes_of c.args.sizes.now) (prices_of c.args.costs) c.args.work above c.node-item.result) (sym c.as_slice.ensures) g)))

pub go_past-requires : goal.go_past-requires
go_past-requires c =
    let tree = tree_of c.args.tree.now in
    let nodes = c.as_slice-node-items.result.now in
    let h : IsTreeOf nodes tree = (c.as_slice-node-items.ensures.tree.0 ∙ sym c.as_slice-node-items.ensures.nodes, c.as_slice-node-items.ensures.tree.1) in
    let l : c.loop-i.i < length nodes = omega (arith, c.loop-i-test.true) in
    has_room tree nodes h c.loop-i.i c.node-item.result l c.node-item.is c.loop-i.above c.loop-i.invariant.trees c.loop-i.invariant.rest

pub loop-i-preserved : goal.loop-i-preserved
loop-i-preserved c =
    let shape = c.args.shape.now.children in
    let sizes = sizes_of c.args.sizes.now in
    let prices = prices_of c.args.costs in
    let tree = tree_of c.args.tree.now in
    let nodes = c.as_slice-node-items.result.now in
    let h : IsTreeOf nodes tree = (c.as_slice-node-items.ensures.tree.0 ∙ sym c.as_slice-node-items.ensures.nodes, c.as_slice-node-items.ensures.tree.1) in
    let l : c.loop-i.i < length nodes = omega (arith, c.loop-i-test.true) in
    let x = c.node-item.result in
    let good : IsGood shape sizes prices c.args.work c.loop-i.above x =
    subst (λ above. IsGood shape sizes prices c.args.work above x) c.as_slice.ensures (c.is_good.ensures.0 c.if-not-is_good.false) in
    let next = goes_on c.loop-i.above c.loop-i.invariant.trees x (drop (c.loop-i.i + 1) (nodes_of tree)) (good_rises shape sizes prices c.args.work c.loop-i.above x good)
    (ahead_here tree nodes h c.loop-i.i x l c.node-item.is c.loop-i.above c.loop-i.invariant.trees c.loop-i.invariant.rest) in
    record {
      good = all_so_far (IsGoodNode shape sizes prices c.args.work) tree nodes h c.loop-i.i x l c.node-item.is c.loop-i.above c.loop-i.invariant.trees c.loop-i.invariant.rest c.loop-i.invariant.good good;
      trees = next.0;
      rest = next.1 ∙ ap (λ above. ahead above next.0) (sym c.go_past.ensures);
    }

pub returns : goal.returns
returns c =
    let tree = tree_of c.args.tree.now in
    let nodes = c.as_slice-node-items.result.now in
    let h : IsTreeOf nodes tree = (c.as_slice-node-items.ensures.tree.0 ∙ sym c.as_slice-node-items.ensures.nodes, c.as_slice-node-items.ensures.tree.1) in
    all_of_them (IsGoodNode c.args.shape.now.children (sizes_of c.args.sizes.now) (prices_of c.args.costs) c.args.work) tree nodes h c.loop-i.i (omega (arith, c.loop-i-test.false)) c.loop-i.invariant.good
