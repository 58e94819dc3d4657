use Rattle.wh_dag.proofs.SiblingLists.{on_err}
use Rattle.wh_minwork.proofs.Looking.{node_by_view, over_within, placed_left, placed_sorted, round_of, turned_edges}
use Rattle.wh_minwork.proofs.Rounds.{simple_round}
use Rattle.wh_minwork.proofs.sort.sort.Goals as goal

pub place_all-requires-clause-views : goal.place_all-requires-clause-views
place_all-requires-clause-views c =
    let e = c.args.edges.now in
    over_within e.views e.over e.under e.before c.requires.0 c.requires.1 c.requires.2

pub place_all-requires-clause-turned : goal.place_all-requires-clause-turned
place_all-requires-clause-turned c =
    let e = c.args.edges.now in
    turned_edges e.views e.over e.under e.before c.requires.0 c.requires.1 c.requires.2

pub cycle-requires-clause-nodes : goal.cycle-requires-clause-nodes
cycle-requires-clause-nodes c =
    let e = c.args.edges.now in
    placed_left e.views e.over e.before c.in_ok-placed.rest.comps c.in_ok-placed.rest.insts c.in_ok-placed.placed.items c.in_ok-placed.ensures.placed

pub returns-in_ok-cycle-in-Some-clause-sort : goal.returns-in_ok-cycle-in-Some-clause-sort
returns-in_ok-cycle-in-Some-clause-sort c shape decided h =
    let e = c.args.edges.now in
    simple_round shape decided _ (round_of e.views e.over e.under e.before shape decided _ h c.in_ok-cycle-in-Some.ensures.round) c.in_ok-cycle-in-Some.ensures.once

pub returns-in-None-clause-sort : goal.returns-in-None-clause-sort
returns-in-None-clause-sort c shape decided h =
    let e = c.args.edges.now in
    placed_sorted e.views e.over e.under e.before c.in_ok-placed.rest.comps c.in_ok-placed.rest.insts shape decided c.in_ok-placed.placed.items h c.in_ok-placed.ensures.placed c.in-None.ensures

pub returns-in_err-placed-clause-some : goal.returns-in_err-placed-clause-some
returns-in_err-placed-clause-some c =
    let e = c.args.edges.now in
    let some = c.in_err-placed.ensures.memory in
    on_err _ (node_by_view e.views e.over e.under e.before some.0 some.1)

pub returns-in_err-cycle-in-Some-clause-some : goal.returns-in_err-cycle-in-Some-clause-some
returns-in_err-cycle-in-Some-clause-some c =
    let e = c.args.edges.now in
    let left = placed_left e.views e.over e.before c.in_ok-placed.rest.comps c.in_ok-placed.rest.insts c.in_ok-placed.placed.items c.in_ok-placed.ensures.placed in
    on_err _ (node_by_view e.views e.over e.under e.before c.in-Some.start (left.each c.in-Some.start c.in-Some.ensures.1))
