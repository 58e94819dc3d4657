use Rattle.std.proofs.Common.{◌<◌, sym, ◌∙◌, arith}
use Rattle.wh_minwork.specs.Draft.{completed}
use Rattle.wh_minwork.proofs.Opening.{edge_small, still_leads, edge_two, edge_open}
use Rattle.wh_minwork.proofs.draft.Draft.open_couple.Goals as goal

pub offset_bounds-self-inside-u : goal.offset_bounds-self-inside-u
offset_bounds-self-inside-u c =
    let d = c.self.inside in
    let h = rw (← c.self.view_is) at c.requires in
    let s = edge_small d.children.now (completed d.ordered d.decided) c.args.u c.args.v c.args.w c.self.invariant.edges.shape_is h in
    let l : c.args.u < 64 = s.0 in
    omega arith

pub bounds-self-inside-u : goal.bounds-self-inside-u
bounds-self-inside-u c =
    let d = c.self.inside in
    let h = rw (← c.self.view_is) at c.requires in
    (edge_small d.children.now (completed d.ordered d.decided) c.args.u c.args.v c.args.w c.self.invariant.edges.shape_is h).0

pub holds-requires : goal.holds-requires
holds-requires c =
    let d = c.self.inside in
    let h = rw (← c.self.view_is) at c.requires in
    (edge_small d.children.now (completed d.ordered d.decided) c.args.u c.args.v c.args.w c.self.invariant.edges.shape_is h).1

pub couple_of-requires : goal.couple_of-requires
couple_of-requires c =
    let d = c.self.inside in
    let h = rw (← c.self.view_is) at c.requires in
    edge_two d.children.now d.ordered d.decided c.args.u c.args.v c.args.w c.self.invariant.ordered_all h (sym (c.holds.ensures ∙ c.self.invariant.settled_are c.args.u c.args.w) ∙ c.if-holds.false)

pub returns-then-holds : goal.returns-then-holds
returns-then-holds c =
    let d = c.self.inside in
    let h = rw (← c.self.view_is) at c.requires in
    rw (← c.self.view_is) (still_leads d.children.now d.ordered d.decided c.args.u c.args.v c.args.w h (sym (c.holds.ensures ∙ c.self.invariant.settled_are c.args.u c.args.w) ∙ c.if-holds.true))

pub returns-else-holds : goal.returns-else-holds
returns-else-holds c =
    let d = c.self.inside in
    let h = rw (← c.self.view_is) at c.requires in
    rw (← c.self.view_is) (edge_open d.children.now d.ordered d.decided c.args.u c.args.v c.args.w c.couple_of.result c.self.invariant.ordered_all h (sym (c.holds.ensures ∙ c.self.invariant.settled_are c.args.u c.args.w) ∙ c.if-holds.false) c.couple_of.ensures.lower c.couple_of.ensures.both, c.couple_of.ensures.both)
