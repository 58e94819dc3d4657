use Rattle.std.proofs.Common.{◌||◌, eqb, ap, ◌∙◌}
use Rattle.wh_minwork.proofs.Hinting.{noted_comp, noted_inst}
use Rattle.wh_minwork.proofs.ready.Hints.note.Goals as goal

pub returns-in-Comp : goal.returns-in-Comp
returns-in-Comp c =
    let e = c.args.edges.now in
    let r = c.args.rest.now in
    let h = rw c.in-Comp.is at c.requires.hints in
    noted_comp e.views e.over e.under e.before r.comps r.insts c.args.self.now.comps c.args.self.now.insts _ _ c.in-Comp.v c.in-Comp.u c.requires.turned c.requires.nodes h c.comps_above-self.ensures.more
    (λ a. c.with-self.ensures a ∙ ap (λ z. eqb c.in-Comp.u a || z) (c.with.ensures a)) c.comps_above-self.ensures.done

pub returns-in-Inst : goal.returns-in-Inst
returns-in-Inst c =
    let e = c.args.edges.now in
    let r = c.args.rest.now in
    let h = rw c.in-Inst.is at c.requires.hints in
    noted_inst e.views e.over e.under e.before r.comps r.insts c.args.self.now.comps c.args.self.now.insts _ c.in-Inst.u c.requires.turned h c.join-self.ensures
