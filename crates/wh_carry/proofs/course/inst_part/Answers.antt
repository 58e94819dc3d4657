use Rattle.std.proofs.Common.{◌≡◌, refl, sym, ap, subst, ◌∙◌, Some, eqb}
use Rattle.wh_strategy.specs.declared.expression.Expression.TheVariants.{Inst}
use Rattle.wh_carry.specs.Kept.{Kept, kept, finished, installed}
use Rattle.wh_carry.specs.NightList.{new_counts, pages_of}
use Rattle.wh_carry.specs.Inner.Refused.{IsPassedIn, IsStepFaultIn}
use Rattle.wh_carry.specs.Inner.Standing.{PutsPages}
use Rattle.wh_carry.proofs.Parts.{inst_passes, inst_stops}
use Rattle.wh_carry.proofs.course.inst_part.Goals as goal

pub returns-in-None-clause-goes : goal.returns-in-None-clause-goes
returns-in-None-clause-goes g c = λ n before after same keys split stands.
    let v = c.args.view in
    let k : Kept = kept c.args.state.now in
    let next : Kept = kept c.inst_of.new.state in
    inst_passes n before after v k stands split next c.args.course.now (record { parts = c.inst_of.new.parts; stop = c.args.course.now.stop })
    (subst (λ cat. IsPassedIn cat k (Inst v)) (sym same) (c.in_ok-inst_of.ensures.passed c.in-None.is))
    (subst (λ cat. next ≡ installed v (finished cat (λ u. eqb v u) k)) (sym same) (c.in_ok-inst_of.ensures.done c.in-None.is))
    (subst (λ q. PutsPages v (pages_of q (new_counts (k.tables v) ((finished n.catalog (λ u. eqb v u) k).changes v))) c.args.course.now.parts.items c.inst_of.new.parts.items) (sym keys)
    (subst (λ cat. PutsPages v (pages_of c.args.keys (new_counts (k.tables v) ((finished cat (λ u. eqb v u) k).changes v))) c.args.course.now.parts.items c.inst_of.new.parts.items) (sym same) (c.in_ok-inst_of.ensures.puts c.in-None.is)))
    refl

pub returns-in-Some-clause-goes : goal.returns-in-Some-clause-goes
returns-in-Some-clause-goes g c = λ n before after same keys split stands.
    let v = c.args.view in
    let k : Kept = kept c.args.state.now in
    let f = c.in-Some.fault in
    inst_stops n before after v k stands split (kept c.inst_of.new.state) c.args.course.now (record { parts = c.inst_of.new.parts; stop = Some f }) f
    (λ e. c.in_ok-inst_of.ensures.memory (c.in-Some.is ∙ ap Some e))
    (subst (λ cat. IsStepFaultIn cat k (Inst v) f) (sym same) (c.in_ok-inst_of.ensures.refused f c.in-Some.is))
    (ap (λ p. p.items) (c.in_ok-inst_of.ensures.none f c.in-Some.is))
    refl
