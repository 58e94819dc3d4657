use Rattle.std.proofs.Common.{rules, refl, sym, ap, subst, ◌∙◌, ℕ, length, None, inl, inr, ⊎_elim}
use Rattle.wh_strategy.specs.Rules.{IsCorrect}
use Rattle.wh_maint.specs.Asked.{AreBags}
use Rattle.wh_maint.specs.Comp.{bag_at}
use Rattle.wh_maint.specs.Contents.{AreContentsOf}
use Rattle.wh_maint.specs.Definition.{graph_of}
use Rattle.wh_maint.specs.Laws.{changed}
use Rattle.wh_carry.specs.Kept.{kept}
use Rattle.wh_carry.specs.Refused.{AreAllowedBelow, IsBaseFault}
use Rattle.wh_carry.specs.Steps.{AreSteps}
use Rattle.wh_carry.proofs.NewValues.{ends_in_contents}
use Rattle.wh_carry.proofs.Nights.{steps_end, tables_end}
use Rattle.wh_carry.proofs.Parts.{stages_in}
use Rattle.wh_night.specs.Tonight.{made_by}
use Rattle.wh_night.specs.Inner.Underway.{night_given}
use Rattle.wh_night.proofs.Beginnings.{begins, given_over}
use Rattle.wh_night.proofs.StageByStage.{first_fault}
use Rattle.wh_night.proofs.alone.night_alone.Goals as goal

pub through-requires-clause-stages : goal.through-requires-clause-stages
through-requires-clause-stages g c κs within =
    let ok : IsCorrect c.args.asked.now.catalog.now.views.children c.args.asked.now.correct.now.list = subst (λ shape. IsCorrect shape c.args.asked.now.correct.now.list) c.requires.judged c.strategy.ensures.rules in
    stages_in c.args.asked.now.catalog.now c.args.asked.now.correct.now.list ok c.as_slice.result.now (c.as_slice.ensures.value ∙ c.in-Ok-waves.ensures.stages)

pub through-requires-clause-begun : goal.through-requires-clause-begun
through-requires-clause-begun g c κs within =
    let cat = c.args.asked.now.catalog.now in
    let list = c.args.asked.now.correct.now.list in
    let ok : IsCorrect cat.views.children list = subst (λ shape. IsCorrect shape list) c.requires.judged c.strategy.ensures.rules in
    record {
      given = given_over list c.args.tables.items c.args.asked.now.changes.now None;
      fit = record { are = c.as_slice.ensures.value ∙ c.in-Ok-waves.ensures.stages; fit = tt };
      at = record { come = begins cat list c.args.tables.items c.args.asked.now.changes.now None 1 (kept c.in-Ok.state) _ c.new.ensures.items c.in-Ok.ensures.parts.catalogue ok c.in-Ok.ensures.first; out = refl };
    }

pub returns-in-Ok-through-clause-carried : goal.returns-in-Ok-through-clause-carried
returns-in-Ok-through-clause-carried g c =
    let cat = c.args.asked.now.catalog.now in
    let list = c.args.asked.now.correct.now.list in
    let old = bag_at c.args.tables.items in
    let changes = bag_at c.args.asked.now.changes.now in
    let t = given_over list c.args.tables.items c.args.asked.now.changes.now None in
    let ok : IsCorrect cat.views.children list = subst (λ shape. IsCorrect shape list) c.requires.judged c.strategy.ensures.rules in
    let come = (c.in-Ok-through.ensures.goes t (c.as_slice.ensures.value ∙ c.in-Ok-waves.ensures.stages)
    (record { come = begins cat list c.args.tables.items c.args.asked.now.changes.now None 1 (kept c.in-Ok.state) _ c.new.ensures.items c.in-Ok.ensures.parts.catalogue ok c.in-Ok.ensures.first; out = refl })).come in
    let no_fault : AreAllowedBelow cat old changes (length cat.views.children) = search rules in
    let new = c.through.new.progress in
    let become = λ (v : ℕ). tables_end cat list old changes come.stands.catalogue come.stands.correct (length list) (kept new.state) refl come.stands.agrees v in
    record {
      bags = subst (AreBags cat) (sym c.carried.ensures.tables) c.in-Ok-through.ensures.parts.tables;
      tables = λ v l. ap (λ bs. bag_at bs v) c.carried.ensures.tables ∙ become v;
      contents = λ are. subst (λ bs. AreContentsOf (graph_of cat) (changed old changes) (bag_at bs)) (sym c.carried.ensures.tables)
          (ends_in_contents cat list c.args.tables.items c.args.asked.now.changes.now _ come.stands.catalogue ok c.requires.tables c.requires.changes c.in-Ok-through.ensures.parts.tables no_fault come.passed (λ v l. become v) are);
      version = c.carried.ensures.version;
      steps = subst (AreSteps cat.views.children list old (made_by (night_given cat 1 t))) (sym c.carried.ensures.steps)
          (steps_end cat.views.children list old (made_by (night_given cat 1 t)) (length list) new.steps.items refl come.reported);
      allowed = no_fault;
      passed = come.passed;
    }

pub returns-in-Err-clause-refused : goal.returns-in-Err-clause-refused
returns-in-Err-clause-refused g c = inr (λ keys. subst (λ ts. IsBaseFault c.args.asked.now.catalog.now (bag_at ts) (bag_at c.args.asked.now.changes.now) c.in-Err.fault) c.deref.ensures.value c.in-Err.ensures.refused)

pub returns-clause-refused : goal.returns-clause-refused
returns-clause-refused g c =
    let cat = c.args.asked.now.catalog.now in
    let list = c.args.asked.now.correct.now.list in
    let ok : IsCorrect cat.views.children list = subst (λ shape. IsCorrect shape list) c.requires.judged c.strategy.ensures.rules in
    let allowed : AreAllowedBelow cat (bag_at c.args.tables.items) (bag_at c.args.asked.now.changes.now) (length cat.views.children) = search rules in
    let t = given_over list c.args.tables.items c.args.asked.now.changes.now None in
    let fault = c.in-Err-through.fault in
    let stops = c.in-Err-through.ensures.stops t (c.as_slice.ensures.value ∙ c.in-Ok-waves.ensures.stages)
    (record { come = begins cat list c.args.tables.items c.args.asked.now.changes.now None 1 (kept c.in-Ok.state) _ c.new.ensures.items c.in-Ok.ensures.parts.catalogue ok c.in-Ok.ensures.first; out = refl }) in
    ⊎_elim (λ m. inl m) (λ f. inr (λ keys. (allowed, first_fault cat t 1 keys fault f))) stops
