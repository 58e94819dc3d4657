use Rattle.std.proofs.Common.{rules, refl, ℕ, length, sym, ap, subst, ◌∙◌}
use Rattle.wh_strategy.specs.Rules.{IsCorrect}
use Rattle.wh_maint.specs.Asked.{AreBags}
use Rattle.wh_maint.specs.Comp.{bag_at}
use Rattle.wh_maint.specs.Definition.{graph_of}
use Rattle.wh_maint.specs.Contents.{AreContentsOf}
use Rattle.wh_maint.specs.Laws.{changed}
use Rattle.wh_carry.specs.Carry.{tables_after}
use Rattle.wh_carry.specs.Refused.{AreAllowedBelow, ArePassedBelow}
use Rattle.wh_carry.specs.Steps.{AreSteps}
use Rattle.wh_carry.proofs.Stands.{strategies_end_in_views}
use Rattle.wh_carry.proofs.NewValues.{ends_in_contents}
use Rattle.wh_carry.proofs.Nights.{base_tables}
use Rattle.wh_carry.proofs.carrying.carry.Goals as goal

pub returns-in-Ok-carry_out-clause-views : goal.returns-in-Ok-carry_out-clause-views
returns-in-Ok-carry_out-clause-views g c = λ are v l.
    let cat = c.args.catalog.now in
    let list = c.args.correct.now.list in
    let tables = bag_at c.args.tables.now in
    let changes = bag_at c.args.changes.now in
    let is = c.in-Ok.ensures.parts.catalogue in
    let ok = subst (λ shape. IsCorrect shape list) c.requires.judged c.strategy.ensures.rules in
    ap (λ bs. bag_at bs v) c.into_tables.ensures
    ∙ c.in-Ok-carry_out.ensures.tables tables changes c.in-Ok.ensures.first v
    ∙ ap (λ list. tables_after (graph_of cat) changes list tables v) (c.as_slice.ensures ∙ c.strategy.ensures.list)
    ∙ strategies_end_in_views cat list tables changes is ok (base_tables cat c.args.tables.now is c.requires.tables c.requires.fit) are v l

pub returns-in-Ok-carry_out-clause-carried : goal.returns-in-Ok-carry_out-clause-carried
returns-in-Ok-carry_out-clause-carried g c =
    let cat = c.args.catalog.now in
    let list = c.args.correct.now.list in
    let old = bag_at c.args.tables.now in
    let changes = bag_at c.args.changes.now in
    let is = c.in-Ok.ensures.parts.catalogue in
    let ok = subst (λ shape. IsCorrect shape list) c.requires.judged c.strategy.ensures.rules in
    let same = c.as_slice.ensures ∙ c.strategy.ensures.list in
    let no_fault : AreAllowedBelow cat old changes (length cat.views.children) = search rules in
    let made = c.in-Ok-carry_out.ensures in
    let all = subst (λ l. ArePassedBelow cat l old changes (length l)) same (made.passed old changes c.in-Ok.ensures.first) in
    let become = λ (v : ℕ). made.tables old changes c.in-Ok.ensures.first v ∙ ap (λ list. tables_after (graph_of cat) changes list old v) same in
    record {
      bags = subst (AreBags cat) (sym c.into_tables.ensures) made.parts.tables;
      tables = λ v l. ap (λ bs. bag_at bs v) c.into_tables.ensures ∙ become v;
      contents = λ are. subst (λ bs. AreContentsOf (graph_of cat) (changed old changes) (bag_at bs)) (sym c.into_tables.ensures)
          (ends_in_contents cat list c.args.tables.now c.args.changes.now _ is ok c.requires.tables c.requires.changes made.parts.tables no_fault all (λ v l. become v) are);
      version = refl;
      steps = subst (λ l. AreSteps cat.views.children l old (tables_after (graph_of cat) changes l old) c.in-Ok-carry_out.steps.items) same (made.steps old changes c.in-Ok.ensures.first);
      allowed = no_fault;
      passed = all;
    }
