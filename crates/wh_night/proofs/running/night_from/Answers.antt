use Rattle.std.proofs.Common.{◌≡◌, refl, sym, ap, subst, ◌∙◌, ℕ, List, [], length, Some, inr, arith}
use Rattle.wh_dag.specs.Catalog.{CatalogOf}
use Rattle.wh_row.specs.Bag.{Bag}
use Rattle.wh_strategy.specs.declared.expression.Expression.{Expression}
use Rattle.wh_strategy.specs.Rules.{IsCorrect}
use Rattle.wh_maint.specs.Asked.{AreBags}
use Rattle.wh_maint.specs.Comp.{bag_at}
use Rattle.wh_maint.specs.Finishing.{kind_in}
use Rattle.wh_maint.specs.Fit.{IsFitTable}
use Rattle.wh_store.specs.Operations.{Opens}
use Rattle.wh_store.specs.Faults.{publish_refusal}
use Rattle.wh_store.specs.Ledgers.{Ledger}
use Rattle.wh_carry.specs.Kept.{IsFirst, kept}
use Rattle.wh_carry.specs.Refused.{AreAllowedBelow, IsBaseFault}
use Rattle.wh_carry.specs.Waves.{stages_of}
use Rattle.wh_carry.specs.Night.{Night, AreAllowed}
use Rattle.wh_carry.proofs.NewValues.{ends_in_contents}
use Rattle.wh_carry.proofs.Parts.{stages_in}
use Rattle.wh_night.specs.Refusals.{IsRefused}
use Rattle.wh_night.specs.Tonight.{newest_in, tonight}
use Rattle.wh_night.specs.Inner.Underway.{Given, HasCome}
use Rattle.wh_night.proofs.Beginnings.{begins, given_over, later_so, none_refuses, none_then}
use Rattle.wh_night.proofs.FitFor.{allowed_for}
use Rattle.wh_night.proofs.Outs.{if_err, if_ok_on, if_ok_three, if_ok_two}
use Rattle.wh_night.proofs.Soundness.{done_tables, one_list, refused_newest, stays_sound}
use Rattle.wh_night.proofs.running.night_from.Given.{Over}
use Rattle.wh_night.proofs.running.night_from.Goals.{In-Ok-waves}
use Rattle.wh_night.proofs.running.night_from.Goals as goal

-- ---- where it begins: over the tables of the current version

module _ (g : Over) (c : In-Ok-waves g) where
  abbrev l : Ledger
  l = g.P.Publish.kept c.args.writer.now

  abbrev newest : List Bag
  newest = newest_in l

  abbrev changes : List Bag
  changes = c.args.asked.now.changes.now

  abbrev night : Night
  night = tonight c.args.asked.now.catalog.now c.args.asked.now.correct.now.list l changes c.args.asked.now.page_keys

  abbrev given : Given
  given = given_over c.args.asked.now.correct.now.list newest changes (Some l)

  ok : IsCorrect c.args.asked.now.catalog.now.views.children c.args.asked.now.correct.now.list
  ok = subst (λ shape. IsCorrect shape c.args.asked.now.correct.now.list) c.requires.judged c.strategy.ensures.rules

  first : IsFirst c.args.asked.now.catalog.now (bag_at newest) (bag_at changes) (kept c.in-Ok.state)
  first = subst (λ ts. IsFirst c.args.asked.now.catalog.now (bag_at ts) (bag_at changes) (kept c.in-Ok.state)) c.requires.current c.in-Ok.ensures.first

  allowed : AreAllowed night
  allowed = subst (λ ts. AreAllowedBelow c.args.asked.now.catalog.now (bag_at ts) (bag_at changes) (length c.args.asked.now.catalog.now.views.children)) (c.deref.ensures.value ∙ c.requires.current) c.in_default-base_changes.ensures.allowed

  come : (steps : List (Expression × ℕ)) → steps ≡ [] → HasCome night 0 (kept c.in-Ok.state) steps
  come steps none = begins c.args.asked.now.catalog.now c.args.asked.now.correct.now.list newest changes (Some l) c.args.asked.now.page_keys (kept c.in-Ok.state) steps none c.in-Ok.ensures.parts.catalogue ok first

pub returns-in-Err-clause-refused : goal.returns-in-Err-clause-refused
returns-in-Err-clause-refused g c =
    let cat : CatalogOf = c.args.asked.now.catalog.now in
    let l : Ledger = g.P.Publish.kept c.args.writer.now in
    let n = tonight cat c.args.asked.now.correct.now.list l c.args.asked.now.changes.now c.args.asked.now.page_keys in
    none_refuses (publish_refusal l Opens) _ _ c.in_default.ensures
    (subst (IsRefused n) (sym c.untouched-in-Err.ensures) (record {
      fault = c.in-Err.fault;
      told = c.of.ensures;
      why = inr (subst (λ ts. IsBaseFault cat (bag_at ts) (bag_at c.args.asked.now.changes.now) c.in-Err.fault) (c.deref.ensures.value ∙ c.requires.current) c.in-Err.ensures.refused);
    }))

pub run-answer-requires-clause-stages : goal.run-answer-requires-clause-stages
run-answer-requires-clause-stages g c κs within =
    let to = (goal.at.run-answer-requires-clause-stages g c).In-Ok-waves in
    stages_in c.args.asked.now.catalog.now c.args.asked.now.correct.now.list (ok g to) c.as_slice.result.now (c.as_slice.ensures.value ∙ c.in-Ok-waves.ensures.stages)

pub run-answer-requires-clause-free : goal.run-answer-requires-clause-free
run-answer-requires-clause-free g c κs within = none_then (publish_refusal (g.P.Publish.kept c.args.writer.now) Opens) c.in_default.ensures

pub run-answer-requires-clause-fit : goal.run-answer-requires-clause-fit
run-answer-requires-clause-fit g c κs within = λ v l unknown.
    subst (IsFitTable (kind_in c.args.asked.now.catalog.now v)) (sym (c.in-Ok.ensures.first.tables v ∙ ap (λ ts. bag_at ts v) c.requires.current)) (c.requires.fit.now v)

pub run-answer-requires-clause-begins : goal.run-answer-requires-clause-begins
run-answer-requires-clause-begins g c κs within =
    let to = (goal.at.run-answer-requires-clause-begins g c).In-Ok-waves in
    record {
      given = given g to;
      fit = record {
        are = c.as_slice.ensures.value ∙ c.in-Ok-waves.ensures.stages;
        fit = record {
          tables = record { each = c.requires.tables.each; are = λ v l. refl };
          fit = c.requires.fit.later (allowed_for c.args.asked.now.catalog.now (newest g to) c.args.asked.now.changes.now c.requires.tables c.requires.changes (allowed g to));
        };
      };
      before = refl;
      come = come g to _ c.new.ensures.items;
    }

pub returns-clause-published : goal.returns-clause-published
returns-clause-published g c =
    let to = (goal.at.returns-clause-published g c).In-Ok-waves in
    let cat : CatalogOf = c.args.asked.now.catalog.now in
    let list : List Expression = c.args.asked.now.correct.now.list in
    let before : Ledger = g.P.Publish.kept c.args.writer.now in
    let after : Ledger = g.P.Publish.kept c.run-answer.new.writer in
    let keys = c.args.asked.now.page_keys in
    let are : c.as_slice.result.now ≡ stages_of list = c.as_slice.ensures.value ∙ c.in-Ok-waves.ensures.stages in
    if_ok_three _ _ _ _ c.run-answer.result
    (λ made version bags done.
    let x = done (given g to) refl are (come g to _ c.new.ensures.items) in
    let have = done_tables cat list before after c.args.asked.now.changes.now keys (ok g to) c.requires.tables c.requires.least x.0 in
    let same = one_list made.tables.items (newest_in after) (bags.each ∙ sym have.each) (λ v l. let e = have.each in x.3 v ∙ sym (have.are v (omega (arith, e, l)))) in
    let wide = subst (AreBags cat) same bags in
    record {
      done = x.0;
      bags = wide;
      tables = have;
      contents = ends_in_contents cat list (newest g to) c.args.asked.now.changes.now (newest_in after) c.in-Ok.ensures.parts.catalogue (ok g to) c.requires.tables c.requires.changes wide (allowed g to) x.1 (λ v l. have.are v l);
      version = version;
      steps = x.2;
      allowed = allowed g to;
      passed = x.1;
    })
    c.run-answer.ensures.version c.run-answer.ensures.bags c.run-answer.ensures.done

pub returns-clause-tables : goal.returns-clause-tables
returns-clause-tables g c =
    let to = (goal.at.returns-clause-tables g c).In-Ok-waves in
    let cat : CatalogOf = c.args.asked.now.catalog.now in
    let list : List Expression = c.args.asked.now.correct.now.list in
    let after : Ledger = g.P.Publish.kept c.run-answer.new.writer in
    let are : c.as_slice.result.now ≡ stages_of list = c.as_slice.ensures.value ∙ c.in-Ok-waves.ensures.stages in
    if_ok_two _ _ _ c.run-answer.result
    (λ made bags done.
    let x = done (given g to) refl are (come g to _ c.new.ensures.items) in
    let have = done_tables cat list (g.P.Publish.kept c.args.writer.now) after c.args.asked.now.changes.now c.args.asked.now.page_keys (ok g to) c.requires.tables c.requires.least x.0 in
    one_list made.tables.items (newest_in after) (bags.each ∙ sym have.each) (λ v l. let e = have.each in x.3 v ∙ sym (have.are v (omega (arith, e, l)))))
    c.run-answer.ensures.bags c.run-answer.ensures.done

pub returns-clause-leaves : goal.returns-clause-leaves
returns-clause-leaves g c =
    let to = (goal.at.returns-clause-leaves g c).In-Ok-waves in
    let are : c.as_slice.result.now ≡ stages_of c.args.asked.now.correct.now.list = c.as_slice.ensures.value ∙ c.in-Ok-waves.ensures.stages in
    if_err _ _ c.run-answer.result (λ f h. (h (given g to) refl are (come g to _ c.new.ensures.items) (allowed g to)).0) c.run-answer.ensures.refused

pub returns-clause-newest : goal.returns-clause-newest
returns-clause-newest g c =
    let to = (goal.at.returns-clause-newest g c).In-Ok-waves in
    let are : c.as_slice.result.now ≡ stages_of c.args.asked.now.correct.now.list = c.as_slice.ensures.value ∙ c.in-Ok-waves.ensures.stages in
    refused_newest (night g to) (g.P.Publish.kept c.args.writer.now) (g.P.Publish.kept c.run-answer.new.writer) c.run-answer.result
    (if_err _ _ c.run-answer.result (λ f h. (h (given g to) refl are (come g to _ c.new.ensures.items) (allowed g to)).0) c.run-answer.ensures.refused)

pub returns-clause-refused : goal.returns-clause-refused
returns-clause-refused g c =
    let to = (goal.at.returns-clause-refused g c).In-Ok-waves in
    let are : c.as_slice.result.now ≡ stages_of c.args.asked.now.correct.now.list = c.as_slice.ensures.value ∙ c.in-Ok-waves.ensures.stages in
    none_refuses (publish_refusal (g.P.Publish.kept c.args.writer.now) Opens) _ _ c.in_default.ensures
    (if_err _ _ c.run-answer.result (λ f h. later_so (night g to) f (allowed g to) (h (given g to) refl are (come g to _ c.new.ensures.items) (allowed g to)).1) c.run-answer.ensures.refused)

pub returns-clause-sound : goal.returns-clause-sound
returns-clause-sound g c = λ sound.
    let to = (goal.at.returns-clause-sound g c).In-Ok-waves in
    let are : c.as_slice.result.now ≡ stages_of c.args.asked.now.correct.now.list = c.as_slice.ensures.value ∙ c.in-Ok-waves.ensures.stages in
    stays_sound c.args.asked.now.catalog.now c.args.asked.now.correct.now.list (g.P.Publish.kept c.args.writer.now) (g.P.Publish.kept c.run-answer.new.writer) c.args.asked.now.changes.now c.args.asked.now.page_keys c.in-Ok.ensures.parts.catalogue (ok g to)
    c.requires.tables c.requires.changes c.requires.least c.requires.most (allowed g to) sound c.current.ensures.well_formed c.run-answer.result
    (if_ok_on _ _ c.run-answer.result (λ r h. (h (given g to) refl are (come g to _ c.new.ensures.items)).0) c.run-answer.ensures.done)
    (if_err _ _ c.run-answer.result (λ f h. (h (given g to) refl are (come g to _ c.new.ensures.items) (allowed g to)).0) c.run-answer.ensures.refused)
