use Rattle.std.proofs.Common.{rules, ◌≡◌, refl, ap, subst, ◌∙◌, List, length, cond, true, false}
use Rattle.wh_strategy.specs.Rules.{IsCorrect}
use Rattle.wh_strategy.specs.declared.expression.Expression.{Expression}
use Rattle.wh_maint.specs.Comp.{bag_at}
use Rattle.wh_carry.specs.Kept.{kept}
use Rattle.wh_carry.specs.Course.{HasRefusal}
use Rattle.wh_carry.specs.Night.{Night}
use Rattle.wh_carry.specs.Stages.{place_behind}
use Rattle.wh_carry.specs.Inner.Standing.{StandsAt}
use Rattle.wh_carry.proofs.CourseEnds.{last_tables}
use Rattle.wh_carry.proofs.Parts.{stages_in, stands_first}
use Rattle.wh_carry.proofs.course.course_of.Goals as goal

pub through-requires-clause-stages : goal.through-requires-clause-stages
through-requires-clause-stages g c κs within =
    let cat = c.args.catalog.now in
    let list : List Expression = c.args.correct.now.list in
    let ok : IsCorrect cat.views.children list = subst (λ shape. IsCorrect shape list) c.requires.judged c.strategy.ensures.rules in
    stages_in cat list ok c.as_slice.result.now (c.as_slice.ensures.value ∙ c.in_ok-stages.ensures.stages)

pub returns-then-not-ended-clause-parts : goal.returns-then-not-ended-clause-parts
returns-then-not-ended-clause-parts g c =
    let cat = c.args.catalog.now in
    let list : List Expression = c.args.correct.now.list in
    let ok : IsCorrect cat.views.children list = subst (λ shape. IsCorrect shape list) c.requires.judged c.strategy.ensures.rules in
    c.in_ok-course.ensures.parts (record { catalog = cat; list = list; tables = bag_at c.args.tables.items; changes = bag_at c.args.changes.now; keys = c.args.keys }) refl refl
    (c.as_slice.ensures.value ∙ c.in_ok-stages.ensures.stages)
    (stands_first cat list (bag_at c.args.tables.items) (bag_at c.args.changes.now) c.args.keys (kept c.in_ok-state.state) c.in_ok-state.ensures.parts.catalogue ok c.in_ok-state.ensures.first)

pub returns-then-not-ended-clause-ends : goal.returns-then-not-ended-clause-ends
returns-then-not-ended-clause-ends g c =
    let cat = c.args.catalog.now in
    let list : List Expression = c.args.correct.now.list in
    let n : Night = record { catalog = cat; list = list; tables = bag_at c.args.tables.items; changes = bag_at c.args.changes.now; keys = c.args.keys } in
    let ok : IsCorrect cat.views.children list = subst (λ shape. IsCorrect shape list) c.requires.judged c.strategy.ensures.rules in
    let no : c.in_ok-course.ended ≡ false = search rules in
    subst (λ b. cond b (StandsAt n (place_behind c.as_slice.result.now) (kept c.through.new.state)) (HasRefusal n)) no
    (c.in_ok-course.ensures.ends n refl refl (c.as_slice.ensures.value ∙ c.in_ok-stages.ensures.stages)
    (stands_first cat list (bag_at c.args.tables.items) (bag_at c.args.changes.now) c.args.keys (kept c.in_ok-state.state) c.in_ok-state.ensures.parts.catalogue ok c.in_ok-state.ensures.first))

pub returns-clause-parts : goal.returns-clause-parts
returns-clause-parts g c =
    let cat = c.args.catalog.now in
    let list : List Expression = c.args.correct.now.list in
    let ok : IsCorrect cat.views.children list = subst (λ shape. IsCorrect shape list) c.requires.judged c.strategy.ensures.rules in
    c.in_ok-course.ensures.parts (record { catalog = cat; list = list; tables = bag_at c.args.tables.items; changes = bag_at c.args.changes.now; keys = c.args.keys }) refl refl
    (c.as_slice.ensures.value ∙ c.in_ok-stages.ensures.stages)
    (stands_first cat list (bag_at c.args.tables.items) (bag_at c.args.changes.now) c.args.keys (kept c.in_ok-state.state) c.in_ok-state.ensures.parts.catalogue ok c.in_ok-state.ensures.first)

pub returns-clause-ends : goal.returns-clause-ends
returns-clause-ends g c =
    let cat = c.args.catalog.now in
    let list : List Expression = c.args.correct.now.list in
    let n : Night = record { catalog = cat; list = list; tables = bag_at c.args.tables.items; changes = bag_at c.args.changes.now; keys = c.args.keys } in
    let ok : IsCorrect cat.views.children list = subst (λ shape. IsCorrect shape list) c.requires.judged c.strategy.ensures.rules in
    let yes : c.in_ok-course.ended ≡ true = search rules in
    let whole = c.as_slice.ensures.value ∙ c.in_ok-stages.ensures.stages in
    let stands : StandsAt n (place_behind c.as_slice.result.now) (kept c.through.new.state) =
    subst (λ b. cond b (StandsAt n (place_behind c.as_slice.result.now) (kept c.through.new.state)) (HasRefusal n)) yes
    (c.in_ok-course.ensures.ends n refl refl whole
    (stands_first cat list (bag_at c.args.tables.items) (bag_at c.args.changes.now) c.args.keys (kept c.in_ok-state.state) c.in_ok-state.ensures.parts.catalogue ok c.in_ok-state.ensures.first)) in
    let same = c.into_tables.ensures in
    record {
      each = ap length same ∙ c.in_ok-course.ensures.kept.tables.each;
      are = λ v l. ap (λ bags. bag_at bags v) same ∙ last_tables n c.as_slice.result.now (kept c.through.new.state) whole stands v;
    }
