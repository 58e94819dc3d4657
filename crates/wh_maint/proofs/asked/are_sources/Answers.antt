use Rattle.std.proofs.Common.{sym, ap, ◌∙◌}
use Rattle.std.proofs.lemmas.Bool.{false≢true}
use Rattle.wh_dag.specs.Shape.{children_of}
use Rattle.wh_maint.proofs.SourceTests.{distinct_told, among_other, some_of}
use Rattle.wh_maint.proofs.asked.are_sources.Goals as goal

pub returns-then-are_distinct : goal.returns-then-are_distinct
returns-then-are_distinct g c =
    let same = among_other c.args.sources.now c.children.result.now (children_of c.args.catalog.now.views.children c.args.view) (c.children.ensures.children ∙ ap (λ v. children_of v.children c.args.view) c.shape.ensures.views) c.are_among.result c.are_among.ensures in (
      λ t. record { some = some_of c.args.sources.now c.is_empty.result c.is_empty.ensures c.if-is_empty.false; distinct = (distinct_told c.args.sources.now).0 (sym c.are_distinct.ensures ∙ c.if-are_distinct.true); among = same.0 t },
      λ h. same.1 h.among,
    )

pub returns-else-are_distinct : goal.returns-else-are_distinct
returns-else-are_distinct g c = (λ t. absurd (false≢true (sym c.if-are_distinct.false ∙ t)), λ h. c.are_distinct.ensures ∙ (distinct_told c.args.sources.now).1 h.distinct)
