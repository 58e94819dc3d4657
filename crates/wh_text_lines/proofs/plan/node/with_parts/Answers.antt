use Rattle.std.proofs.Common.{ap, sym, ◌∙◌, option_map, ◌++◌, ◌+◌, drop}
use Rattle.wh_text_lines.specs.ExpressionText.{expression_of}
use Rattle.wh_text_lines.specs.NodeLine.{expressions_of}
use Rattle.wh_text_lines.proofs.CycleParts.{parted, parts-none, parts-some}
use Rattle.wh_text_lines.proofs.Spelled.{spelled}
use Rattle.wh_text_lines.proofs.plan.node.with_parts.Goals as goal

pub returns-in_default : goal.returns-in_default
returns-in_default c =
    let names = c.args.names.now in
    sym (
    c.loop-part.invariant ∙ parts-none names c.args.parts.now c.loop-part.part-index _ c.loop-part.list.items c.loop-part-test.true
    (sym c.in_default.is ∙ c.in_ok-expression.ensures ∙ ap (λ words. expression_of names (spelled words)) c.deref.ensures.value ∙ ap (expression_of names) c.in_ok-words.ensures)
    )

pub loop-part-preserved : goal.loop-part-preserved
loop-part-preserved c =
    let names = c.args.names.now in
    c.loop-part.invariant ∙ parts-some names c.args.parts.now c.loop-part.part-index _ c.loop-part.list.items c.in-Some.expression c.loop-part-test.true
    (sym c.in-Some.is ∙ c.in_ok-expression.ensures ∙ ap (λ words. expression_of names (spelled words)) c.deref.ensures.value ∙ ap (expression_of names) c.in_ok-words.ensures)
    ∙ ap (λ items. option_map (λ more. items ++ more) (expressions_of names (parted (drop (c.loop-part.part-index + 1) c.args.parts.now)))) (sym c.in_ok-push.ensures.items)
