use Rattle.std.proofs.Common.{ap, sym, ◌∙◌, option_map, ◌++◌, ◌+◌, drop}
use Rattle.wh_text_lines.specs.ExpressionText.{views_of}
use Rattle.wh_text_lines.proofs.Spelled.{spelled, views_of-none, views_of-some}
use Rattle.wh_text_lines.proofs.expression.views_of.Goals as goal

pub returns-in_default : goal.returns-in_default
returns-in_default c =
    sym (c.loop-word.invariant ∙ views_of-none c.args.names.now c.args.words.now c.loop-word.word-index _ c.loop-word.views.items c.loop-word-test.true c.in_default.ensures)

pub loop-word-preserved : goal.loop-word-preserved
loop-word-preserved c =
    c.loop-word.invariant ∙ views_of-some c.args.names.now c.args.words.now c.loop-word.word-index _ c.loop-word.views.items c.in-Some.view c.loop-word-test.true c.in-Some.ensures
    ∙ ap (λ items. option_map (λ views. items ++ views) (views_of c.args.names.now (spelled (drop (c.loop-word.word-index + 1) c.args.words.now)))) (sym c.in_ok-push.ensures.items)
