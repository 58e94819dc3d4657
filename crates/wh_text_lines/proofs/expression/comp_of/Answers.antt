use Rattle.std.proofs.Common.{ap, sym, ◌∙◌, drop, refl}
use Rattle.wh_text_lines.specs.ExpressionText.{views_of, comp_from}
use Rattle.wh_text_lines.proofs.Spelled.{spelled, comp_of-form}
use Rattle.wh_text_lines.proofs.expression.comp_of.Goals as goal

pub returns-in_default : goal.returns-in_default
returns-in_default c =
    ap (λ target. comp_from target (views_of c.args.names.now (spelled (drop 3 c.args.words.now)))) c.in_default.ensures
    ∙ sym (comp_of-form c.args.names.now c.args.words.now _ c.if-not-is_comp.ensures.value (c.if-not-is_comp.ensures.long refl))
