use Rattle.std.proofs.Common.{ap, sym, ◌∙◌, option_map, refl}
use Rattle.wh_strategy.specs.declared.expression.Expression.TheVariants.{Inst}
use Rattle.wh_text_lines.proofs.Spelled.{inst_of-form}
use Rattle.wh_text_lines.proofs.expression.inst_of.Goals as goal

pub returns-in_err-target : goal.returns-in_err-target
returns-in_err-target c =
    c.from_residual.ensures ∙ ap (option_map Inst) c.in_err-target.ensures
    ∙ sym (inst_of-form c.args.names.now c.args.words.now _ c.if-not-is_inst.ensures.value (c.if-not-is_inst.ensures.long refl))

pub returns : goal.returns
returns c =
    ap (option_map Inst) c.in_ok-target.ensures ∙ sym (inst_of-form c.args.names.now c.args.words.now _ c.if-not-is_inst.ensures.value (c.if-not-is_inst.ensures.long refl))
