use Rattle.std.proofs.Common.{◌==◌, ap, sym, ◌∙◌}
use Rattle.wh_text_catalogue.proofs.FormulaForms.{member_count-entries}
use Rattle.wh_text_catalogue.proofs.definitions.expr_form.has_one_key.Goals as goal

pub returns : goal.returns
returns c = ap (λ n. n == 1) (c.len.ensures.len ∙ sym (member_count-entries c.args.members.now.entries))
