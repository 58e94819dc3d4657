use Rattle.std.proofs.Common.{◌≡◌, ◌++◌, ◌∷◌, List, ℕ, OnOk, subst, ap, ◌∙◌, sym, flat_map}
use Rattle.std.specs.Prelude.{codes}
use Rattle.wh_dag.specs.Written.{name_of}
use Rattle.wh_text_lines.specs.ExpressionText.{expression_text}
use Rattle.wh_text_lines.proofs.ExpressionPieces.{comp_text-pieces}
use Rattle.wh_text_lines.proofs.expression.append_expression.Goals as goal

pub returns-in_ok-extend_from_slice-in-Comp-2 : goal.returns-in_ok-extend_from_slice-in-Comp-2
returns-in_ok-extend_from_slice-in-Comp-2 c =
    let names : List (List ℕ) = c.args.names.now in
    let before : List ℕ = c.args.out.now.items in
    let target = c.in_ok-extend_from_slice-in-Comp.ensures.items in
    let front = c.in_ok-append_name-in-Comp.ensures ∙ ap (λ t. t ++ name_of names c.in-Comp.target) target in
    let whole = c.in_ok-extend_from_slice-in-Comp-2.ensures.items ∙ ap (λ t. t ++ codes " from") front in
    let pieces = ap (λ t. t ++ flat_map (λ view. 32 ∷ name_of names view) c.as_slice.result.now) whole
    ∙ ap (λ sources. before ++ codes "comp " ++ name_of names c.in-Comp.target ++ codes " from" ++ flat_map (λ view. 32 ∷ name_of names view) sources) c.as_slice.ensures
    ∙ comp_text-pieces names before c.in-Comp.target c.in-Comp.sources ∙ ap (λ e. before ++ expression_text names e) (sym c.in-Comp.is) in
    subst (λ t. OnOk c.append_sources.result (c.append_sources.new.out.items ≡ t)) pieces c.append_sources.ensures
