use Rattle.std.proofs.Common.{◌≤◌, ◌∙◌, ◌++◌, sym, ap, length, drop, append-nil, arith}
use Rattle.std.proofs.lemmas.List.{drop_all}
use Rattle.wh_dialogue.proofs.SizeLines.{no_lines}
use Rattle.wh_dialogue.proofs.tables.append_sizes.Goals as goal

pub returns-in_default : goal.returns-in_default
returns-in_default c =
    let out = c.loop-view.out.items in
    let view = c.loop-view.view in
    let sizes = c.args.sizes.now in
    let past : length sizes ≤ view = omega (arith, c.in_default.ensures.lookup) in
    sym (append-nil out) ∙ ap (λ text. out ++ text) (sym (no_lines (drop view c.args.names.now) (drop view sizes) (drop_all view sizes past))) ∙ c.loop-view.invariant
