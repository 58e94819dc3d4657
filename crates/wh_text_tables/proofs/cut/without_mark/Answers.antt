use Rattle.std.proofs.Common.{rules, ◌∙◌, ◌-◌, ◌≤◌, length, drop, sym, arith}
use Rattle.std.proofs.lemmas.List.{length-drop, take_all}
use Rattle.wh_text_tables.proofs.CutLaws.{strip-few, strip-three}
use Rattle.wh_text_tables.proofs.cut.without_mark.Goals as goal

pub returns-then-text-lt3 : goal.returns-then-text-lt3
returns-then-text-lt3 c = sym (strip-few c.args.text.now c.if-text-lt3.true)

pub returns-then-is_mark : goal.returns-then-is_mark
returns-then-is_mark c =
    let text = c.args.text.now in
    let long : 3 ≤ length text = search rules in
    take_all (length text - 3) (drop 3 text) (let l = length-drop 3 text in omega (arith, l)) ∙ sym (rw (sym c.is_mark.ensures ∙ c.if-is_mark.true) at (strip-three text long))

pub returns-else-is_mark : goal.returns-else-is_mark
returns-else-is_mark c =
    let text = c.args.text.now in
    let long : 3 ≤ length text = search rules in
    sym (rw (sym c.is_mark.ensures ∙ c.if-is_mark.false) at (strip-three text long))
