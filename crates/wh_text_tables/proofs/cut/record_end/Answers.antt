use Rattle.std.proofs.Common.{◌≡◌, ◌∙◌, ◌-◌, length, take, drop, sym, arith}
use Rattle.std.proofs.lemmas.List.{length-drop, take_all}
use Rattle.wh_text_tables.proofs.CutLaws.{is-cut}
use Rattle.wh_text_tables.proofs.cut.record_end.Goals as goal

pub returns : goal.returns
returns c =
    let text = c.args.text.now in
    let place = c.in_ok-place.place in
    let whole : take (length text - place) (drop place text) ≡ drop place text = take_all (length text - place) (drop place text) (let l = length-drop place text in omega (arith, l)) in
    is-cut text place c.in_ok-place.ensures (sym c.begins_as_mark.ensures ∙ c.if-begins_as_mark.false) (rw whole at (sym c.begins_as_mark-2.ensures ∙ c.if-begins_as_mark-2.false))
