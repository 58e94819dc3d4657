use Rattle.std.specs.declared.alloc.Global.{Global}
use Rattle.std.proofs.Common.{◌≡◌, ℕ, Vec, ◌++◌, ap, sym, ◌∙◌, arith, take, drop, length-drop, take-append-drop}
use Rattle.std.proofs.lemmas.List.{take_rest}
use Rattle.wh_text_bundle.specs.Files.{all_escaped}
use Rattle.wh_text_bundle.proofs.FiledParts.{all_plain, ended_body, on_ok}
use Rattle.wh_text_bundle.proofs.bundle.filed.lines_of_part.Goals as goal
use Rattle.wh_text_bundle.proofs.bundle.filed.lines_of_part.Goals.{then-plain_len-len+in_ok-rewrite, else-plain_len-len}

pub returns : goal.returns
returns c =
    let old = c.args.bytes.now.items in
    let s = c.args.start in
    let file = drop s old in
    let lines = rw (c.deref.ensures.value, take_rest old s) at c.plain_len.ensures in
    let written : c.if-plain_len-len.bytes.items ≡ take s old ++ all_escaped file = elim c.if-plain_len-len.branch [
      | then-plain_len-len+in_ok-rewrite w ↦ ap (λ (v : Vec ℕ Global). v.items) w.bytes-is ∙ w.in_ok-rewrite.ensures
      | else-plain_len-len w ↦ ap (λ (v : Vec ℕ Global). v.items) w.bytes-is ∙ sym (take-append-drop s old) ∙ ap (λ bs. take s old ++ bs) (sym (all_plain file c.plain_len.result (let less = w.if-plain_len-len.false in omega (arith, less, c.len.ensures, length-drop s old)) lines.plain))
    ] in
    on_ok c.end_line.result _ _ c.end_line.ensures (λ end. ended_body old c.if-plain_len-len.bytes.items c.end_line.new.bytes.items s c.requires written end)
